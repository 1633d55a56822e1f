-- What lines make before the run begins.
use Rattle.std.specs.Prelude.{◌≡◌, ℕ, ◌≤◌, ◌==◌, ◌||◌, Bool, true, false, List, ◌++◌, codes, decimal, if◌then◌else◌}
use Rattle.std.specs.List.{AllByRecursion, list_any}
use Rattle.cs_laws.specs.Namespace.{Named, Names, has_dir, has_file, with_setup_dir, with_setup_file}
use Rattle.cs_names.specs.declared.setup.SetupStep.{SetupStep}
use Rattle.cs_names.specs.declared.setup.SetupStep.TheVariants as steps

-- the letter d or f, and the number of the inode
abbrev pub setup_name : Bool → ℕ → List ℕ
setup_name true i = codes "d" ++ decimal i
setup_name false i = codes "f" ++ decimal i

-- a standing directory or a file has the inode
abbrev pub is_in_use : ℕ → Names → Bool
is_in_use i ns = has_dir ns i || has_file ns i

-- d: the directory in which the inode is made
abbrev pub setup_step : ℕ → ℕ → Names → SetupStep
setup_step i d ns = if is_in_use i ns then steps.Exists else if has_dir ns d then steps.Made else steps.NoDir

abbrev pub with_setup : Bool → ℕ → ℕ → Names → Names
with_setup true i d ns = with_setup_dir d (setup_name true i) i ns
with_setup false i d ns = with_setup_file d (setup_name false i) i ns

abbrev pub after_step : SetupStep → Bool → ℕ → ℕ → Names → Names
after_step steps.Made is_dir i d ns = with_setup is_dir i d ns
after_step _ is_dir i d ns = ns

abbrev pub after_setup : Bool → ℕ → ℕ → Names → Names
after_setup is_dir i d ns = after_step (setup_step i d ns) is_dir i d ns

-- an entry that such a line made
pub record IsSetupEntry (files : List ℕ) (e : Named) : Type 0 where
  pub name : e.name ≡ setup_name e.is_dir e.ino
  pub small : e.ino ≤ 9999
  pub file : (e.is_dir || list_any (λ g. g == e.ino) files) ≡ true

-- no operation came yet: each entry is as such a line made it
abbrev pub IsSetUp : Names → Type 0
IsSetUp ns = AllByRecursion (IsSetupEntry ns.files) ns.entries
