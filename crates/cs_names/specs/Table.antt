-- The tables of the namespace against its definitions.
use Rattle.std.specs.Prelude.{
  ◌≡◌,
  ℕ,
  ◌+◌,
  ◌≤◌,
  ◌==◌,
  Bool,
  true,
  false,
  All,
  List,
  count_by,
  filter,
  map,
  Option,
  Some,
  None,
  if◌then◌else◌,
}
use Rattle.std.specs.List.{list_any}
use Rattle.std.specs.List.Sorted.{IsStrictlySortedBy}
use Rattle.std.specs.Map.{keys_of}
use Rattle.std.specs.Cmp.Lexicographic.{slice_cmp}
use Rattle.std.specs.Ordering.{nat_cmp, ordering_then}
use Rattle.std.specs.declared.cmp.Ordering.{Ordering}
use Rattle.cs_ids.specs.Names.{is_name}
use Rattle.cs_laws.specs.declared.requests.OpAnswer.{OpAnswer}
use Rattle.cs_laws.specs.declared.requests.OpAnswer.TheVariants as replies
use Rattle.cs_laws.specs.declared.requests.ReqOp.{ReqOp}
use Rattle.cs_laws.specs.declared.requests.ReqOp.TheVariants as ops
use Rattle.cs_laws.specs.Namespace.{Named, Names, first_made, has_dir, has_file, is_dir_entry}
use Rattle.cs_names.specs.declared.table.Entry.{Entry}
use Rattle.cs_names.specs.declared.table.EntryKey.{EntryKey}

-- Entries

abbrev pub key_cmp : EntryKey → EntryKey → Ordering
key_cmp a b = ordering_then (nat_cmp a.dir b.dir) (slice_cmp nat_cmp a.name.items b.name.items)

abbrev pub named_of : EntryKey × Entry → Named
named_of e = record { dir = e.0.dir; name = e.0.name.items; ino = e.1.ino; is_dir = e.1.is_dir }

abbrev pub named_all : List (EntryKey × Entry) → List Named
named_all es = map named_of es

-- the entries of a directory
abbrev pub entries_in : ℕ → List (EntryKey × Entry) → List (EntryKey × Entry)
entries_in d es = filter (λ e. e.0.dir == d) es

abbrev pub has_entries : ℕ → List (EntryKey × Entry) → Bool
has_entries d es = list_any (λ e. e.0.dir == d) es

-- Inodes

abbrev pub is_among : ℕ → List ℕ → Bool
is_among i is = list_any (λ j. i == j) is

-- at how many places a directory stands: the root at one of its own, and each other one under its names
abbrev pub places_of : ℕ → List Named → ℕ
places_of d es = (if d == 1 then 1 else 0) + count_by (is_dir_entry d) es

-- each directory stands at one place, and no number is used that is yet to be drawn
pub record IsTable (es : List (EntryKey × Entry)) (dirs files : List ℕ) (made : ℕ) : Type 0 where
  pub ordered : IsStrictlySortedBy key_cmp (keys_of es)
  pub named : All (λ (k : EntryKey). is_name k.name.items ≡ true) (keys_of es)
  pub standing : (d : ℕ) → places_of d (named_all es) ≡ (if is_among d dirs then 1 else 0)
  pub new_dir : (d : ℕ) → first_made + made ≤ d → is_among d dirs ≡ false
  pub new_file : (f : ℕ) → first_made + made ≤ f → is_among f files ≡ false

-- Operations

-- why nothing can be done in a directory
abbrev pub refusal : Names → ℕ → Option OpAnswer
refusal ns d = if has_dir ns d then None else Some (if has_file ns d then replies.NotDir else replies.Missing)

abbrev pub making : Bool → ℕ → List ℕ → ReqOp
making true d name = ops.Mkdir d name
making false d name = ops.Create d name
