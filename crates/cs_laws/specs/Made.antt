-- The directories and files that requests made: what they add to those of the setup lines.
use Rattle.std.specs.Prelude.{ℕ, ◌==◌, ◌&&◌, not, Bool, true, false, List, [], ◌∷◌, length, flat_map, Option, Some, None, if◌then◌else◌}
use Rattle.std.specs.List.{list_any}
use Rattle.cs_laws.specs.declared.records.Record.{Record}
use Rattle.cs_laws.specs.declared.records.RecordBody.{RecordBody}
use Rattle.cs_laws.specs.declared.records.RecordBody.TheVariants as bodies
use Rattle.cs_laws.specs.declared.requests.OpAnswer.{OpAnswer}
use Rattle.cs_laws.specs.declared.requests.OpAnswer.TheVariants as replies
use Rattle.cs_laws.specs.declared.requests.ReqOp.{ReqOp}
use Rattle.cs_laws.specs.declared.requests.ReqOp.TheVariants as ops
use Rattle.cs_laws.specs.declared.answers.Entry.{Entry}
use Rattle.cs_laws.specs.Tree.{directories, path, with_directory}

-- a directory or a file that was made in a directory
pub record Made : Type 0 where
  pub ino : ℕ
  pub dir : ℕ
  pub is_dir : Bool

-- what an operation with its answer makes
abbrev pub made_by : Option ReqOp → OpAnswer → List Made
made_by (Some (ops.Mkdir d name)) (replies.Made i) = record { ino = i; dir = d; is_dir = true } ∷ []
made_by (Some (ops.Create d name)) (replies.Made i) = record { ino = i; dir = d; is_dir = false } ∷ []
made_by _ _ = []

-- what a record tells of it
abbrev pub made_of : RecordBody → List Made
made_of (bodies.Request tid op answer) = made_by (Some op) answer
made_of _ = []

abbrev pub made_in : List Record → List Made
made_in rs = flat_map (λ r. made_of r.body) rs

abbrev pub is_made_dir : ℕ → Made → Bool
is_made_dir d m = m.is_dir && (m.ino == d)

abbrev pub is_made_file : ℕ → Made → Bool
is_made_file f m = not m.is_dir && (m.ino == f)

abbrev pub makes_dir : ℕ → List Made → Bool
makes_dir d ms = list_any (is_made_dir d) ms

abbrev pub makes_file : ℕ → List Made → Bool
makes_file f ms = list_any (is_made_file f) ms

-- fs: the files before these, the last one first
abbrev pub with_files : List Made → List ℕ → List ℕ
with_files [] fs = fs
with_files (m ∷ ms) fs = with_files ms (if m.is_dir then fs else m.ino ∷ fs)

-- up: the path of each directory before it was made
abbrev pub with_made : Made → (ℕ → List ℕ) → ℕ → List ℕ
with_made m up d = if is_made_dir d m then m.ino ∷ up m.dir else up d

abbrev pub path_with : List Made → (ℕ → List ℕ) → ℕ → List ℕ
path_with [] up = up
path_with (m ∷ ms) up = path_with ms (with_made m up)

-- was: the directory of the file before
abbrev pub home_with : List Made → ℕ → ℕ → ℕ
home_with [] f was = was
home_with (m ∷ ms) f was = home_with ms f (if is_made_file f m then m.dir else was)

-- ds: the directories before, parents first
abbrev pub dirs_with : List Made → (ℕ → List ℕ) → List ℕ → List ℕ
dirs_with [] up ds = ds
dirs_with (m ∷ ms) up ds =
    dirs_with ms (with_made m up) (if m.is_dir then with_directory (λ d. length (with_made m up d)) m.ino ds else ds)

-- by the setup lines of a history and these records

abbrev pub path_by : List Record → List Entry → ℕ → List ℕ
path_by rs h d = path_with (made_in rs) (λ e. path h e) d

abbrev pub dirs_by : List Record → List Entry → List ℕ
dirs_by rs h = dirs_with (made_in rs) (λ e. path h e) (directories h)
