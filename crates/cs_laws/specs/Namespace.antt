-- The namespace: which names stand in which directories, as operations are done one after another.
use Rattle.std.specs.Prelude.{ℕ, ◌+◌, ◌==◌, ◌&&◌, ◌||◌, not, Bool, true, false, List, [], ◌∷◌, ◌++◌, filter, find, nat_lt, Option, Some, None, if◌then◌else◌}
use Rattle.std.specs.Cmp.Lexicographic.{slice_cmp}
use Rattle.std.specs.Ordering.{is_lt, nat_cmp}
use Rattle.std.specs.List.{list_any}
use Rattle.std.specs.Str.{bytes_eq}
use Rattle.cs_laws.specs.declared.requests.OpAnswer.{OpAnswer}
use Rattle.cs_laws.specs.declared.requests.OpAnswer.TheVariants as replies
use Rattle.cs_laws.specs.declared.requests.ReqOp.{ReqOp}
use Rattle.cs_laws.specs.declared.requests.ReqOp.TheVariants as ops

-- an entry of a directory
pub record Named : Type 0 where
  pub dir : ℕ
  pub name : List ℕ
  pub ino : ℕ
  -- it is that of a directory
  pub is_dir : Bool

pub record Names : Type 0 where
  -- the entries, by their directory's number, and then by name, in the order of bytes
  pub entries : List Named
  -- each file that was made, whether it still has a name or not, in the order in which they were
  pub files : List ℕ
  -- how many directories and files operations have made
  pub made : ℕ

abbrev pub no_names : Names
no_names = record { entries = []; files = []; made = 0 }

-- Entries

abbrev pub is_entry : ℕ → List ℕ → Named → Bool
is_entry d name e = (e.dir == d) && bytes_eq e.name name

abbrev pub entry_at : Names → ℕ → List ℕ → Option Named
entry_at ns d name = find (is_entry d name) ns.entries

abbrev pub has_entry : Names → ℕ → List ℕ → Bool
has_entry ns d name = list_any (is_entry d name) ns.entries

abbrev pub is_ahead : Named → Named → Bool
is_ahead x y = nat_lt x.dir y.dir || ((x.dir == y.dir) && is_lt (slice_cmp nat_cmp x.name y.name))

-- an entry at its place among others
abbrev pub with_entry : Named → List Named → List Named
with_entry x [] = x ∷ []
with_entry x (y ∷ ys) = if is_ahead x y then x ∷ y ∷ ys else y ∷ with_entry x ys

abbrev pub without_entry : ℕ → List ℕ → List Named → List Named
without_entry d name es = filter (λ e. not (is_entry d name e)) es

-- the entries of a directory, by name
abbrev pub entries_of : ℕ → Names → List Named
entries_of d ns = filter (λ e. e.dir == d) ns.entries

-- Inodes

abbrev pub is_dir_entry : ℕ → Named → Bool
is_dir_entry d e = e.is_dir && (e.ino == d)

-- the root, or a directory that has a name
abbrev pub has_dir : Names → ℕ → Bool
has_dir ns d = (d == 1) || list_any (is_dir_entry d) ns.entries

abbrev pub has_file : Names → ℕ → Bool
has_file ns f = list_any (λ g. g == f) ns.files

-- the inode of the first directory or file that an operation makes
abbrev pub first_made : ℕ
first_made = 10000

abbrev pub next_ino : Names → ℕ
next_ino ns = first_made + ns.made

-- Answers

-- an operation in a directory has this answer, if the directory stands
abbrev pub within : Names → ℕ → OpAnswer → OpAnswer
within ns d a = if has_dir ns d then a else if has_file ns d then replies.NotDir else replies.Missing

abbrev pub made_at : Names → ℕ → List ℕ → OpAnswer
made_at ns d name = if has_entry ns d name then replies.Exists else replies.Made (next_ino ns)

-- a directory that has entries stays
abbrev pub unlinked : Names → Option Named → OpAnswer
unlinked ns None = replies.Missing
unlinked ns (Some e) = if e.is_dir && list_any (λ x. x.dir == e.ino) ns.entries then replies.NotEmpty else replies.Gone

abbrev pub renamed : Names → ℕ → List ℕ → List ℕ → OpAnswer
renamed ns d name new = if has_entry ns d name then (if has_entry ns d new then replies.Exists else replies.Moved) else replies.Missing

abbrev pub found : Option Named → OpAnswer
found None = replies.Missing
found (Some e) = replies.Found e.ino

abbrev pub answer_on : Names → ReqOp → OpAnswer
answer_on ns (ops.Mkdir d name) = within ns d (made_at ns d name)
answer_on ns (ops.Create d name) = within ns d (made_at ns d name)
answer_on ns (ops.Unlink d name) = within ns d (unlinked ns (entry_at ns d name))
answer_on ns (ops.Rename d name new) = within ns d (renamed ns d name new)
answer_on ns (ops.Lookup d name) = within ns d (found (entry_at ns d name))

-- What operations do

abbrev pub with_dir : ℕ → List ℕ → ℕ → Names → Names
with_dir d name i ns =
    record { entries = with_entry (record { dir = d; name = name; ino = i; is_dir = true }) ns.entries; files = ns.files; made = ns.made + 1 }

abbrev pub with_file : ℕ → List ℕ → ℕ → Names → Names
with_file d name i ns =
    record { entries = with_entry (record { dir = d; name = name; ino = i; is_dir = false }) ns.entries; files = ns.files ++ i ∷ []; made = ns.made + 1 }

abbrev pub moved : List ℕ → Option Named → List Named → List Named
moved new None es = es
moved new (Some e) es = with_entry (record e { name = new }) (without_entry e.dir e.name es)

-- by the answer
abbrev pub after_answer : ReqOp → OpAnswer → Names → Names
after_answer (ops.Mkdir d name) (replies.Made i) ns = with_dir d name i ns
after_answer (ops.Create d name) (replies.Made i) ns = with_file d name i ns
after_answer (ops.Unlink d name) replies.Gone ns = record ns { entries = without_entry d name ns.entries }
after_answer (ops.Rename d name new) replies.Moved ns = record ns { entries = moved new (entry_at ns d name) ns.entries }
after_answer _ _ ns = ns

abbrev pub after : Names → ReqOp → Names
after ns op = after_answer op (answer_on ns op) ns

-- What lines make before the run begins: a directory or a file, as an entry under the letter d or f with its number

abbrev pub with_setup_dir : ℕ → List ℕ → ℕ → Names → Names
with_setup_dir d name i ns = record (with_dir d name i ns) { made = ns.made }

abbrev pub with_setup_file : ℕ → List ℕ → ℕ → Names → Names
with_setup_file d name i ns = record (with_file d name i ns) { made = ns.made }

-- The entries that an operation names

abbrev pub is_named : ℕ → List ℕ → ℕ → List ℕ → Bool
is_named d name e other = (e == d) && bytes_eq other name

abbrev pub names_entry : ReqOp → ℕ → List ℕ → Bool
names_entry (ops.Mkdir e other) d name = is_named d name e other
names_entry (ops.Create e other) d name = is_named d name e other
names_entry (ops.Unlink e other) d name = is_named d name e other
names_entry (ops.Rename e other new) d name = is_named d name e other || is_named d name e new
names_entry (ops.Lookup e other) d name = is_named d name e other
