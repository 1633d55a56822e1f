-- What the client knows of files and directories: what setup lines made, and what the delivered answers to its requests did.
use Rattle.std.specs.Prelude.{ℕ, ◌||◌, Bool, List, [], ◌∷◌, ◌++◌, if◌then◌else◌}
use Rattle.cs_laws.specs.declared.events.Event.{Event}
use Rattle.cs_laws.specs.declared.events.Event.TheVariants as events
use Rattle.cs_laws.specs.declared.answers.Answer.{Answer}
use Rattle.cs_laws.specs.declared.answers.Answer.TheVariants as answers
use Rattle.cs_laws.specs.declared.answers.Entry.{Entry}
use Rattle.cs_laws.specs.Events.{files, setup_file}
use Rattle.cs_laws.specs.Made.{Made, home_with, made_by, makes_dir, makes_file, path_with, with_files}
use Rattle.cs_laws.specs.Requests.{Reply, Request, has_reply, op_of, replies, requests}
use Rattle.cs_laws.specs.Tree.{home, is_directory, path}

-- The first answer to a request tells what it made. xs, rs: the requests that were sent, and the answers that were delivered, before
-- the entry.
abbrev pub client_made_then : Event → Answer → List Request → List Reply → List Made → List Made
client_made_then events.ToClient (answers.Unsafe tid a) xs rs ms = if has_reply tid rs then ms else ms ++ made_by (op_of tid xs) a
client_made_then _ _ xs rs ms = ms

abbrev pub client_made : List Entry → List Made
client_made [] = []
client_made (x ∷ h) = client_made_then x.event x.answer (requests h) (replies h) (client_made h)

abbrev pub client_knows : List Entry → ℕ → Bool
client_knows h f = setup_file h f || makes_file f (client_made h)

-- the files that the client knows, the last one first
abbrev pub client_files : List Entry → List ℕ
client_files h = with_files (client_made h) (files h)

abbrev pub client_dir : List Entry → ℕ → Bool
client_dir h d = is_directory h d || makes_dir d (client_made h)

-- a directory and those above it; of one that the client doesn't know, the root
abbrev pub client_path : List Entry → ℕ → List ℕ
client_path h d = path_with (client_made h) (λ e. path h e) d

-- the directory in which a file was made
abbrev pub client_home : List Entry → ℕ → ℕ
client_home h f = home_with (client_made h) f (home h f)

-- the directories that hold a file, the nearest first
abbrev pub client_file_path : List Entry → ℕ → List ℕ
client_file_path h f = client_path h (client_home h f)
