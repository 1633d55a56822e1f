-- What the server knows of files and directories: what setup lines made, and what standing requests did. A directory or a file that has
-- no name any more is still known.
use Rattle.std.specs.Prelude.{ℕ, ◌||◌, Bool, List}
use Rattle.cs_laws.specs.declared.answers.Entry.{Entry}
use Rattle.cs_laws.specs.declared.records.Record.{Record}
use Rattle.cs_laws.specs.Events.{setup_file}
use Rattle.cs_laws.specs.History.{stand}
use Rattle.cs_laws.specs.Made.{Made, dirs_by, home_with, made_in, makes_dir, makes_file, path_by}
use Rattle.cs_laws.specs.Tree.{home, is_directory}

abbrev pub server_made : List Entry → List Made
server_made h = made_in (stand h)

abbrev pub server_knows : List Entry → ℕ → Bool
server_knows h f = setup_file h f || makes_file f (server_made h)

abbrev pub server_dir : List Entry → ℕ → Bool
server_dir h d = is_directory h d || makes_dir d (server_made h)

abbrev pub server_path : List Entry → ℕ → List ℕ
server_path h d = path_by (stand h) h d

-- all of them, parents first
abbrev pub server_dirs : List Entry → List ℕ
server_dirs h = dirs_by (stand h) h

abbrev pub server_home : List Entry → ℕ → ℕ
server_home h f = home_with (server_made h) f (home h f)

-- the directories that hold a file, the nearest first
abbrev pub server_file_path : List Entry → ℕ → List ℕ
server_file_path h f = server_path h (server_home h f)
