-- The contexts of files, by the realms of which the client was told.
use Rattle.std.specs.Prelude.{ℕ, List, Option, find}
use Rattle.std.specs.Option.{option_and_then}
use Rattle.cs_snapctx.specs.declared.realm.RealmRecord.{RealmRecord}
use Rattle.cs_snapctx.specs.Context.{Context}
use Rattle.cs_snapctx.specs.Contexts.{context}
use Rattle.cs_snapctx.specs.Records.{is_known}
use Rattle.cs_laws.specs.Context.{path_context}
use Rattle.cs_tree.specs.declared.directories.Directory.{Directory}
use Rattle.cs_tree.specs.Directories.{path_of}

-- that of the first of these directories that is a realm
abbrev pub nearest_context : List ℕ → List RealmRecord → Option Context
nearest_context up ts = option_and_then (λ d. context ts d) (find (λ d. is_known d ts) up)

-- that of a file in a directory: the context of the nearest realm on the way up
abbrev pub home_context : List Directory → List RealmRecord → ℕ → Context
home_context tree ts d = path_context (path_of tree d) ts
