-- Two pages of a file, in short: page 0 is owed under context 4, and in flight in operation 9; page 1
-- is owed under the same context.
use Rattle.std.specs.Prelude.{ℕ, List, [], ◌∷◌, Some, None}
use Rattle.cs_snapctx.specs.Context.{Context}
use Rattle.cs_pages.specs.declared.page.Page.{Page}

abbrev pub older : Context
older = record { seq = 4; snaps = 4 ∷ [] }

abbrev pub newer : Context
newer = record { seq = 5; snaps = 5 ∷ 4 ∷ [] }

abbrev pub two_pages : List (ℕ × Page)
two_pages =
    (0, record { bytes = 7 ∷ 7 ∷ []; owed = Some (record { context = older; tid = Some 9 }) })
    ∷ (1, record { bytes = 8 ∷ 8 ∷ []; owed = Some (record { context = older; tid = None }) })
    ∷ []
