-- The life of a file's pages: the calls that changed one, the newest first.
use Rattle.std.specs.Prelude.{◌≡◌, ℕ, ◌+◌, ◌-◌, ◌≤◌, ◌==◌, ◌&&◌, Bool, nat_lt, nat_le, List, [], ◌∷◌, length, slice_index, Option, Some, None, if◌then◌else◌}
use Rattle.std.specs.Option.{option_map}
use Rattle.cs_snapctx.specs.Context.{Context}
use Rattle.cs_pages.specs.declared.page.Page.{Page}
use Rattle.cs_pages.specs.Page.{after_ack, after_drop, dirtied, sent_as}

-- page p is filled with bytes of the store, is written, is sent in an operation, is dropped where it is
-- clean; an operation is acknowledged; all clean pages are dropped
pub data Step : Type 0 where
  filled : (p : ℕ) (bytes : List ℕ) → Step
  written : (p at : ℕ) (bytes : List ℕ) (ctx : Context) → Step
  sent : (p tid : ℕ) → Step
  acked : (tid : ℕ) (keep : Bool) → Step
  dropped : (p : ℕ) → Step
  invalidated : Step

-- what the steps leave of page q
abbrev pub after : List Step → ℕ → Option Page
after [] q = None
after (filled p bytes ∷ h) q = if q == p then Some (record { bytes = bytes; owed = None }) else after h q
after (written p at bytes ctx ∷ h) q = if q == p then Some (dirtied ctx at bytes (after h p)) else after h q
after (sent p tid ∷ h) q = if q == p then option_map (sent_as tid) (after h p) else after h q
after (acked tid keep ∷ h) q = after_ack keep tid (after h q)
after (dropped p ∷ h) q = if q == p then after_drop (after h p) else after h q
after (invalidated ∷ h) q = after_drop (after h q)

-- what the calls ask for: bytes within the page, and the whole page where it isn't cached
abbrev pub IsLife : List Step → Type 0
IsLife [] = Unit {0}
IsLife (filled p bytes ∷ h) = (length bytes ≡ 4096) × IsLife h
IsLife (written p at bytes ctx ∷ h) =
    (at + length bytes ≤ 4096) × (after h p ≡ None → length bytes ≡ 4096) × IsLife h
IsLife (sent p tid ∷ h) = IsLife h
IsLife (acked tid keep ∷ h) = IsLife h
IsLife (dropped p ∷ h) = IsLife h
IsLife (invalidated ∷ h) = IsLife h

-- bytes from a place on cover place i
abbrev pub covers : ℕ → List ℕ → ℕ → Bool
covers at bytes i = nat_le at i && nat_lt i (at + length bytes)

-- the byte that was put last at place i of page q
abbrev pub last_put : List Step → ℕ → ℕ → ℕ
last_put [] q i = 0
last_put (filled p bytes ∷ h) q i = if q == p then slice_index bytes i else last_put h q i
last_put (written p at bytes ctx ∷ h) q i =
    if (q == p) && covers at bytes i then slice_index bytes (i - at) else last_put h q i
last_put (sent p tid ∷ h) q i = last_put h q i
last_put (acked tid keep ∷ h) q i = last_put h q i
last_put (dropped p ∷ h) q i = last_put h q i
last_put (invalidated ∷ h) q i = last_put h q i
