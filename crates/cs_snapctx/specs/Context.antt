-- Snapshot contexts.
use Rattle.std.specs.Prelude.{◌≡◌, ℕ, ◌<◌, ◌≤◌, nat_lt, nat_le, ◌==◌, if◌then◌else◌, max, ◌↔◌, ◌⊎◌, List, [], ◌∷◌, ◌++◌, filter, AllPairs, Contains}

-- the snapshots that cover a file, the newest first, and a number that grows with each change of them
pub record Context : Type 0 where
  pub seq : ℕ
  pub snaps : List ℕ

-- the context before any snapshot
abbrev pub empty_context : Context
empty_context = record { seq = 0; snaps = [] }

-- each number is greater than all behind it
abbrev pub IsDescending : List ℕ → Type 0
IsDescending = AllPairs (λ s t. t < s)

-- c is the context of a realm: `own` are its own snapshots and own_seq the number of its last
-- snapshot or removal, `prior` are those of its parents of earlier times, and those of its parent's
-- context cover it from the number `since` on
pub record IsRealmContext (own prior : List ℕ) (own_seq : ℕ) (parent : Context) (since : ℕ) (c : Context) : Type 0 where
  pub seq : c.seq ≡ max own_seq parent.seq
  pub order : IsDescending c.snaps
  pub members : (s : ℕ) → Contains c.snaps s ↔ (Contains own s ⊎ (Contains prior s ⊎ (Contains parent.snaps s × (since ≤ s))))

-- a descending list with s put to its place, once
abbrev pub with_snap : ℕ → List ℕ → List ℕ
with_snap s [] = s ∷ []
with_snap s (t ∷ ts) = if nat_lt t s then s ∷ t ∷ ts else if t == s then t ∷ ts else t ∷ with_snap s ts

-- the numbers of a list in descending order, each once
abbrev pub descending : List ℕ → List ℕ
descending [] = []
descending (s ∷ ss) = with_snap s (descending ss)

-- the context of such a realm, computed from its parts
abbrev pub merged : List ℕ → List ℕ → ℕ → Context → ℕ → Context
merged own prior own_seq parent since =
    record { seq = max own_seq parent.seq; snaps = descending ((own ++ prior) ++ filter (nat_le since) parent.snaps) }
