-- The order that a queue keeps.
use Rattle.std.specs.Prelude.{◌≡◌, ℕ, ◌<◌, true, false, List, [], ◌∷◌, Option, Some, None, AllPairs}
use Rattle.std.specs.List.{AllByRecursion, position_or_len}
use Rattle.cs_capsnap.specs.declared.snap.CapSnap.{CapSnap}
use Rattle.cs_capsnap.specs.CapSnaps.{is_unsent}

-- they were sent in order, and under rising numbers
abbrev pub IsSentBefore : Option ℕ → Option ℕ → Type 0
IsSentBefore t None = Unit {0}
IsSentBefore None (Some u) = ⊥
IsSentBefore (Some t) (Some u) = t < u

-- x stands before y: only the last may be writing
pub record Precedes (x y : CapSnap) : Type 0 where
  pub closed : x.writing ≡ false
  pub tids : IsSentBefore x.tid y.tid

-- each precedes all behind it, and one that is writing wasn't sent
abbrev pub IsInOrder : List CapSnap → Type 0
IsInOrder [] = Unit {0}
IsInOrder (x ∷ xs) = (x.writing ≡ true → is_unsent x ≡ true) × AllByRecursion (Precedes x) xs × IsInOrder xs

-- each number is less than all behind it
abbrev pub IsAscending : List ℕ → Type 0
IsAscending = AllPairs (λ t u. t < u)

-- the first unsent one stands at the place `next`, or that is past the end
pub record IsQueue (next : ℕ) (xs : List CapSnap) : Type 0 where
  pub order : IsInOrder xs
  pub first : position_or_len is_unsent xs ≡ next
