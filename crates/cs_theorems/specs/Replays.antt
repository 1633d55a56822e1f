-- Things that are sent under rising numbers over a link that may be lost. They arrive in order and stand once each; what stands
-- may lose its end, and then what is missing is sent again.
use Rattle.std.specs.Prelude.{◌≡◌, ℕ, nat_lt, Bool, true, List, [], ◌∷◌, ◌++◌, map}
use Rattle.std.specs.List.{filter}
use Rattle.cs_laws.specs.Lists.{Each, Member, RisesFrom}

-- the number of the last thing, or n where there is none
abbrev pub last_from : {X : Type 0} → (X → ℕ) → ℕ → List X → ℕ
last_from tid n [] = n
last_from tid n (x ∷ xs) = last_from tid (tid x) xs

-- the number of the last thing, or 0 where there is none
abbrev pub last_tid : {X : Type 0} → (X → ℕ) → List X → ℕ
last_tid tid xs = last_from tid 0 xs

-- those with a greater number
abbrev pub above : {X : Type 0} → (X → ℕ) → ℕ → List X → List X
above tid n xs = filter (λ x. nat_lt n (tid x)) xs

-- whole: nothing was lost since the last time that all was sent again; xs: what was sent first, in order; st: what stands;
-- fl: what is on its way
pub record Replay {X : Type 0} (tid : X → ℕ) (whole : Bool) (xs st fl : List X) : Type 0 where
  -- what was sent and doesn't stand
  pub missing : List X
  -- a front of what was sent stands
  pub front : xs ≡ st ++ missing
  -- the numbers rise from 1 on
  pub rises : RisesFrom 0 (map tid xs)
  -- each thing on its way was sent
  pub flying : Each (λ x. Member x xs) fl
  -- what is on its way and doesn't stand is what is missing, in order
  pub rest : whole ≡ true → above tid (last_tid tid st) fl ≡ missing
