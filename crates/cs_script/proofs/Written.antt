-- How many bytes one write has.
use Rattle.std.proofs.Common.{◌≡◌, ◌≤◌, ◌<◌, ℕ, List, [], ◌∷◌, length, Some, Ok, Err, arith}
use Rattle.cs_laws.specs.declared.faults.Kind.TheVariants as kinds
use Rattle.cs_laws.specs.Grammar.{bytes_of}

pub few_bytes : (bs : List ℕ) → 1 ≤ length bs → length bs ≤ 1024 → bytes_of (Some bs) ≡ Ok bs
few_bytes [] some few = grind arith
few_bytes (b ∷ bs) some few = grind arith

pub many_bytes : (bs : List ℕ) → 1024 < length bs → bytes_of (Some bs) ≡ Err kinds.Range
many_bytes [] many = grind arith
many_bytes (b ∷ bs) many = grind arith
