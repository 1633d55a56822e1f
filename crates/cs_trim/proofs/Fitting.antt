-- There are no more clones than the seq of the last write.
use Rattle.std.proofs.Common.{◌≡◌, refl, ℕ, ◌≤◌, nat_lt, Bool, true, false, cond, List, [], ◌∷◌, ◌++◌, length, Option, Some, None, arith}
use Rattle.std.proofs.lemmas.Grind.{common_steps}
use Rattle.cs_trim.specs.declared.object.Head.{Head}
use Rattle.cs_trim.specs.declared.object.KeptClone.{KeptClone}
use Rattle.cs_trim.specs.Held.{clones_after, last_seq, seq_after}

fit_by : (b : Bool) (a q : ℕ) (c : KeptClone) (cs : List KeptClone) → nat_lt a q ≡ b → length cs ≤ a → length (cond b (cs ++ c ∷ []) cs) ≤ cond b q a
fit_by true a q c cs is few = grind (arith, common_steps, is, few)
fit_by false a q c cs is few = few

pub clones_fit : (q : ℕ) (head : Option Head) (cs : List KeptClone) → length cs ≤ last_seq head → length (clones_after q head cs) ≤ seq_after q head
clones_fit q None cs few = let some : length cs ≤ q = omega (arith, few) in some
clones_fit q (Some x) cs few = fit_by (nat_lt x.seq q) x.seq q (record { span = record { above = x.seq; upto = q }; image = x.image }) cs refl few
