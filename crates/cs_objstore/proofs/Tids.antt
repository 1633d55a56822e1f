-- Numbers of operations in a list.
use Rattle.std.proofs.Common.{◌≡◌, sym, ℕ, ◌==◌, true, cond, List, [], ◌∷◌, ◌++◌, reverse, arith}
use Rattle.std.proofs.lemmas.List.{reverse-append}
use Rattle.std.proofs.lemmas.List.Folds.{list_any-append}
use Rattle.std.proofs.lemmas.List.Sorted.{list_any-IsPermutation, IsPermutation-reverse}
use Rattle.std.proofs.lemmas.Grind.{common_steps}
use Rattle.cs_laws.specs.declared.objects.ObjOp.{ObjOp}
use Rattle.cs_objstore.specs.Stores.{has_tid}

pub has_tid_reverse : (tid : ℕ) (ops : List ObjOp) → has_tid tid (reverse ops) ≡ has_tid tid ops
has_tid_reverse tid ops = sym (list_any-IsPermutation (λ op. op.tid == tid) ops (reverse ops) (IsPermutation-reverse ops))

pub reverse_pushed : (ops : List ObjOp) (op : ObjOp) → reverse (ops ++ op ∷ []) ≡ op ∷ reverse ops
reverse_pushed ops op = reverse-append ops (op ∷ [])

-- an operation more has one number more
pub has_tid_pushed : (ops : List ObjOp) (op : ObjOp) (tid : ℕ) → has_tid tid (ops ++ op ∷ []) ≡ cond (op.tid == tid) true (has_tid tid ops)
has_tid_pushed ops op tid = rw list_any-append (grind (arith, common_steps))
