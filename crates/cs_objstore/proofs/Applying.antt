-- Operations of a list, applied one by one.
use Rattle.std.proofs.Common.{◌≡◌, ◌∙◌, refl, sym, ap, ℕ, ◌+◌, ◌<◌, List, [], ◌∷◌, ◌++◌, length, get_or, take, drop, Result, Ok, Err, OnErr}
use Rattle.std.proofs.lemmas.List.{take_more, take-append-drop}
use Rattle.cs_laws.specs.declared.objects.ObjOp.{ObjOp}
use Rattle.cs_objstore.specs.Files.{AppliesNew, with_new, with_op}

with_new_append : (xs : List ObjOp) (o : ObjOp) (old : List ObjOp) → with_new (xs ++ o ∷ []) old ≡ with_op o (with_new xs old)
with_new_append [] o old = refl
with_new_append (x ∷ xs) o old = with_new_append xs o (with_op x old)

-- one more
pub one_more : (ops : List ObjOp) (k : ℕ) (o : ObjOp) (old mid new : List ObjOp) → k < length ops → o ≡ get_or ops k o → mid ≡ with_new (take k ops) old
    → new ≡ with_op o mid → new ≡ with_new (take (k + 1) ops) old
one_more ops k o old mid new within is before now =
    let more : take (k + 1) ops ≡ take k ops ++ o ∷ [] = rw (← is) at (take_more ops k o within) in
    now ∙ (ap (with_op o) before ∙ (sym (with_new_append (take k ops) o old) ∙ ap (λ xs. with_new xs old) (sym more)))

-- a front of them was applied
pub front_of : (ops : List ObjOp) (k : ℕ) (old mid new : List ObjOp) → mid ≡ with_new (take k ops) old → new ≡ mid → AppliesNew ops old new
front_of ops k old mid new before same = record { front = take k ops; rest = drop k ops; whole = sym (take-append-drop k ops); applied = same ∙ before }

-- what holds anyway holds after a fault
pub any_err : {T E Q : Type 0} (r : Result T E) → Q → OnErr r Q
any_err (Ok x) q = tt
any_err (Err e) q = q
