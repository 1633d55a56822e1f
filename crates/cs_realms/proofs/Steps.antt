-- The steps of the computation of a context.
use Rattle.std.proofs.Common.{◌≡◌, ℕ, zero, suc, ◌-◌, ◌<◌, List, Some, None, Result, IfOk, refl, subst, arith}
use Rattle.cs_snapctx.specs.declared.realm.RealmRecord.{RealmRecord}
use Rattle.cs_snapctx.specs.Context.{Context, empty_context}
use Rattle.cs_snapctx.specs.Contexts.{context_within, under}
use Rattle.cs_snapctx.specs.Records.{parent_record}

less_one : (n : ℕ) → suc n - 1 ≡ n
less_one n = omega arith

-- without a parent
pub at_top : (n : ℕ) (rs : List RealmRecord) (r : RealmRecord) → 0 < n → parent_record rs r ≡ None → context_within n rs r ≡ under empty_context r
at_top zero rs r l e = absurd (omega arith)
at_top (suc n) rs r l e = rw e refl

-- under a parent
pub below_parent : (n : ℕ) (rs : List RealmRecord) (r p : RealmRecord) → 0 < n → parent_record rs r ≡ Some p
    → context_within n rs r ≡ under (context_within (n - 1) rs p) r
below_parent zero rs r p l e = absurd (omega arith)
below_parent (suc n) rs r p l e = rw e (rw (less_one n) refl)

pub ok_is : {E : Type 0} (result : Result Context E) (a b : Context) → a ≡ b → IfOk result (λ c. c ≡ a) → IfOk result (λ c. c ≡ b)
ok_is result a b e h = subst (λ x. IfOk result (λ c. c ≡ x)) e h
