-- Going up from a realm.
use Rattle.std.proofs.Common.{◌≡◌, ℕ, zero, suc, ◌≤◌, nat_lt, true, false, ◌⊎◌, List, Option, Some, None, length, inl, inr, refl, sym, ◌∙◌, ap, subst, arith}
use Rattle.std.specs.Option.{option_map, option_map_or}
use Rattle.std.proofs.lemmas.Bool.{false≢true, ltb-false, ltb-true}
use Rattle.cs_snapctx.specs.declared.realm.RealmRecord.{RealmRecord}
use Rattle.cs_snapctx.specs.Context.{empty_context}
use Rattle.cs_snapctx.specs.Contexts.{context, context_of, context_within, under}
use Rattle.cs_snapctx.specs.Records.{record_of}
use Rattle.cs_snapctx.specs.Trees.{AreContexts, IsAcyclic, leads_up}
use Rattle.cs_realms.proofs.Members.{In, by_bool, few_places, in_found}

-- the parent from which one goes on
pub record GoesOn (n : ℕ) (rs : List RealmRecord) (r : RealmRecord) : Type 0 where
  pub number : ℕ
  pub parent : RealmRecord
  pub named : r.parent ≡ Some number
  pub found : record_of number rs ≡ Some parent
  pub leads : leads_up n rs parent ≡ true

pub up_cases : (n : ℕ) (rs : List RealmRecord) (r : RealmRecord) → leads_up (suc n) rs r ≡ true → (r.parent ≡ None) ⊎ GoesOn n rs r
up_cases n rs r h = named r.parent refl h
  where
    known : (p : ℕ) → r.parent ≡ Some p → (o : Option RealmRecord) → record_of p rs ≡ o → option_map_or (leads_up n rs) o false ≡ true → GoesOn n rs r
    known p e None f h = absurd (false≢true h)
    known p e (Some q) f h = record { number = p; parent = q; named = e; found = f; leads = h }

    named : (o : Option ℕ) → r.parent ≡ o → option_map_or (λ p. option_map_or (leads_up n rs) (record_of p rs) false) o true ≡ true
        → (r.parent ≡ None) ⊎ GoesOn n rs r
    named None e h = inl e
    named (Some p) e h = inr (known p e (record_of p rs) refl h)

pub up_top : (n : ℕ) (rs : List RealmRecord) (r : RealmRecord) → r.parent ≡ None → leads_up (suc n) rs r ≡ true
up_top n rs r e = rw e refl

pub up_over : (n p : ℕ) (rs : List RealmRecord) (r q : RealmRecord) → r.parent ≡ Some p → record_of p rs ≡ Some q → leads_up n rs q ≡ true
    → leads_up (suc n) rs r ≡ true
up_over n p rs r q e f h = rw e (rw f h)

pub longer : (n m : ℕ) (rs : List RealmRecord) (r : RealmRecord) → leads_up n rs r ≡ true → n ≤ m → leads_up m rs r ≡ true
longer zero m rs r h l = absurd (false≢true h)
longer (suc n) zero rs r h l = absurd (omega arith)
longer (suc n) (suc m) rs r h l = elim (up_cases n rs r h) [
  | inl e ↦ up_top m rs r e
  | inr o ↦ up_over m o.number rs r o.parent o.named o.found (longer n m rs o.parent o.leads (omega arith))
]

-- one comes to the top at the k-th realm above
pub record HasDepth (rs : List RealmRecord) (k : ℕ) (r : RealmRecord) : Type 0 where
  pub leads : leads_up (suc k) rs r ≡ true
  pub not_before : leads_up k rs r ≡ false

same_depth : (rs : List RealmRecord) (k l : ℕ) (r : RealmRecord) → HasDepth rs k r → HasDepth rs l r → k ≡ l
same_depth rs k l r d e =
    by_bool (nat_lt k l)
    (λ t. absurd (false≢true (sym e.not_before ∙ longer (suc k) l rs r d.leads (omega (arith, ltb-true k l t)))))
    (λ f. by_bool (nat_lt l k)
    (λ t. absurd (false≢true (sym d.not_before ∙ longer (suc l) k rs r e.leads (omega (arith, ltb-true l k t)))))
    (λ g. omega (arith, ltb-false k l f, ltb-false l k g)))

least : (n : ℕ) (rs : List RealmRecord) (r : RealmRecord) → leads_up n rs r ≡ true → (k : ℕ) × HasDepth rs k r
least zero rs r h = absurd (false≢true h)
least (suc n) rs r h = by_bool (leads_up n rs r) (λ t. least n rs r t) (λ f. (n, record { leads = h; not_before = f }))

parents_depth : (k p : ℕ) (rs : List RealmRecord) (r q : RealmRecord) → HasDepth rs (suc k) r → r.parent ≡ Some p → record_of p rs ≡ Some q
    → leads_up (suc k) rs q ≡ true → HasDepth rs k q
parents_depth k p rs r q d e f h = record {
  leads = h;
  not_before = by_bool (leads_up k rs q) (λ t. absurd (false≢true (sym d.not_before ∙ up_over k p rs r q e f t))) (λ g. g);
}

-- above a realm there is one of each lesser depth
chain : (k : ℕ) (rs : List RealmRecord) (r : RealmRecord) → HasDepth rs k r → In r rs → (j : ℕ) → j ≤ k → (x : RealmRecord) × In x rs × HasDepth rs j x
chain zero rs r d i j l =
    let e : 0 ≡ j = omega arith in
    (r, i, subst (λ z. HasDepth rs z r) e d)
chain (suc k) rs r d i j l =
    by_bool (nat_lt j (suc k))
    (λ t. elim (up_cases (suc k) rs r d.leads) [
      | inl e ↦ absurd (false≢true (sym d.not_before ∙ up_top k rs r e))
      | inr o ↦ chain k rs o.parent (parents_depth k o.number rs r o.parent d o.named o.found o.leads) (in_found o.number rs o.parent o.found) j (omega (arith, ltb-true j (suc k) t))
    ])
    (λ f. let e : suc k ≡ j = omega (arith, ltb-false j (suc k) f) in (r, i, subst (λ z. HasDepth rs z r) e d))

-- so one comes to the top within as many realms as there are
pub within_all : (n : ℕ) (rs : List RealmRecord) (r : RealmRecord) → In r rs → leads_up n rs r ≡ true → leads_up (length rs) rs r ≡ true
within_all n rs r i h =
    let d = least n rs r h in
    let few = few_places (λ x k. HasDepth rs k x) (λ x k l p q. same_depth rs k l x p q) (suc d.0) rs (λ j l. chain d.0 rs r d.1 i j (omega arith)) in
    longer (suc d.0) (length rs) rs r d.1.leads few

pub top_context : (n : ℕ) (rs : List RealmRecord) (r : RealmRecord) → r.parent ≡ None → context_within (suc n) rs r ≡ under empty_context r
top_context n rs r e = rw e refl

pub over_context : (n p : ℕ) (rs : List RealmRecord) (r q : RealmRecord) → r.parent ≡ Some p → record_of p rs ≡ Some q
    → context_within (suc n) rs r ≡ under (context_within n rs q) r
over_context n p rs r q e f = rw e (rw f refl)

-- more steps change nothing
stable : (n m : ℕ) (rs : List RealmRecord) (r : RealmRecord) → leads_up n rs r ≡ true → n ≤ m → context_within m rs r ≡ context_within n rs r
stable zero m rs r h l = absurd (false≢true h)
stable (suc n) zero rs r h l = absurd (omega arith)
stable (suc n) (suc m) rs r h l = elim (up_cases n rs r h) [
  | inl e ↦ top_context m rs r e ∙ sym (top_context n rs r e)
  | inr o ↦
      over_context m o.number rs r o.parent o.named o.found
      ∙ (ap (λ c. under c r) (stable n m rs o.parent o.leads (omega arith)) ∙ sym (over_context n o.number rs r o.parent o.named o.found))
]

same_some : {X : Type 0} (o : Option X) (x y : X) → o ≡ Some x → o ≡ Some y → x ≡ y
same_some o x y e f = cc

at_context : (i : ℕ) (rs : List RealmRecord) (r : RealmRecord) → record_of i rs ≡ Some r → context rs i ≡ Some (context_of rs r)
at_context i rs r f = ap (option_map (context_of rs)) f

at_parent : (n : ℕ) (rs : List RealmRecord) (r : RealmRecord) (p : ℕ) → leads_up n rs r ≡ true → r.parent ≡ Some p
    → Some (context_within n rs r) ≡ option_map (λ above. under above r) (option_map (context_within n rs) (record_of p rs))
at_parent zero rs r p h e = absurd (false≢true h)
at_parent (suc n) rs r p h e = elim (up_cases n rs r h) [
  | inl g ↦ absurd (let none : Some p ≡ None = sym e ∙ g in cc)
  | inr o ↦
      let same : o.number ≡ p = same_some r.parent o.number p o.named e in
      let f : record_of p rs ≡ Some o.parent = subst (λ q. record_of q rs ≡ Some o.parent) same o.found in
      let one : context_within (suc n) rs r ≡ under (context_within (suc n) rs o.parent) r =
      over_context n o.number rs r o.parent o.named o.found ∙ ap (λ c. under c r) (sym (stable n (suc n) rs o.parent o.leads (omega arith))) in
      ap (λ c. Some c) one ∙ ap (λ q. option_map (λ above. under above r) (option_map (context_within (suc n) rs) q)) (sym f)
]

pub rule_holds : (rs : List RealmRecord) → IsAcyclic rs → AreContexts rs (context rs)
rule_holds rs a = record {
  unknown = λ i f. ap (option_map (context_of rs)) f;
  top = λ i r f e.
      let up = within_all (a i r f).0 rs r (in_found i rs r f) (a i r f).1 in
      at_context i rs r f ∙ ap (λ c. Some c) (top_of (length rs) r up e);
  below = λ i p r f e.
      let up = within_all (a i r f).0 rs r (in_found i rs r f) (a i r f).1 in
      at_context i rs r f ∙ at_parent (length rs) rs r p up e;
}
  where
    top_of : (n : ℕ) (r : RealmRecord) → leads_up n rs r ≡ true → r.parent ≡ None → context_within n rs r ≡ under empty_context r
    top_of zero r h e = absurd (false≢true h)
    top_of (suc n) r h e = top_context n rs r e
