-- The contexts that a record leaves as they were.
use Rattle.std.proofs.Common.{◌≡◌, ℕ, zero, suc, ◌≤◌, nat_eq, Bool, true, false, cond, ◌⊎◌, List, [], ◌∷◌, Option, Some, None, length, inl, inr, refl, sym, ◌∙◌, ap, arith, eq-eqb}
use Rattle.std.specs.Option.{option_map_or}
use Rattle.std.specs.Cmp.Lexicographic.{pointwise}
use Rattle.std.proofs.lemmas.Bool.{false≢true}
use Rattle.cs_snapctx.specs.declared.realm.RealmRecord.{RealmRecord}
use Rattle.cs_snapctx.specs.Context.{Context}
use Rattle.cs_snapctx.specs.Contexts.{context_of, context_within, under}
use Rattle.cs_snapctx.specs.Records.{is_of, record_of, with_record}
use Rattle.cs_realms.specs.Changes.{is_same}
use Rattle.cs_realms.specs.Renewals.{leads_clear, newest, news, renewed}
use Rattle.cs_realms.proofs.Stays.{other_stays}
use Rattle.cs_realms.proofs.Ups.{over_context, top_context}

-- the parent from which one goes on
record GoesClear (n : ℕ) (rs : List RealmRecord) (j : ℕ) (x : RealmRecord) : Type 0 where
  number : ℕ
  parent : RealmRecord
  named : x.parent ≡ Some number
  found : record_of number rs ≡ Some parent
  leads : leads_clear n rs j parent ≡ true

clear_cases : (n : ℕ) (rs : List RealmRecord) (j : ℕ) (x : RealmRecord) → leads_clear (suc n) rs j x ≡ true → (x.parent ≡ None) ⊎ GoesClear n rs j x
clear_cases n rs j x h = at (is_of j x) h
  where
    known : (p : ℕ) → x.parent ≡ Some p → (o : Option RealmRecord) → record_of p rs ≡ o → option_map_or (leads_clear n rs j) o false ≡ true → GoesClear n rs j x
    known p e None f g = absurd (false≢true g)
    known p e (Some q) f g = record { number = p; parent = q; named = e; found = f; leads = g }

    named : (o : Option ℕ) → x.parent ≡ o → option_map_or (λ p. option_map_or (leads_clear n rs j) (record_of p rs) false) o true ≡ true
        → (x.parent ≡ None) ⊎ GoesClear n rs j x
    named None e g = inl e
    named (Some p) e g = inr (known p e (record_of p rs) refl g)

    at : (b : Bool) → cond b false (option_map_or (λ p. option_map_or (leads_clear n rs j) (record_of p rs) false) x.parent true) ≡ true
        → (x.parent ≡ None) ⊎ GoesClear n rs j x
    at true g = absurd (false≢true g)
    at false g = named x.parent refl g

pub clear_apart : (n : ℕ) (rs : List RealmRecord) (j : ℕ) (x : RealmRecord) → leads_clear n rs j x ≡ true → is_of j x ≡ false
clear_apart zero rs j x h = absurd (false≢true h)
clear_apart (suc n) rs j x h = at (is_of j x) h
  where
    at : (b : Bool) → cond b false (option_map_or (λ p. option_map_or (leads_clear n rs j) (record_of p rs) false) x.parent true) ≡ true → b ≡ false
    at true g = absurd (false≢true g)
    at false g = refl

-- a way up that ends, and doesn't pass the realm, gives the same context before and after, also where
-- more steps are allowed
same_within : (n m : ℕ) (r : RealmRecord) (rs : List RealmRecord) (x : RealmRecord) → leads_clear n rs r.realm x ≡ true → n ≤ m
    → context_within m (with_record r rs) x ≡ context_within n rs x
same_within zero m r rs x h l = absurd (false≢true h)
same_within (suc n) zero r rs x h l = absurd (omega arith)
same_within (suc n) (suc m) r rs x h l = elim (clear_cases n rs r.realm x h) [
  | inl e ↦ top_context m (with_record r rs) x e ∙ sym (top_context n rs x e)
  | inr o ↦
      over_context m o.number (with_record r rs) x o.parent o.named (other_stays o.number r rs o.parent o.found (clear_apart n rs r.realm o.parent o.leads))
      ∙ (ap (λ c. under c x) (same_within n m r rs o.parent o.leads (omega arith)) ∙ sym (over_context n o.number rs x o.parent o.named o.found))
]

not_fewer : (r : RealmRecord) (rs : List RealmRecord) → length rs ≤ length (with_record r rs)
not_fewer r [] = omega arith
not_fewer r (x ∷ xs) = at (is_of r.realm x) (not_fewer r xs)
  where
    at : (b : Bool) → length xs ≤ length (with_record r xs) → length (x ∷ xs) ≤ length (cond b (r ∷ xs) (x ∷ with_record r xs))
    at true h = omega arith
    at false h = omega arith

same_context : (r : RealmRecord) (rs : List RealmRecord) (x : RealmRecord) → leads_clear (length rs) rs r.realm x ≡ true
    → context_of (with_record r rs) x ≡ context_of rs x
same_context r rs x h = same_within (length rs) (length (with_record r rs)) r rs x h (not_fewer r rs)

same_number : (n : ℕ) → nat_eq n n ≡ true
same_number n = eq-eqb n n refl

same_numbers : (xs : List ℕ) → pointwise nat_eq xs xs ≡ true
same_numbers [] = refl
same_numbers (x ∷ xs) = rw (same_number x) (same_numbers xs)

no_news : (c : Context) → news c c ≡ None
no_news c = ap (λ b. cond b None (Some (record { kept = c; answered = c }))) both
  where
    both : is_same (Some c) c ≡ true
    both = rw (same_number c.seq) (same_numbers c.snaps)

-- so it isn't renewed
pub left_as_it_was : (r : RealmRecord) (rs : List RealmRecord) (x : RealmRecord) → leads_clear (length rs) rs r.realm x ≡ true → None ≡ renewed r rs x
left_as_it_was r rs x h =
    let own : newest r x ≡ x = ap (λ b. cond b r x) (clear_apart (length rs) rs r.realm x h) in
    sym (ap (λ z. news (context_of rs x) (context_of (with_record r rs) z)) own ∙ (ap (λ c. news (context_of rs x) c) (same_context r rs x h) ∙ no_news (context_of rs x)))
