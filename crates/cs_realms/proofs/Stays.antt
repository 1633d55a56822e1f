-- What one more record keeps.
use Rattle.std.proofs.Common.{◌≡◌, ℕ, zero, suc, ◌+◌, ◌==◌, Bool, true, false, cond, List, [], ◌∷◌, Option, Some, None, is_some, length, inl, inr, refl, sym, ◌∙◌, ap, subst, arith, eqb-true}
use Rattle.std.specs.Option.{option_and_then, option_map_or}
use Rattle.std.proofs.lemmas.Bool.{false≢true, or_parts}
use Rattle.std.proofs.lemmas.Bool.Decides.{nat_tests}
use Rattle.cs_snapctx.specs.declared.realm.RealmRecord.{RealmRecord}
use Rattle.cs_snapctx.specs.Records.{AreDistinct, is_known, is_of, parent_record, record_of, root_record, with_record}
use Rattle.cs_snapctx.specs.Trees.{HasRoomFor, IsAcyclic, is_within, leads_up}
use Rattle.cs_realms.proofs.Members.{by_bool, in_found}
use Rattle.cs_realms.proofs.Ups.{longer, up_cases, up_over, up_top, within_all}

swapped : {X : Type 0} (b c : Bool) (u v w : X) → (b ≡ true → c ≡ true → ⊥) → cond b u (cond c v w) ≡ cond c v (cond b u w)
swapped true true u v w h = absurd (h refl refl)
swapped true false u v w h = refl
swapped false true u v w h = refl
swapped false false u v w h = refl

same_test : (a b p : ℕ) → (a == b) ≡ true → (b == p) ≡ (a == p)
same_test a b p e = grind (arith, nat_tests)

two_tests : (a b p : ℕ) → (a == b) ≡ false → (a == p) ≡ true → (b == p) ≡ true → ⊥
two_tests a b p n s t = absurd (grind (arith, nat_tests))

other_test : (a b p : ℕ) → (a == b) ≡ false → (a == p) ≡ true → (b == p) ≡ false
other_test a b p n s = grind (arith, nat_tests)

turned : (a b : ℕ) → (a == b) ≡ false → (b == a) ≡ false
turned a b e = grind (arith, nat_tests)

-- the last record of its realm counts, and those of the other realms stay
pub record_of-with : (p : ℕ) (r : RealmRecord) (rs : List RealmRecord) → record_of p (with_record r rs) ≡ cond (is_of p r) (Some r) (record_of p rs)
record_of-with p r [] = refl
record_of-with p r (x ∷ xs) = at (is_of r.realm x) refl (record_of-with p r xs)
  where
    covered : (b : Bool) → cond b (Some r) (record_of p xs) ≡ cond b (Some r) (cond b (Some x) (record_of p xs))
    covered true = refl
    covered false = refl

    at : (b : Bool) → is_of r.realm x ≡ b → record_of p (with_record r xs) ≡ cond (is_of p r) (Some r) (record_of p xs)
        → record_of p (cond b (r ∷ xs) (x ∷ with_record r xs)) ≡ cond (is_of p r) (Some r) (cond (is_of p x) (Some x) (record_of p xs))
    at true e rest = rw (← same_test x.realm r.realm p e) (covered (is_of p r))
    at false e rest =
        ap (λ o. cond (is_of p x) (Some x) o) rest
        ∙ swapped (is_of p x) (is_of p r) (Some x) (Some r) (record_of p xs) (λ s t. two_tests x.realm r.realm p e s t)

pub found_realm : (p : ℕ) (rs : List RealmRecord) (q : RealmRecord) → record_of p rs ≡ Some q → is_of p q ≡ true
found_realm p [] q f = absurd (none_some f)
  where
    none_some : None ≡ Some q → ⊥
    none_some e = cc
found_realm p (x ∷ xs) q f = at (is_of p x) refl f (found_realm p xs q)
  where
    at : (b : Bool) → is_of p x ≡ b → cond b (Some x) (record_of p xs) ≡ Some q → (record_of p xs ≡ Some q → is_of p q ≡ true) → is_of p q ≡ true
    at true e g rest = let same : x ≡ q = cc in subst (λ z. is_of p z ≡ true) same e
    at false e g rest = rest g

-- the record of another realm stays
pub other_stays : (p : ℕ) (r : RealmRecord) (rs : List RealmRecord) (q : RealmRecord) → record_of p rs ≡ Some q → is_of r.realm q ≡ false
    → record_of p (with_record r rs) ≡ Some q
other_stays p r rs q f n =
    let apart : is_of p r ≡ false = other_test q.realm r.realm p n (found_realm p rs q f) in
    record_of-with p r rs ∙ rw apart f

self_apart : (n j : ℕ) (rs : List RealmRecord) (x : RealmRecord) → leads_up n rs x ≡ true → is_within n rs j x ≡ false → is_of j x ≡ false
self_apart zero j rs x h w = absurd (false≢true h)
self_apart (suc n) j rs x h w = (or_parts (is_of j x) (option_map_or (is_within n rs j) (parent_record rs x) false) w).0

-- a way up that doesn't pass the realm stays
kept : (n : ℕ) (rs : List RealmRecord) (r q : RealmRecord) → leads_up n rs q ≡ true → is_within n rs r.realm q ≡ false → leads_up n (with_record r rs) q ≡ true
kept zero rs r q h w = absurd (false≢true h)
kept (suc n) rs r q h w = elim (up_cases n rs q h) [
  | inl e ↦ up_top n (with_record r rs) q e
  | inr o ↦
      let parts = or_parts (is_of r.realm q) (option_map_or (is_within n rs r.realm) (parent_record rs q) false) w in
      let parent : parent_record rs q ≡ Some o.parent = ap (option_and_then (λ p. record_of p rs)) o.named ∙ o.found in
      let out : is_within n rs r.realm o.parent ≡ false = ap (λ z. option_map_or (is_within n rs r.realm) z false) (sym parent) ∙ parts.1 in
      up_over n o.number (with_record r rs) q o.parent o.named
      (other_stays o.number r rs o.parent o.found (self_apart n r.realm rs o.parent o.leads out)) (kept n rs r o.parent o.leads out)
]

-- a way up that passes the realm goes on from there
goes_on : (n m : ℕ) (rs : List RealmRecord) (r x : RealmRecord) → leads_up m (with_record r rs) r ≡ true → leads_up n rs x ≡ true
    → leads_up (n + m) (with_record r rs) x ≡ true
goes_on zero m rs r x u h = absurd (false≢true h)
goes_on (suc n) m rs r x u h =
    let more : suc (n + m) ≡ suc n + m = omega arith in
    subst (λ k. leads_up k (with_record r rs) x ≡ true) more (
    elim (up_cases n rs x h) [
      | inl e ↦ up_top (n + m) (with_record r rs) x e
      | inr o ↦ by_bool (is_of o.number r)
          (λ t. up_over (n + m) o.number (with_record r rs) x r o.named (record_of-with o.number r rs ∙ rw t refl) (longer m (n + m) (with_record r rs) r u (omega arith)))
          (λ f. up_over (n + m) o.number (with_record r rs) x o.parent o.named (record_of-with o.number r rs ∙ rw f o.found) (goes_on n m rs r o.parent u o.leads))
    ])

own_way : (rs : List RealmRecord) (r : RealmRecord) → IsAcyclic rs → HasRoomFor rs r → (n : ℕ) × (leads_up n (with_record r rs) r ≡ true)
own_way rs r a room = at r.parent refl
  where
    at : (o : Option ℕ) → r.parent ≡ o → (n : ℕ) × (leads_up n (with_record r rs) r ≡ true)
    at None e = (1, up_top 0 (with_record r rs) r e)
    at (Some p) e =
        let q = room p e in
        let up = within_all (a p q.0 q.1).0 rs q.0 (in_found p rs q.0 q.1) (a p q.0 q.1).1 in
        let n = length rs in
        (suc n, up_over n p (with_record r rs) r q.0 e (other_stays p r rs q.0 q.1 (self_apart n r.realm rs q.0 up q.2)) (kept n rs r q.0 up q.2))

pub stays_acyclic : (rs : List RealmRecord) (r : RealmRecord) → IsAcyclic rs → HasRoomFor rs r → IsAcyclic (with_record r rs)
stays_acyclic rs r a room i x f =
    let own = own_way rs r a room in
    by_bool (is_of i r)
    (λ t. let same : r ≡ x = some_same (sym (rw t at (record_of-with i r rs)) ∙ f) in (own.0, subst (λ z. leads_up own.0 (with_record r rs) z ≡ true) same own.1))
    (λ n. let old = a i x (sym (rw n at (record_of-with i r rs)) ∙ f) in (old.0 + own.0, goes_on old.0 own.0 rs r x own.1 old.1))
  where
    some_same : Some r ≡ Some x → r ≡ x
    some_same e = cc

-- no realm gets a second record
pub stays_distinct : (r : RealmRecord) (rs : List RealmRecord) → AreDistinct rs → AreDistinct (with_record r rs)
stays_distinct r [] d = (refl, tt)
stays_distinct r (x ∷ xs) d = at (is_of r.realm x) refl (stays_distinct r xs d.1)
  where
    at : (b : Bool) → is_of r.realm x ≡ b → AreDistinct (with_record r xs) → AreDistinct (cond b (r ∷ xs) (x ∷ with_record r xs))
    at true e rest =
        let same : x.realm ≡ r.realm = eqb-true x.realm r.realm e in
        (subst (λ i. is_known i xs ≡ false) same d.0, d.1)
    at false e rest =
        let none : is_of x.realm r ≡ false = turned x.realm r.realm e in
        ((ap is_some (record_of-with x.realm r xs) ∙ rw none d.0), rest)

-- the root alone
pub first_acyclic : IsAcyclic (root_record ∷ [])
first_acyclic i r f = at (is_of i root_record) f
  where
    at : (b : Bool) → cond b (Some root_record) None ≡ Some r → (n : ℕ) × (leads_up n (root_record ∷ []) r ≡ true)
    at true e = let same : root_record ≡ r = cc in (1, subst (λ z. leads_up 1 (root_record ∷ []) z ≡ true) same refl)
    at false e = absurd cc
