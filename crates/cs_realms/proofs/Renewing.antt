-- The realms once a record is taken in: what is kept of them, and what changed.
use Rattle.std.proofs.Common.{◌≡◌, ℕ, ◌==◌, nat_eq, Bool, true, false, cond, List, [], ◌∷◌, ◌++◌, Option, Some, None, is_some, map, inl, inr, refl, sym, ◌∙◌, ap, subst, arith, eq-eqb, eqb-true}
use Rattle.std.specs.List.{cons_option, filter_map}
use Rattle.std.specs.Option.{option_map, option_map_or}
use Rattle.std.specs.Cmp.Lexicographic.{pointwise}
use Rattle.std.proofs.lemmas.Bool.{and_parts, false≢true}
use Rattle.std.proofs.lemmas.Bool.Decides.{nat_tests}
use Rattle.std.proofs.lemmas.List.{append-nil, map-append}
use Rattle.std.proofs.lemmas.List.Elements.{filter_map-append}
use Rattle.cs_snapctx.specs.declared.realm.RealmRecord.{RealmRecord}
use Rattle.cs_snapctx.specs.Context.{Context}
use Rattle.cs_snapctx.specs.Contexts.{all_contexts, context, context_of}
use Rattle.cs_snapctx.specs.Records.{AreDistinct, is_known, is_of, record_of, with_record}
use Rattle.cs_realms.specs.declared.changed.Change.{Change}
use Rattle.cs_realms.specs.declared.renewal.Renewed.{Renewed}
use Rattle.cs_realms.specs.Changes.{change, changes, is_same}
use Rattle.cs_realms.specs.Table.{HasContexts}
use Rattle.cs_realms.specs.Renewals.{newest, news, put_all, renewed, answered_change, answered_changes}
use Rattle.cs_realms.proofs.Members.{In}
use Rattle.cs_realms.proofs.Stays.{record_of-with, stays_distinct}

-- ---- the records

same_either_way : (a b : ℕ) → (a == b) ≡ (b == a)
same_either_way a b = grind (arith, nat_tests)

-- no record of another realm is replaced
untouched : (r : RealmRecord) (rs : List RealmRecord) → is_known r.realm rs ≡ false → map (newest r) rs ≡ rs
untouched r [] u = refl
untouched r (x ∷ xs) u = at (is_of r.realm x) u (untouched r xs)
  where
    at : (b : Bool) → is_some (cond b (Some x) (record_of r.realm xs)) ≡ false → (is_known r.realm xs ≡ false → map (newest r) xs ≡ xs)
        → cond b r x ∷ map (newest r) xs ≡ x ∷ xs
    at true v rest = absurd (false≢true (sym v))
    at false v rest = ap (λ ys. x ∷ ys) (rest v)

of_known : (r : RealmRecord) (rs : List RealmRecord) → AreDistinct rs → is_known r.realm rs ≡ true → with_record r rs ≡ map (newest r) rs
of_known r [] d k = absurd (false≢true k)
of_known r (x ∷ xs) d k = at (is_of r.realm x) refl k (of_known r xs d.1)
  where
    at : (b : Bool) → is_of r.realm x ≡ b → is_some (cond b (Some x) (record_of r.realm xs)) ≡ true
        → (is_known r.realm xs ≡ true → with_record r xs ≡ map (newest r) xs) → cond b (r ∷ xs) (x ∷ with_record r xs) ≡ cond b r x ∷ map (newest r) xs
    at true e g rest =
        let same : x.realm ≡ r.realm = eqb-true x.realm r.realm e in
        ap (λ ys. r ∷ ys) (sym (untouched r xs (subst (λ i. is_known i xs ≡ false) same d.0)))
    at false e g rest = ap (λ ys. x ∷ ys) (rest g)

of_new : (r : RealmRecord) (rs : List RealmRecord) → is_known r.realm rs ≡ false → with_record r rs ≡ map (newest r) rs ++ r ∷ []
of_new r [] u = refl
of_new r (x ∷ xs) u = at (is_of r.realm x) u (of_new r xs)
  where
    at : (b : Bool) → is_some (cond b (Some x) (record_of r.realm xs)) ≡ false → (is_known r.realm xs ≡ false → with_record r xs ≡ map (newest r) xs ++ r ∷ [])
        → cond b (r ∷ xs) (x ∷ with_record r xs) ≡ cond b r x ∷ (map (newest r) xs ++ r ∷ [])
    at true v rest = absurd (false≢true (sym v))
    at false v rest = ap (λ ys. x ∷ ys) (rest v)

-- which goes to the end
pub of_end : (r : RealmRecord) (rs : List RealmRecord) → is_known r.realm rs ≡ false → rs ++ r ∷ [] ≡ with_record r rs
of_end r rs u = ap (λ ys. ys ++ r ∷ []) (sym (untouched r rs u)) ∙ sym (of_new r rs u)

own_found : (rs : List RealmRecord) (x : RealmRecord) → AreDistinct rs → In x rs → record_of x.realm rs ≡ Some x
own_found [] x d i = absurd i
own_found (y ∷ ys) x d (inl e) = rw (eq-eqb y.realm x.realm (ap (λ z. z.realm) (sym e))) (ap (λ z. Some z) (sym e))
own_found (y ∷ ys) x d (inr i) = at (is_of x.realm y) refl (own_found ys x d.1 i)
  where
    at : (b : Bool) → is_of x.realm y ≡ b → record_of x.realm ys ≡ Some x → cond b (Some y) (record_of x.realm ys) ≡ Some x
    at true e f =
        let same : y.realm ≡ x.realm = eqb-true y.realm x.realm e in
        let unknown : is_known x.realm ys ≡ false = subst (λ j. is_known j ys ≡ false) same d.0 in
        absurd (false≢true (sym unknown ∙ ap is_some f))
    at false e f = f

newest_realm : (r x : RealmRecord) → (newest r x).realm ≡ x.realm
newest_realm r x = at (is_of r.realm x) refl
  where
    at : (b : Bool) → is_of r.realm x ≡ b → (cond b r x).realm ≡ x.realm
    at true e = sym (eqb-true x.realm r.realm e)
    at false e = refl

newest_found : (r : RealmRecord) (rs : List RealmRecord) (x : RealmRecord) → record_of x.realm rs ≡ Some x → record_of x.realm (with_record r rs) ≡ Some (newest r x)
newest_found r rs x f =
    record_of-with x.realm r rs ∙ (ap (λ b. cond b (Some r) (record_of x.realm rs)) (same_either_way r.realm x.realm) ∙ at (is_of r.realm x))
  where
    at : (b : Bool) → cond b (Some r) (record_of x.realm rs) ≡ Some (cond b r x)
    at true = refl
    at false = f

-- ---- the contexts

equal_numbers : (xs ys : List ℕ) → pointwise nat_eq xs ys ≡ true → xs ≡ ys
equal_numbers [] [] e = refl
equal_numbers [] (y ∷ ys) e = absurd (false≢true e)
equal_numbers (x ∷ xs) [] e = absurd (false≢true e)
equal_numbers (x ∷ xs) (y ∷ ys) e =
    let parts = and_parts (nat_eq x y) (pointwise nat_eq xs ys) e in
    let first : x ≡ y = eqb-true x y parts.0 in
    let rest : xs ≡ ys = equal_numbers xs ys parts.1 in
    cc

abbrev context_from : ℕ → List ℕ → Context
context_from q ss = record { seq = q; snaps = ss }

pub equal_contexts : (b c : Context) → is_same (Some b) c ≡ true → b ≡ c
equal_contexts b c e =
    let parts = and_parts (nat_eq b.seq c.seq) (pointwise nat_eq b.snaps c.snaps) e in
    same_parts b.seq c.seq b.snaps c.snaps (eqb-true b.seq c.seq parts.0) (equal_numbers b.snaps c.snaps parts.1)
  where
    same_parts : (q s : ℕ) (ts us : List ℕ) → q ≡ s → ts ≡ us → context_from q ts ≡ context_from s us
    same_parts q s ts us seq snaps = cc

put_news : (b c : Context) → option_map_or (λ n. n.kept) (news b c) b ≡ c
put_news b c = at (is_same (Some b) c) refl
  where
    at : (t : Bool) → is_same (Some b) c ≡ t → option_map_or (λ (n : Renewed). n.kept) (cond t None (Some (record { kept = c; answered = c }))) b ≡ c
    at true e = equal_contexts b c e
    at false e = refl

all_put : (r : RealmRecord) (rs xs : List RealmRecord) (cs : List Context)
    → put_all (map (renewed r rs) xs) (map (context_of rs) xs ++ cs) ≡ map (context_of (with_record r rs)) (map (newest r) xs) ++ cs
all_put r rs [] cs = refl
all_put r rs (x ∷ xs) cs =
    ap (λ c. c ∷ put_all (map (renewed r rs) xs) (map (context_of rs) xs ++ cs)) (put_news (context_of rs x) (context_of (with_record r rs) (newest r x)))
    ∙ ap (λ ys. context_of (with_record r rs) (newest r x) ∷ ys) (all_put r rs xs cs)

-- ---- the changes

answered_news : (i : ℕ) (b c : Context) → answered_change i b (news b c) ≡ change i (Some b) (Some c)
answered_news i b c = at (is_same (Some b) c)
  where
    at : (t : Bool) → answered_change i b (cond t None (Some (record { kept = c; answered = c }))) ≡ cond t None (Some (record { realm = i; old = Some b; new = c }))
    at true = refl
    at false = refl

abbrev change_of : List RealmRecord → List RealmRecord → RealmRecord → Option Change
change_of before after x = change x.realm (context before x.realm) (context after x.realm)

one_told : (r : RealmRecord) (rs : List RealmRecord) (x : RealmRecord) → AreDistinct rs → In x rs
    → answered_change x.realm (context_of rs x) (renewed r rs x) ≡ change_of rs (with_record r rs) (newest r x)
one_told r rs x d i =
    let found = own_found rs x d i in
    let before : context rs x.realm ≡ Some (context_of rs x) = ap (option_map (context_of rs)) found in
    let after : context (with_record r rs) x.realm ≡ Some (context_of (with_record r rs) (newest r x)) = ap (option_map (context_of (with_record r rs))) (newest_found r rs x found) in
    answered_news x.realm (context_of rs x) (context_of (with_record r rs) (newest r x))
    ∙ (ap (λ b. change x.realm b (Some (context_of (with_record r rs) (newest r x)))) (sym before)
    ∙ (ap (λ c. change x.realm (context rs x.realm) c) (sym after)
    ∙ ap (λ j. change j (context rs j) (context (with_record r rs) j)) (sym (newest_realm r x))))

all_told : (r : RealmRecord) (rs xs : List RealmRecord) (cs : List Context) → AreDistinct rs → ((x : RealmRecord) → In x xs → In x rs)
    → answered_changes xs (map (renewed r rs) xs) (map (context_of rs) xs ++ cs) ≡ filter_map (change_of rs (with_record r rs)) (map (newest r) xs)
all_told r rs [] cs d i = refl
all_told r rs (x ∷ xs) cs d i =
    ap (λ y. cons_option y (answered_changes xs (map (renewed r rs) xs) (map (context_of rs) xs ++ cs))) (one_told r rs x d (i x (inl refl)))
    ∙ ap (cons_option (change_of rs (with_record r rs) (newest r x))) (all_told r rs xs cs d (λ z h. i z (inr h)))

-- ---- a record in place of the last one of its realm

pub replaced_contexts : (r : RealmRecord) (rs : List RealmRecord) (cs : List Context) → HasContexts rs cs → is_known r.realm rs ≡ true
    → HasContexts (with_record r rs) (put_all (map (renewed r rs) rs) cs)
replaced_contexts r rs cs kept known = record {
  distinct = stays_distinct r rs kept.distinct;
  contexts =
      ap (put_all (map (renewed r rs) rs)) (kept.contexts ∙ sym (append-nil (all_contexts rs)))
      ∙ (all_put r rs rs []
      ∙ (append-nil (map (context_of (with_record r rs)) (map (newest r) rs)) ∙ ap (map (context_of (with_record r rs))) (sym (of_known r rs kept.distinct known))));
}

pub replaced_answer : (r : RealmRecord) (rs : List RealmRecord) (cs : List Context) → HasContexts rs cs → is_known r.realm rs ≡ true
    → answered_changes rs (map (renewed r rs) rs) cs ≡ changes rs (with_record r rs)
replaced_answer r rs cs kept known =
    ap (answered_changes rs (map (renewed r rs) rs)) (kept.contexts ∙ sym (append-nil (all_contexts rs)))
    ∙ (all_told r rs rs [] kept.distinct (λ x i. i) ∙ ap (filter_map (change_of rs (with_record r rs))) (sym (of_known r rs kept.distinct known)))

-- ---- the first record of a realm

pub added_contexts : (r : RealmRecord) (rs : List RealmRecord) (cs : List Context) → HasContexts rs cs → is_known r.realm rs ≡ false
    → HasContexts (with_record r rs) (put_all (map (renewed r rs) rs) (cs ++ context_of (with_record r rs) r ∷ []))
added_contexts r rs cs kept new = record {
  distinct = stays_distinct r rs kept.distinct;
  contexts =
      ap (λ ys. put_all (map (renewed r rs) rs) (ys ++ context_of (with_record r rs) r ∷ [])) kept.contexts
      ∙ (all_put r rs rs (context_of (with_record r rs) r ∷ [])
      ∙ (sym (map-append (context_of (with_record r rs)) (map (newest r) rs) (r ∷ [])) ∙ ap (map (context_of (with_record r rs))) (sym (of_new r rs new))));
}

first_change : (r : RealmRecord) (rs : List RealmRecord) → is_known r.realm rs ≡ false
    → change_of rs (with_record r rs) r ≡ Some (record { realm = r.realm; old = None; new = context_of (with_record r rs) r })
first_change r rs new =
    let before : context rs r.realm ≡ None = ap (option_map (context_of rs)) (none_found (record_of r.realm rs) new) in
    let found : record_of r.realm (with_record r rs) ≡ Some r =
    record_of-with r.realm r rs ∙ ap (λ b. cond b (Some r) (record_of r.realm rs)) (eq-eqb r.realm r.realm refl) in
    let after : context (with_record r rs) r.realm ≡ Some (context_of (with_record r rs) r) = ap (option_map (context_of (with_record r rs))) found in
    ap (λ b. change r.realm b (context (with_record r rs) r.realm)) before ∙ ap (λ c. change r.realm None c) after
  where
    none_found : (o : Option RealmRecord) → is_some o ≡ false → o ≡ None
    none_found None e = refl
    none_found (Some x) e = absurd (false≢true (sym e))

pub added_answer : (r : RealmRecord) (rs : List RealmRecord) (cs : List Context) → HasContexts rs cs → is_known r.realm rs ≡ false
    → answered_changes rs (map (renewed r rs) rs) (cs ++ context_of (with_record r rs) r ∷ []) ++ record { realm = r.realm; old = None; new = context_of (with_record r rs) r } ∷ []
    ≡ changes rs (with_record r rs)
added_answer r rs cs kept new =
    let own = context_of (with_record r rs) r ∷ [] in
    let last : Change = record { realm = r.realm; old = None; new = context_of (with_record r rs) r } in
    let f = change_of rs (with_record r rs) in
    let those : answered_changes rs (map (renewed r rs) rs) (cs ++ own) ≡ filter_map f (map (newest r) rs) =
    ap (λ ys. answered_changes rs (map (renewed r rs) rs) (ys ++ own)) kept.contexts ∙ all_told r rs rs own kept.distinct (λ x i. i) in
    let this : last ∷ [] ≡ filter_map f (r ∷ []) = sym (ap (λ o. cons_option o []) (first_change r rs new)) in
    ap (λ ys. ys ++ last ∷ []) those
    ∙ (ap (λ ys. filter_map f (map (newest r) rs) ++ ys) this
    ∙ (sym (filter_map-append f (map (newest r) rs) (r ∷ [])) ∙ ap (filter_map f) (sym (of_new r rs new))))
