-- What a message that carries the records that differ from those sent last makes of the client's records.
use Rattle.std.proofs.Common.{◌≡◌, ◌⊎◌, refl, sym, ap, ◌∙◌, subst, ℕ, Bool, true, false, cond, List, [], ◌∷◌, Option, Some, None, is_some, find, drop, inl, inr, ⊎_elim}
use Rattle.std.specs.List.{cons_option, filter_map}
use Rattle.std.specs.Option.{option_and_then}
use Rattle.std.proofs.lemmas.Bool.{cond-true, cond-false, eq-eqb}
use Rattle.cs_snapctx.specs.declared.realm.RealmRecord.{RealmRecord}
use Rattle.cs_snapctx.specs.Records.{changed_record, is_as_before, is_known, is_of, missing_parent, record_of, with_record, with_records}
use Rattle.cs_laws.specs.declared.records.Record.{Record}
use Rattle.cs_laws.specs.Realms.{is_realm}
use Rattle.cs_theorems.specs.Realms.{ParentsAreKnown}
use Rattle.cs_realms.proofs.Stays.{record_of-with}
use Rattle.cs_theorems.proofs.Listed.{Member, Each}
use Rattle.cs_theorems.proofs.Listing.{ParentsFirst}
use Rattle.cs_theorems.proofs.Lookups.{before_is, changed_is, none_told, one_told}
use Rattle.cs_theorems.proofs.RealmPaths.{HasRealms, realm_of}
use Rattle.cs_laws.specs.Realms.{differing}
use Rattle.cs_theorems.proofs.Links.{differing_at, realm_at}

-- What is known

found_member : (p : ℕ → Bool) (xs : List ℕ) (x : ℕ) → find p xs ≡ Some x → (p x ≡ true) × Member x xs
found_member p [] x none = absurd cc
found_member p (y ∷ ys) x is = at (p y) refl is (found_member p ys x)
  where
    at : (b : Bool) → p y ≡ b → cond b (Some y) (find p ys) ≡ Some x → (find p ys ≡ Some x → (p x ≡ true) × Member x ys) → (p x ≡ true) × Member x (y ∷ ys)
    at true here same rest = let k : y ≡ x = cc in (subst (λ z. p z ≡ true) k here, inl k)
    at false not there rest = let more = rest there in (more.0, inr more.1)

some_if : (b : Bool) (o : Option RealmRecord) (t : RealmRecord) → is_some o ≡ true → is_some (cond b (Some t) o) ≡ true
some_if true o t is = refl
some_if false o t is = is

-- a realm stays known
known_stays : (d : ℕ) (t : RealmRecord) (ts : List RealmRecord) → is_known d ts ≡ true → is_known d (with_record t ts) ≡ true
known_stays d t ts is = ap is_some (record_of-with d t ts) ∙ some_if (is_of d t) (record_of d ts) t is

known_now : (t : RealmRecord) (d : ℕ) (ts : List RealmRecord) → is_of d t ≡ true → is_known d (with_record t ts) ≡ true
known_now t d ts is = ap is_some (record_of-with d t ts ∙ cond-true (is_of d t) (Some t) (record_of d ts) is)

-- What differs depends on look-ups alone

pub differing_by : (ss ts now : List RealmRecord) → ((d : ℕ) → record_of d ss ≡ record_of d ts) → differing ss now ≡ differing ts now
differing_by ss ts now same = λ i. filter_map (λ r. changed_record (same r.realm i) (Some r)) now

pub differing_same : (a b now : ℕ → Option RealmRecord) (ds : List ℕ) → ((d : ℕ) → a d ≡ b d) → differing_at a now ds ≡ differing_at b now ds
differing_same a b now ds same = λ i. filter_map (λ d. changed_record (same d i) (now d)) ds

none_before : (o : Option RealmRecord) → changed_record None o ≡ o
none_before None = refl
none_before (Some r) = refl

-- where nothing was sent, all differ
pub all_differ : (now : ℕ → Option RealmRecord) (ds : List ℕ) → differing_at (λ d. None) now ds ≡ filter_map now ds
all_differ now ds = λ i. filter_map (λ d. none_before (now d) i) ds

-- of lists and of look-ups
pub differing_is : (ss : List RealmRecord) (now : ℕ → Option RealmRecord) (ds : List ℕ) → ((d : ℕ) (r : RealmRecord) → now d ≡ Some r → r.realm ≡ d)
    → differing ss (filter_map now ds) ≡ differing_at (λ d. record_of d ss) now ds
differing_is ss now [] named = refl
differing_is ss now (d ∷ ds) named = at (now d) refl (differing_is ss now ds named)
  where
    at : (o : Option RealmRecord) → now d ≡ o → differing ss (filter_map now ds) ≡ differing_at (λ k. record_of k ss) now ds
        → differing ss (cons_option o (filter_map now ds)) ≡ cons_option (changed_record (record_of d ss) o) (differing_at (λ k. record_of k ss) now ds)
    at None is rest = rest
    at (Some r) is rest =
        ap (λ k. cons_option (changed_record (record_of k ss) (Some r)) (differing ss (filter_map now ds))) (named d r is)
        ∙ ap (λ rs. cons_option (changed_record (record_of d ss) (Some r)) rs) rest

-- paths that agree on the list give the same
pub same_on : {A B : Type 0} (f g : A → Option B) (xs : List A) → Each (λ x. f x ≡ g x) xs → filter_map f xs ≡ filter_map g xs
same_on f g [] same = refl
same_on f g (x ∷ xs) same = ap (λ o. cons_option o (filter_map f xs)) (same x (inl refl)) ∙ ap (λ ys. cons_option (g x) ys) (same_on f g xs (λ y m. same y (inr m)))

-- each record that was sent last is the one there
abbrev pub SentKnown : (ℕ → Option RealmRecord) → List RealmRecord → Type 0
SentKnown sent ts = (d : ℕ) (r : RealmRecord) → sent d ≡ Some r → record_of d ts ≡ Some r

pub none_sent : (ts : List RealmRecord) → SentKnown (λ d. None) ts
none_sent ts d r is = absurd cc

-- vs: the log's records now
module _ (up : ℕ → List ℕ) (sent : ℕ → Option RealmRecord) (vs : List Record) where
  abbrev tells : ℕ → Option RealmRecord
  tells d = changed_record (sent d) (realm_at up vs d)

  realm_is : (d : ℕ) (t : RealmRecord) → tells d ≡ Some t → (is_realm vs d ≡ true) × (realm_of up vs d ≡ t)
  realm_is d t is = at (is_realm vs d) (changed_is (sent d) (realm_at up vs d) t is)
    where
      at : (b : Bool) → cond b (Some (realm_of up vs d)) None ≡ Some t → (b ≡ true) × (realm_of up vs d ≡ t)
      at true same = (refl, cc)
      at false none = absurd cc

  named : (d : ℕ) (t : RealmRecord) → tells d ≡ Some t → t.realm ≡ d
  named d t is = sym (ap (λ (r : RealmRecord). r.realm) (realm_is d t is).1)

  differ : (d : ℕ) → is_realm vs d ≡ true → tells d ≡ cond (is_as_before (sent d) (realm_of up vs d)) None (Some (realm_of up vs d))
  differ d is = ap (λ b. changed_record (sent d) (cond b (Some (realm_of up vs d)) None)) is

  -- what isn't told of a realm was sent
  was_sent : (d : ℕ) → is_realm vs d ≡ true → (tells d ≡ None) × (sent d ≡ Some (realm_of up vs d)) ⊎ (tells d ≡ Some (realm_of up vs d))
  was_sent d is = at (is_as_before (sent d) (realm_of up vs d)) refl
    where
      at : (b : Bool) → is_as_before (sent d) (realm_of up vs d) ≡ b → (tells d ≡ None) × (sent d ≡ Some (realm_of up vs d)) ⊎ (tells d ≡ Some (realm_of up vs d))
      at true same = inl (differ d is ∙ cond-true (is_as_before (sent d) (realm_of up vs d)) None (Some (realm_of up vs d)) same, before_is (sent d) (realm_of up vs d) same)
      at false other = inr (differ d is ∙ cond-false (is_as_before (sent d) (realm_of up vs d)) None (Some (realm_of up vs d)) other)

  -- ts: the records that were there
  pub has_sent : (ds : List ℕ) (ts : List RealmRecord) → ((d : ℕ) → is_realm vs d ≡ true → Member d ds)
      → ((d : ℕ) → is_realm vs d ≡ false → record_of d ts ≡ None) → SentKnown sent ts → HasRealms up vs (with_records (filter_map tells ds) ts)
  has_sent ds ts listed none known = record { has = λ d. at d (is_realm vs d) refl }
    where
      at : (d : ℕ) (b : Bool) → is_realm vs d ≡ b → record_of d (with_records (filter_map tells ds) ts) ≡ realm_at up vs d
      at d true is =
          ⊎_elim
          (λ left. none_told tells named d ds ts left.0 ∙ known d (realm_of up vs d) left.1)
          (λ told. one_told tells named d (realm_of up vs d) ds ts told (inl (listed d is)))
          (was_sent d is)
          ∙ sym (cond-true (is_realm vs d) (Some (realm_of up vs d)) None is)
      at d false not =
          none_told tells named d ds ts (ap (λ b. changed_record (sent d) (cond b (Some (realm_of up vs d)) None)) not)
          ∙ (none d not ∙ sym (cond-false (is_realm vs d) (Some (realm_of up vs d)) None not))

  known_parent : (d : ℕ) (t : RealmRecord) (us : List RealmRecord) (seen : List ℕ) → realm_of up vs d ≡ t → Each (λ x. Member x seen) (drop 1 (up d))
      → Each (λ x. is_realm vs x ≡ true → is_known x us ≡ true) seen → missing_parent us t ≡ None
  known_parent d t us seen same above known = subst (λ r. missing_parent us r ≡ None) same (at (find (is_realm vs) (drop 1 (up d))) refl)
    where
      at : (o : Option ℕ) → find (is_realm vs) (drop 1 (up d)) ≡ o → option_and_then (λ p. cond (is_known p us) None (Some p)) o ≡ None
      at None none = refl
      at (Some p) is =
          let found = found_member (is_realm vs) (drop 1 (up d)) p is in
          cond-true (is_known p us) None (Some p) (known p (above p found.1) found.0)

  -- parents first
  pub sent_applies : (ds seen : List ℕ) (us : List RealmRecord) → ParentsFirst up seen ds → Each (λ x. is_realm vs x ≡ true → is_known x us ≡ true) seen
      → ((d : ℕ) (r : RealmRecord) → sent d ≡ Some r → is_known d us ≡ true) → ParentsAreKnown us (filter_map tells ds)
  sent_applies [] seen us first known old = tt
  sent_applies (d ∷ ds) seen us first known old = at (tells d) refl (λ ts more older. sent_applies ds (d ∷ seen) ts first.1 more older)
    where
      left : tells d ≡ None → is_realm vs d ≡ true → is_known d us ≡ true
      left none is =
          ⊎_elim (λ sent_then. old d (realm_of up vs d) sent_then.1) (λ told. absurd (let both : None ≡ Some (realm_of up vs d) = sym none ∙ told in cc)) (was_sent d is)

      at : (o : Option RealmRecord) → tells d ≡ o
          → ((ts : List RealmRecord) → Each (λ x. is_realm vs x ≡ true → is_known x ts ≡ true) (d ∷ seen)
          → ((k : ℕ) (r : RealmRecord) → sent k ≡ Some r → is_known k ts ≡ true) → ParentsAreKnown ts (filter_map tells ds))
          → ParentsAreKnown us (cons_option o (filter_map tells ds))
      at None none rest =
          rest us (λ x m is. ⊎_elim (λ same. subst (λ k. is_known k us ≡ true) same (left none (subst (λ k. is_realm vs k ≡ true) (sym same) is))) (λ m2. known x m2 is) m) old
      at (Some t) told rest = (
        known_parent d t us seen (realm_is d t told).1 first.0 known,
        rest (with_record t us)
            (λ x m is. ⊎_elim
            (λ same. subst (λ k. is_known k (with_record t us) ≡ true) same (known_now t d us (own t told)))
            (λ m2. known_stays x t us (known x m2 is)) m)
            (λ k r is. known_stays k t us (old k r is)),
      )
        where
          own : (r : RealmRecord) → tells d ≡ Some r → is_of d r ≡ true
          own r is = eq-eqb r.realm d (named d r is)

-- the server's own list of what was sent last, and what it becomes
pub sent_then : (up : ℕ → List ℕ) (vs : List Record) (ss : List RealmRecord) (ds : List ℕ) → ((d : ℕ) → is_realm vs d ≡ true → Member d ds)
    → ((d : ℕ) → is_realm vs d ≡ false → record_of d ss ≡ None) → HasRealms up vs (with_records (differing_at (λ d. record_of d ss) (realm_at up vs) ds) ss)
sent_then up vs ss ds listed none = has_sent up (λ d. record_of d ss) vs ds ss listed none (λ d r is. is)
