-- The realm records that the client has are those of a front of the durable log, and what flies tells of the rest, in order.
use Rattle.std.proofs.Common.{◌≡◌, refl, sym, ◌∙◌, subst, ℕ, ◌==◌, ◌||◌, Bool, true, false, cond, List, [], ◌∷◌, ◌++◌, Some, None, find, drop, ap}
use Rattle.std.proofs.lemmas.Bool.{cond-false, eqb-true, eq-eqb, both_ways, false_from_ne_true}
use Rattle.cs_snapctx.specs.Records.{record_of, root_record}
use Rattle.cs_laws.specs.declared.records.Record.{Record}
use Rattle.cs_laws.specs.Realms.{is_realm, realm_record, own, since_of}
use Rattle.cs_theorems.proofs.Paths.{with_path}
use Rattle.cs_theorems.proofs.RealmPaths.{realm_of}
use Rattle.cs_theorems.proofs.WayContexts.{Stays}
use Rattle.cs_snapctx.specs.declared.realm.RealmRecord.{RealmRecord}

-- A record that changes no realm

pub same_realm : (up : List ℕ) (rs : List Record) (r : Record) (d : ℕ) → ((k : ℕ) → Stays k rs r) → realm_record up (rs ++ r ∷ []) d ≡ realm_record up rs d
same_realm up rs r d same =
    let realms_same : is_realm (rs ++ r ∷ []) ≡ is_realm rs = λ i k. (same k).1 i in
    ap (λ b. cond b (Some (there (rs ++ r ∷ []) (is_realm (rs ++ r ∷ [])) (since_of (rs ++ r ∷ []) d))) None) ((same d).1)
    ∙ (λ i. cond (is_realm rs d) (Some (record { realm = d; parent = find (realms_same i) (drop 1 up); since = since_of (rs ++ r ∷ []) d; own_seq = ((same d).0 i).seq; own = ((same d).0 i).snaps; prior = [] })) None)
    ∙ at (is_realm rs d) refl
  where
    there : List Record → (ℕ → Bool) → ℕ → RealmRecord
    there vs realm since = record { realm = d; parent = find realm (drop 1 up); since = since; own_seq = (own d vs).seq; own = (own d vs).snaps; prior = [] }

    at : (b : Bool) → is_realm rs d ≡ b → cond b (Some (there rs (is_realm rs) (since_of (rs ++ r ∷ []) d))) None ≡ cond b (Some (there rs (is_realm rs) (since_of rs d))) None
    at true is = ap (λ n. Some (there rs (is_realm rs) n)) ((same d).2 is)
    at false not = refl

-- A directory is made, of which no record tells

module _ (dir : ℕ → Bool) (up : ℕ → List ℕ) (e p : ℕ) (new : dir e ≡ false) where
  abbrev now : ℕ → List ℕ
  now k = with_path up e p k

  not_realm : (rs : List Record) → ((k : ℕ) → is_realm rs k ≡ true → dir k ≡ true) → is_realm rs e ≡ false
  not_realm rs dirs = false_from_ne_true (is_realm rs e) (λ is. both_ways (dir e) new (dirs e is))

  none_made : (rs : List Record) (ps : List ℕ) → ((k : ℕ) → is_realm rs k ≡ true → dir k ≡ true) → realm_record ps rs e ≡ None
  none_made rs ps dirs = cond-false (is_realm rs e) _ None (not_realm rs dirs)

  pub record_made : (rs : List Record) (d : ℕ) → ((k : ℕ) → is_realm rs k ≡ true → dir k ≡ true) → realm_record (now d) rs d ≡ realm_record (up d) rs d
  record_made rs d dirs = at (e == d) refl
    where
      at : (b : Bool) → (e == d) ≡ b → realm_record (cond b (e ∷ up p) (up d)) rs d ≡ realm_record (up d) rs d
      at true same =
          let here : e ≡ d = eqb-true e d same in
          subst (λ k. realm_record (e ∷ up p) rs k ≡ realm_record (up k) rs k) here (none_made rs (e ∷ up p) dirs ∙ sym (none_made rs (up e) dirs))
      at false other = refl

pub root_has : (d : ℕ) → record_of d (root_record ∷ []) ≡ realm_record (1 ∷ []) [] d
root_has d = at (d == 1) refl
  where
    at : (b : Bool) → (d == 1) ≡ b → cond (1 == d) (Some root_record) None ≡ cond (b || false) (Some (realm_of (λ k. 1 ∷ []) [] d)) None
    at true same =
        let k : d ≡ 1 = eqb-true d 1 same in
        subst (λ j. cond (1 == j) (Some root_record) None ≡ Some (realm_of (λ i. 1 ∷ []) [] j)) (sym k) refl
    at false other = cond-false (1 == d) (Some root_record) None (false_from_ne_true (1 == d) (λ same. both_ways (d == 1) other (eq-eqb d 1 (sym (eqb-true 1 d same)))))
