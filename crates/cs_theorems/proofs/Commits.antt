-- A commit: the messages on the records that become durable, with the realm records that differ from those sent last.
use Rattle.std.proofs.Common.{◌≡◌, refl, sym, ap, ◌∙◌, subst, ℕ, Bool, true, false, cond, List, [], ◌∷◌, ◌++◌, append_assoc, Some, None}
use Rattle.std.proofs.lemmas.Bool.{both_ways, cond-false, false_from_ne_true}
use Rattle.std.proofs.lemmas.List.{append-nil}
use Rattle.cs_snapctx.specs.declared.realm.RealmRecord.{RealmRecord}
use Rattle.cs_snapctx.specs.Records.{record_of, with_records}
use Rattle.cs_laws.specs.declared.records.Record.{Record}
use Rattle.cs_laws.specs.declared.records.RecordBody.{RecordBody}
use Rattle.cs_laws.specs.declared.records.RecordBody.TheVariants as bodies
use Rattle.cs_laws.specs.Realms.{differing, is_realm, realm_records}
use Rattle.cs_laws.specs.Standing.{news, news_on, sent_with}
use Rattle.cs_laws.specs.Carried.{is_realm_change, realms_of}
use Rattle.cs_theorems.proofs.Along.{Along, grows, sends}
use Rattle.cs_theorems.proofs.Fronts.{same_realm}
use Rattle.cs_theorems.proofs.Links.{carried, differing_at, realm_at}
use Rattle.cs_theorems.proofs.Listed.{Member}
use Rattle.cs_theorems.proofs.Listing.{ParentsFirst}
use Rattle.cs_theorems.proofs.RealmPaths.{HasRealms, realm_of}
use Rattle.cs_theorems.proofs.Sent.{differing_is, sent_then}
use Rattle.cs_theorems.proofs.WayContexts.{quiet_stays}
use Rattle.cs_theorems.proofs.Ways.{front_realm}
use Rattle.cs_theorems.proofs.Logs.{GoodLog, MakesNoRealm, makes_no_realm}

-- What was sent last, and what flies: ss are the realm records that the server sent last, those of the durable log ds.
pub record Told (up : ℕ → List ℕ) (ss ts : List RealmRecord) (q : List (List RealmRecord)) (ds : List Record) : Type 0 where
  pub link : Along up (λ d. record_of d ss) ts q ds
  pub sent : HasRealms up ds ss

-- dir: the directories that are known before all records
module _ (dir : ℕ → Bool) (root : dir 1 ≡ true) (up : ℕ → List ℕ) (dirs : List ℕ) (ts : List RealmRecord) where
  realm_named : (vs : List Record) (d : ℕ) (r : RealmRecord) → realm_at up vs d ≡ Some r → r.realm ≡ d
  realm_named vs d r is = at (is_realm vs d) is
    where
      at : (b : Bool) → cond b (Some (realm_of up vs d)) None ≡ Some r → r.realm ≡ d
      at true same = let k : realm_of up vs d ≡ r = cc in sym (ap (λ (x : RealmRecord). x.realm) k)
      at false none = absurd cc

  -- the records that go with a change of realms
  pub now_is : (ss : List RealmRecord) (vs : List Record) → differing ss (realm_records up dirs vs) ≡ differing_at (λ d. record_of d ss) (realm_at up vs) dirs
  now_is ss vs = differing_is ss (realm_at up vs) dirs (realm_named vs)

  -- what was sent last, once the records that differ are sent
  sent_changed : (ss : List RealmRecord) (ds : List Record) (r : Record) → ((d : ℕ) → is_realm (ds ++ r ∷ []) d ≡ true → Member d dirs) → HasRealms up ds ss
      → HasRealms up (ds ++ r ∷ []) (with_records (differing ss (realm_records up dirs (ds ++ r ∷ []))) ss)
  sent_changed ss ds r listed i =
      subst (λ now. HasRealms up more (with_records now ss)) (sym (now_is ss more)) (sent_then up more ss dirs listed (λ d not. i.has d ∙ none d not))
    where
      more : List Record
      more = ds ++ r ∷ []

      none : (d : ℕ) → is_realm more d ≡ false → realm_at up ds d ≡ None
      none d not =
          cond-false (is_realm ds d) _ None
          (false_from_ne_true (is_realm ds d) (λ is. both_ways (is_realm more d) not (front_realm ds more d (r ∷ [], refl) is)))

  told_change : (ss : List RealmRecord) (q : List (List RealmRecord)) (ds : List Record) (r : Record) → ((d : ℕ) → is_realm (ds ++ r ∷ []) d ≡ true → Member d dirs)
      → ParentsFirst up [] dirs → Told up ss ts q ds
      → Told up (with_records (differing ss (realm_records up dirs (ds ++ r ∷ []))) ss) ts (q ++ differing ss (realm_records up dirs (ds ++ r ∷ [])) ∷ []) (ds ++ r ∷ [])
  told_change ss q ds r listed first i = record {
    link = subst (λ g. Along up g ts (q ++ now ∷ []) more) (λ j d. sym (has.has d) j)
        (subst (λ list. Along up (realm_at up more) ts (q ++ list ∷ []) more) (sym (now_is ss more))
        (sends up (λ d. record_of d ss) ts q more dirs listed first (grows up (λ d. record_of d ss) ts q ds (r ∷ []) i.link)));
    sent = has;
  }
    where
      more : List Record
      more = ds ++ r ∷ []

      now : List RealmRecord
      now = differing ss (realm_records up dirs more)

      has : HasRealms up more (with_records now ss)
      has = sent_changed ss ds r listed i.sent

  same_by : (ds : List Record) (b : RecordBody) → is_realm_change b ≡ false → MakesNoRealm ds b → realm_at up (ds ++ record { body = b } ∷ []) ≡ realm_at up ds
  same_by ds b quiet none = λ j d. same_realm (up d) ds (record { body = b }) d (λ k. quiet_stays k ds b quiet (none k)) j

  told_quiet : (ss : List RealmRecord) (q : List (List RealmRecord)) (ds : List Record) (r : Record) → realm_at up (ds ++ r ∷ []) ≡ realm_at up ds → Told up ss ts q ds
      → Told up ss ts q (ds ++ r ∷ [])
  told_quiet ss q ds r same i = record {
    link = grows up (λ d. record_of d ss) ts q ds (r ∷ []) i.link;
    sent = record { has = λ d. i.sent.has d ∙ sym (ap (λ g. g d) same) };
  }

  abbrev with_body : List Record → RecordBody → List Record
  with_body ds b = ds ++ record { body = b } ∷ []

  abbrev told_with : List RealmRecord → List Record → RecordBody → List RealmRecord
  told_with ss ds b = differing ss (realm_records up dirs (with_body ds b))

  -- what was sent last, once the message on a record is sent
  pub sent_after : (ss : List RealmRecord) (ds : List Record) (r : Record) → ((d : ℕ) → is_realm (ds ++ r ∷ []) d ≡ true → Member d dirs) → MakesNoRealm ds r.body → HasRealms up ds ss
      → HasRealms up (ds ++ r ∷ []) (with_records (realms_of (news_on up dirs ss ds r)) ss)
  sent_after ss ds r listed none has = at r.body listed none
    where
      at : (b : RecordBody) → ((d : ℕ) → is_realm (with_body ds b) d ≡ true → Member d dirs) → MakesNoRealm ds b
          → HasRealms up (with_body ds b) (with_records (realms_of (news_on up dirs ss ds (record { body = b }))) ss)
      at (bodies.Request tid op answer) inside bare = record { has = λ d. has.has d ∙ sym (ap (λ g. g d) (same_by ds (bodies.Request tid op answer) refl bare)) }
      at (bodies.Flush snap f tid follows meta) inside bare =
          record { has = λ d. has.has d ∙ sym (ap (λ g. g d) (same_by ds (bodies.Flush snap f tid follows meta) refl bare)) }
      at (bodies.Snap n e name) inside bare = sent_changed ss ds (record { body = bodies.Snap n e name }) inside has
      at (bodies.Removal t n) inside bare = sent_changed ss ds (record { body = bodies.Removal t n }) inside has

  -- what holds once these records more are told of; us, p: what was sent last and what flies before them
  abbrev TellsRest : List RealmRecord → List (List RealmRecord) → List Record → List Record → Type 0
  TellsRest us p ds rs = Told up (sent_with (news up dirs us ds rs) us) ts (p ++ carried (news up dirs us ds rs)) (ds ++ rs)

  pub told_commit : (ss : List RealmRecord) (q : List (List RealmRecord)) (ds rs : List Record) → ((d : ℕ) → is_realm (ds ++ rs) d ≡ true → Member d dirs)
      → ParentsFirst up [] dirs → GoodLog dir (ds ++ rs) → Told up ss ts q ds → TellsRest ss q ds rs
  told_commit ss q ds [] listed first good i =
      subst (λ xs. Told up ss ts (q ++ []) xs) (sym (append-nil ds)) (subst (λ p. Told up ss ts p ds) (sym (append-nil q)) i)
  told_commit ss q ds (r ∷ rs) listed first good i =
      subst (λ xs. Told up (sent_with (news up dirs ss ds (r ∷ rs)) ss) ts (q ++ carried (news up dirs ss ds (r ∷ rs))) xs) assoc
      (at r.body rest (makes_no_realm dir ds r rs root good)
      (λ us p j. told_commit us p (ds ++ r ∷ []) rs rest first (subst (λ xs. GoodLog dir xs) (sym assoc) good) j))
    where
      assoc : (ds ++ r ∷ []) ++ rs ≡ ds ++ r ∷ rs
      assoc = append_assoc ds (r ∷ []) rs

      rest : (d : ℕ) → is_realm ((ds ++ r ∷ []) ++ rs) d ≡ true → Member d dirs
      rest d is = listed d (subst (λ xs. is_realm xs d ≡ true) assoc is)

      changed : (b : RecordBody) → ((d : ℕ) → is_realm (with_body ds b ++ rs) d ≡ true → Member d dirs)
          → ((us : List RealmRecord) (p : List (List RealmRecord)) → Told up us ts p (with_body ds b) → TellsRest us p (with_body ds b) rs)
          → Told up (sent_with (news up dirs (with_records (told_with ss ds b) ss) (with_body ds b) rs) (with_records (told_with ss ds b) ss)) ts
          (q ++ told_with ss ds b ∷ carried (news up dirs (with_records (told_with ss ds b) ss) (with_body ds b) rs)) (with_body ds b ++ rs)
      changed b inside go =
          let us : List RealmRecord = with_records (told_with ss ds b) ss in
          subst (λ p. Told up (sent_with (news up dirs us (with_body ds b) rs) us) ts p (with_body ds b ++ rs))
          (append_assoc q (told_with ss ds b ∷ []) (carried (news up dirs us (with_body ds b) rs)))
          (go us (q ++ told_with ss ds b ∷ [])
          (told_change ss q ds (record { body = b }) (λ d is. inside d (front_realm (with_body ds b) (with_body ds b ++ rs) d (rs, refl) is)) first i))

      at : (b : RecordBody) → ((d : ℕ) → is_realm (with_body ds b ++ rs) d ≡ true → Member d dirs) → MakesNoRealm ds b
          → ((us : List RealmRecord) (p : List (List RealmRecord)) → Told up us ts p (with_body ds b) → TellsRest us p (with_body ds b) rs)
          → Told up (sent_with (news up dirs ss ds (record { body = b } ∷ rs)) ss) ts (q ++ carried (news up dirs ss ds (record { body = b } ∷ rs))) (with_body ds b ++ rs)
      at (bodies.Request tid op answer) inside bare go = go ss q (told_quiet ss q ds _ (same_by ds (bodies.Request tid op answer) refl bare) i)
      at (bodies.Flush snap f tid follows meta) inside bare go = go ss q (told_quiet ss q ds _ (same_by ds (bodies.Flush snap f tid follows meta) refl bare) i)
      at (bodies.Snap n e name) inside bare go = changed (bodies.Snap n e name) inside go
      at (bodies.Removal s n) inside bare go = changed (bodies.Removal s n) inside go
