-- Realm records that are taken in one after the other.
use Rattle.std.proofs.Common.{◌≡◌, ◌∙◌, refl, sym, ap, subst, ℕ, suc, ◌+◌, ◌<◌, ◌≤◌, List, ◌∷◌, None, length, drop, drop-cons, get_or, add-one}
use Rattle.cs_snapctx.specs.declared.realm.RealmRecord.{RealmRecord}
use Rattle.cs_snapctx.specs.Records.{missing_parent, with_record, with_records}
use Rattle.cs_client.specs.Messages.{ParentsAreKnown}
use Rattle.cs_client.proofs.Nearest.{none_left}

-- the record at a place, and those behind it
split_at : (told : List RealmRecord) (i : ℕ) (r : RealmRecord) → i < length told → r ≡ get_or told i r → drop i told ≡ r ∷ drop (i + 1) told
split_at told i r within is = rw (add-one i) (drop-cons told i r within ∙ ap (λ e. e ∷ drop (suc i) told) (sym is))

-- ts: the records that are there before those from the i-th on are taken in; all: those once all are
pub record Rest (told : List RealmRecord) (i : ℕ) (ts all : List RealmRecord) : Type 0 where
  pub whole : with_records (drop i told) ts ≡ all
  pub known : ParentsAreKnown ts (drop i told)

pub rest_first : (told ts : List RealmRecord) → ParentsAreKnown ts told → Rest told 0 ts (with_records told ts)
rest_first told ts known = record { whole = refl; known = known }

pub next_known : (told : List RealmRecord) (i : ℕ) (ts all : List RealmRecord) (r : RealmRecord) → i < length told → r ≡ get_or told i r → Rest told i ts all
    → missing_parent ts r ≡ None
next_known told i ts all r within is rest = (subst (λ us. ParentsAreKnown ts us) (split_at told i r within is) rest.known).0

pub rest_next : (told : List RealmRecord) (i : ℕ) (ts all now : List RealmRecord) (r : RealmRecord) → i < length told → r ≡ get_or told i r
    → now ≡ with_record r ts
    → Rest told i ts all → Rest told (i + 1) now all
rest_next told i ts all now r within is taken rest =
    let here = split_at told i r within is in
    let more : Rest told (i + 1) (with_record r ts) all = record {
      whole = ap (λ us. with_records us ts) (sym here) ∙ rest.whole;
      known = (subst (λ us. ParentsAreKnown ts us) here rest.known).1;
    } in
    subst (λ us. Rest told (i + 1) us all) (sym taken) more

pub rest_done : (told : List RealmRecord) (i : ℕ) (ts all : List RealmRecord) → length told ≤ i → Rest told i ts all → ts ≡ all
rest_done told i ts all past rest = ap (λ us. with_records us ts) (sym (none_left told i past)) ∙ rest.whole
