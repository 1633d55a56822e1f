-- The realm records that the client has are those of a front of the durable log, and each message in flight that carries some
-- leads to a longer front.
use Rattle.std.proofs.Common.{◌≡◌, refl, sym, ap, ◌∙◌, subst, ℕ, Bool, true, false, List, [], ◌∷◌, ◌++◌, Option, None, is_some}
use Rattle.std.proofs.lemmas.Bool.{both_ways, cond-false, false_from_ne_true}
use Rattle.cs_snapctx.specs.declared.realm.RealmRecord.{RealmRecord}
use Rattle.cs_snapctx.specs.Records.{record_of, root_record, with_records}
use Rattle.cs_laws.specs.declared.records.Record.{Record}
use Rattle.cs_laws.specs.Context.{path_context}
use Rattle.cs_laws.specs.Realms.{is_realm}
use Rattle.cs_theorems.specs.Realms.{ParentsAreKnown}
use Rattle.cs_theorems.proofs.Drawn.{AllDraw}
use Rattle.cs_theorems.proofs.Fronts.{record_made, root_has}
use Rattle.cs_theorems.proofs.Listed.{Member}
use Rattle.cs_theorems.proofs.Listing.{ParentsFirst}
use Rattle.cs_theorems.proofs.Paths.{IsWay, Tree, with_path}
use Rattle.cs_theorems.proofs.RealmPaths.{HasRealms, path_is_way, way_context}
use Rattle.cs_theorems.specs.Contexts.{Rises}
use Rattle.cs_theorems.proofs.Links.{IsFront, differing_at, last_had, realm_at}
use Rattle.cs_theorems.proofs.Sent.{SentKnown, has_sent, none_sent, sent_applies}
use Rattle.cs_theorems.proofs.Ways.{front_draws, front_good, front_longer, front_realm, front_self, fronts_grow}
use Rattle.cs_theorems.proofs.Logs.{GoodLog}

-- ts: the client's records, those of the front us of the durable log ds; q: what flies to it
abbrev pub along : (ℕ → List ℕ) → List RealmRecord → List Record → List Record → List (List RealmRecord) → Type 0
along up ts us ds [] = Unit {0}
along up ts us ds (now ∷ q) =
    (vs : List Record) × IsFront us vs × IsFront vs ds × HasRealms up vs (with_records now ts) × ParentsAreKnown ts now × along up (with_records now ts) vs ds q

-- sent d: the record of d that the server sent last in this session, if any
pub record Along (up : ℕ → List ℕ) (sent : ℕ → Option RealmRecord) (ts : List RealmRecord) (q : List (List RealmRecord)) (ds : List Record) : Type 0 where
  pub front : List Record
  pub whole : IsFront front ds
  pub has : HasRealms up front ts
  pub links : along up ts front ds q
  pub known : SentKnown sent (last_had ts q)

-- At the start

pub along_first : Along (λ d. 1 ∷ []) (λ d. record_of d (root_record ∷ [])) (root_record ∷ []) [] []
along_first = record {
  front = [];
  whole = front_self [];
  has = record { has = root_has };
  links = tt;
  known = λ d r is. is;
}

-- The log grows

links_grow : (up : ℕ → List ℕ) (ts : List RealmRecord) (us ds rs : List Record) (q : List (List RealmRecord)) → along up ts us ds q → along up ts us (ds ++ rs) q
links_grow up ts us ds rs [] l = tt
links_grow up ts us ds rs (now ∷ q) l =
    (l.0, l.1, front_longer l.0 ds rs l.2, l.3, l.4, links_grow up (with_records now ts) l.0 ds rs q l.5)

pub grows : (up : ℕ → List ℕ) (sent : ℕ → Option RealmRecord) (ts : List RealmRecord) (q : List (List RealmRecord)) (ds rs : List Record) → Along up sent ts q ds
    → Along up sent ts q (ds ++ rs)
grows up sent ts q ds rs i = record {
  front = i.front;
  whole = front_longer i.front ds rs i.whole;
  has = i.has;
  links = links_grow up ts i.front ds rs q i.links;
  known = i.known;
}

-- What differs is sent

-- what the client will have behind all is of a front too
record Behind (up : ℕ → List ℕ) (ts : List RealmRecord) (ds : List Record) : Type 0 where
  front : List Record
  whole : IsFront front ds
  has : HasRealms up front ts

behind : (up : ℕ → List ℕ) (ts : List RealmRecord) (us ds : List Record) (q : List (List RealmRecord)) → IsFront us ds → HasRealms up us ts → along up ts us ds q
    → Behind up (last_had ts q) ds
behind up ts us ds [] front has l = record { front = us; whole = front; has = has }
behind up ts us ds (now ∷ q) front has l = behind up (with_records now ts) l.0 ds q l.2 l.3 l.5

had_end : (ts now : List RealmRecord) (q : List (List RealmRecord)) → last_had ts (q ++ now ∷ []) ≡ with_records now (last_had ts q)
had_end ts now [] = refl
had_end ts now (x ∷ q) = had_end (with_records x ts) now q

-- the client has no record of what isn't a realm
none_behind : (up : ℕ → List ℕ) (us ds : List Record) (ts : List RealmRecord) (d : ℕ) → IsFront us ds → HasRealms up us ts → is_realm ds d ≡ false → record_of d ts ≡ None
none_behind up us ds ts d whole has not =
    has.has d ∙ cond-false (is_realm us d) _ None (false_from_ne_true (is_realm us d) (λ was. both_ways (is_realm ds d) not (front_realm us ds d whole was)))

links_end : (up : ℕ → List ℕ) (ts : List RealmRecord) (us ds : List Record) (q : List (List RealmRecord)) (now : List RealmRecord) → IsFront us ds
    → HasRealms up ds (with_records now (last_had ts q)) → ParentsAreKnown (last_had ts q) now → along up ts us ds q → along up ts us ds (q ++ now ∷ [])
links_end up ts us ds [] now front has known l = (ds, front, front_self ds, has, known, tt)
links_end up ts us ds (x ∷ q) now front has known l =
    (l.0, l.1, l.2, l.3, l.4, links_end up (with_records x ts) l.0 ds q now l.2 has known l.5)

-- listed: the list has each realm; first: parents first
pub sends : (up : ℕ → List ℕ) (sent : ℕ → Option RealmRecord) (ts : List RealmRecord) (q : List (List RealmRecord)) (ds : List Record) (dirs : List ℕ)
    → ((d : ℕ) → is_realm ds d ≡ true → Member d dirs) → ParentsFirst up [] dirs → Along up sent ts q ds
    → Along up (realm_at up ds) ts (q ++ differing_at sent (realm_at up ds) dirs ∷ []) ds
sends up sent ts q ds dirs listed first i = record {
  front = i.front;
  whole = i.whole;
  has = i.has;
  links = links_end up ts i.front ds q now i.whole has applies i.links;
  known = λ d r is. ap (λ rs. record_of d rs) (had_end ts now q) ∙ (has.has d ∙ is);
}
  where
    now : List RealmRecord
    now = differing_at sent (realm_at up ds) dirs

    b : Behind up (last_had ts q) ds
    b = behind up ts i.front ds q i.whole i.has i.links

    has : HasRealms up ds (with_records now (last_had ts q))
    has = has_sent up sent ds dirs (last_had ts q) listed (λ d not. none_behind up b.front ds (last_had ts q) d b.whole b.has not) i.known

    applies : ParentsAreKnown (last_had ts q) now
    applies = sent_applies up sent ds dirs [] (last_had ts q) first (λ x m. absurd m) (λ d r is. ap is_some (i.known d r is))

-- A message is delivered

pub delivers : (up : ℕ → List ℕ) (sent : ℕ → Option RealmRecord) (ts now : List RealmRecord) (q : List (List RealmRecord)) (ds : List Record)
    → Along up sent ts (now ∷ q) ds → Along up sent (with_records now ts) q ds
delivers up sent ts now q ds i =
    let l = i.links in
    record { front = l.0; whole = l.2; has = l.3; links = l.5; known = i.known }

-- base: the directories that are known before all records; dir: those of the tree
pub context_rises : (base dir : ℕ → Bool) (up : ℕ → List ℕ) (sent : ℕ → Option RealmRecord) (ts now : List RealmRecord) (q : List (List RealmRecord)) (ds : List Record) (way : List ℕ)
    → Tree dir up → ((d : ℕ) → is_realm ds d ≡ true → dir d ≡ true) → base 1 ≡ true → AllDraw 0 ds → GoodLog base ds → IsWay up way → Along up sent ts (now ∷ q) ds
    → Rises (path_context way ts) (path_context way (with_records now ts))
context_rises base dir up sent ts now q ds way tree inside root draws good is i =
    let l = i.links in
    let old : path_context way ts ≡ way_context i.front way =
    path_is_way dir up i.front ts tree (λ d was. inside d (front_realm i.front ds d i.whole was)) i.has way is in
    let new : path_context way (with_records now ts) ≡ way_context l.0 way =
    path_is_way dir up l.0 (with_records now ts) tree (λ d was. inside d (front_realm l.0 ds d l.2 was)) l.3 way is in
    subst (λ c. Rises c (path_context way (with_records now ts))) (sym old)
    (subst (λ c. Rises (way_context i.front way) c) (sym new) (fronts_grow base i.front l.0 way root (front_draws l.0 ds l.2 draws) (front_good base l.0 ds l.2 good) l.1))

-- The link is broken, or made anew

-- nothing counts as sent
pub forgets : (up : ℕ → List ℕ) (sent : ℕ → Option RealmRecord) (ts : List RealmRecord) (q : List (List RealmRecord)) (ds : List Record) → Along up sent ts q ds
    → Along up (λ d. None) ts q ds
forgets up sent ts q ds i = record { front = i.front; whole = i.whole; has = i.has; links = i.links; known = none_sent (last_had ts q) }

-- and nothing flies
pub breaks : (up : ℕ → List ℕ) (sent : ℕ → Option RealmRecord) (ts : List RealmRecord) (q : List (List RealmRecord)) (ds : List Record) → Along up sent ts q ds
    → Along up (λ d. None) ts [] ds
breaks up sent ts q ds i = record { front = i.front; whole = i.whole; has = i.has; links = tt; known = none_sent ts }

-- A directory is made, of which no record tells

pub realms_made : (dir : ℕ → Bool) (up : ℕ → List ℕ) (e p : ℕ) (vs : List Record) → dir e ≡ false → ((d : ℕ) → is_realm vs d ≡ true → dir d ≡ true)
    → realm_at (with_path up e p) vs ≡ realm_at up vs
realms_made dir up e p vs new inside = λ i d. record_made dir up e p new vs d inside i

has_made : (dir : ℕ → Bool) (up : ℕ → List ℕ) (e p : ℕ) (vs : List Record) (ts : List RealmRecord) → dir e ≡ false → ((d : ℕ) → is_realm vs d ≡ true → dir d ≡ true)
    → HasRealms up vs ts → HasRealms (with_path up e p) vs ts
has_made dir up e p vs ts new inside i = record { has = λ d. i.has d ∙ sym (record_made dir up e p new vs d inside) }

links_made : (dir : ℕ → Bool) (up : ℕ → List ℕ) (e p : ℕ) (ts : List RealmRecord) (us ds : List Record) (q : List (List RealmRecord)) → dir e ≡ false
    → ((d : ℕ) → is_realm ds d ≡ true → dir d ≡ true) → along up ts us ds q → along (with_path up e p) ts us ds q
links_made dir up e p ts us ds [] new inside l = tt
links_made dir up e p ts us ds (now ∷ q) new inside l = (
  l.0,
  l.1,
  l.2,
  has_made dir up e p l.0 (with_records now ts) new (λ d is. inside d (front_realm l.0 ds d l.2 is)) l.3,
  l.4,
  links_made dir up e p (with_records now ts) l.0 ds q new inside l.5,
)

pub makes : (dir : ℕ → Bool) (up : ℕ → List ℕ) (e p : ℕ) (sent : ℕ → Option RealmRecord) (ts : List RealmRecord) (q : List (List RealmRecord)) (ds : List Record)
    → dir e ≡ false → ((d : ℕ) → is_realm ds d ≡ true → dir d ≡ true) → Along up sent ts q ds → Along (with_path up e p) sent ts q ds
makes dir up e p sent ts q ds new inside i = record {
  front = i.front;
  whole = i.whole;
  has = has_made dir up e p i.front ts new (λ d is. inside d (front_realm i.front ds d i.whole is)) i.has;
  links = links_made dir up e p ts i.front ds q new inside i.links;
  known = i.known;
}
