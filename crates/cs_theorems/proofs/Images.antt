-- The operations on an object are those of its file's writes, also at each snapshot.
use Rattle.std.proofs.Common.{◌≡◌, refl, sym, ap, ◌∙◌, ℕ, ◌+◌, ◌*◌, ◌/◌, ◌%◌, ◌<◌, ◌≤◌, ◌==◌, nat_lt, filter, length, reverse, List, [], ◌∷◌, ◌++◌, true, false, Some, cond, inl, inr, arith, subst, Bool}
use Rattle.std.proofs.lemmas.Bool.{and_from, and_left, cond_both, cond-false, cond-true, eqb-true, lt-ltb, ltb-true}
use Rattle.cs_geom.specs.declared.places.Piece.{Piece}
use Rattle.cs_geom.specs.declared.places.TheConstants.{OBJECT_SIZE}
use Rattle.cs_geom.specs.Cuts.{pieces_of}
use Rattle.cs_ids.specs.declared.objects.Obj.{Obj}
use Rattle.cs_parts.specs.declared.references.Live.{Live}
use Rattle.cs_snapctx.specs.Context.{Context}
use Rattle.cs_laws.specs.declared.answers.Answer.{Answer}
use Rattle.cs_laws.specs.declared.answers.Entry.{Entry}
use Rattle.cs_laws.specs.declared.events.Event.{Event}
use Rattle.cs_laws.specs.declared.events.Event.TheVariants as e
use Rattle.cs_laws.specs.declared.events.RefName.{RefName}
use Rattle.cs_laws.specs.declared.objects.At.TheVariants as at
use Rattle.cs_laws.specs.declared.objects.ObjOp.{ObjOp}
use Rattle.cs_laws.specs.Events.{clock}
use Rattle.cs_laws.specs.History.{live, writes}
use Rattle.cs_laws.specs.Image.{Write, byte_over, image}
use Rattle.cs_laws.specs.Journal.{entry}
use Rattle.cs_laws.specs.Objects.{all_below, before, byte_of, object, same_object}
use Rattle.cs_laws.specs.Operations.{applied, begun_under, operations, operations_drawn, written_on}
use Rattle.cs_laws.specs.Writes.{with_write}
use Rattle.cs_theorems.specs.Contents.{IsState, ObjectsHoldWrites, StatesHoldWrites}
use Rattle.cs_theorems.specs.Order.{TagsFall}
use Rattle.cs_theorems.specs.Snapshots.{TagsAreOfTheBegin}
use Rattle.cs_theorems.proofs.Course.{Course}
use Rattle.cs_theorems.proofs.Inversions.{WriteIs, write_unknown, write_no_bit, write_past, wrote, write_is}
use Rattle.cs_theorems.proofs.Listed.{Each, each_nil, each_cons, each_append, each_reverse, each_tail}
use Rattle.cs_theorems.proofs.Pieces.{object_append, pieces_over}
use Rattle.cs_theorems.proofs.Uses.{named_is}

-- The operations of writes. i: a place of the file, and j that place in the object.

-- operations on the object that bring a write's byte to the place
pub record IsPart (i j : ℕ) (w : Write) (os : List ObjOp) : Type 0 where
  pub seqs : Each (λ o. o.ctx.seq ≡ w.tag) os
  pub byte : (below : List ObjOp) → byte_of (os ++ below) j ≡ byte_over w.off w.bytes i (byte_of below j)

-- they are those of the writes, in the same order
abbrev pub AreOf : ℕ → ℕ → List Write → List ObjOp → Type 0
AreOf i j [] os = os ≡ []
AreOf i j (w ∷ ws) os = (new : List ObjOp) × (rest : List ObjOp) × (os ≡ new ++ rest) × IsPart i j w new × AreOf i j ws rest

bytes_are : (i j : ℕ) (ws : List Write) (os : List ObjOp) → AreOf i j ws os → byte_of os j ≡ image ws i
bytes_are i j [] os none = ap (λ zs. byte_of zs j) none
bytes_are i j (w ∷ ws) os (new, rest, is, part, others) =
    ap (λ zs. byte_of zs j) is ∙ (part.byte rest ∙ ap (λ b. byte_over w.off w.bytes i b) (bytes_are i j ws rest others))

-- Snapshots

-- low: a test of the seqs that belong to a state

filter_append : (p : ObjOp → Bool) (os rest : List ObjOp) → filter p (os ++ rest) ≡ filter p os ++ filter p rest
filter_append p [] rest = refl
filter_append p (o ∷ os) rest =
    cond_both (p o) (o ∷ filter p (os ++ rest)) (filter p (os ++ rest)) (λ zs. zs ≡ cond (p o) (o ∷ filter p os) (filter p os) ++ filter p rest)
    (λ is. ap (λ zs. o ∷ zs) (filter_append p os rest) ∙ sym (ap (λ zs. zs ++ filter p rest) (cond-true (p o) (o ∷ filter p os) (filter p os) is)))
    (λ not. filter_append p os rest ∙ sym (ap (λ zs. zs ++ filter p rest) (cond-false (p o) (o ∷ filter p os) (filter p os) not)))

filter_all : (p : ObjOp → Bool) (os : List ObjOp) → Each (λ o. p o ≡ true) os → filter p os ≡ os
filter_all p [] all = refl
filter_all p (o ∷ os) all =
    cond-true (p o) (o ∷ filter p os) (filter p os) (all o (inl refl)) ∙ ap (λ zs. o ∷ zs) (filter_all p os (each_tail (λ u. p u ≡ true) o os all))

filter_no : (p : ObjOp → Bool) (os : List ObjOp) → Each (λ o. p o ≡ false) os → filter p os ≡ []
filter_no p [] none = refl
filter_no p (o ∷ os) none =
    cond-false (p o) (o ∷ filter p os) (filter p os) (none o (inl refl)) ∙ filter_no p os (each_tail (λ u. p u ≡ false) o os none)

-- the operations of a write belong to the state as the write does
kept_are : (low : ℕ → Bool) (i j : ℕ) (ws : List Write) (os : List ObjOp) → AreOf i j ws os
    → AreOf i j (filter (λ w. low w.tag) ws) (filter (λ o. low o.ctx.seq) os)
kept_are low i j [] os none = ap (λ zs. filter (λ o. low o.ctx.seq) zs) none
kept_are low i j (w ∷ ws) os (new, rest, is, part, others) =
    cond_both (low w.tag) (w ∷ kept) kept (λ vs. AreOf i j vs (filter p os))
    (λ in_it.
    (new, filter p rest, whole ∙ ap (λ zs. zs ++ filter p rest) (filter_all p new (λ o m. ap low (part.seqs o m) ∙ in_it)), part, kept_are low i j ws rest others))
    (λ out.
    subst (λ zs. AreOf i j kept zs) (sym (whole ∙ ap (λ zs. zs ++ filter p rest) (filter_no p new (λ o m. ap low (part.seqs o m) ∙ out))))
    (kept_are low i j ws rest others))
  where
    p : ObjOp → Bool
    p o = low o.ctx.seq

    kept : List Write
    kept = filter (λ v. low v.tag) ws

    whole : filter p os ≡ filter p new ++ filter p rest
    whole = ap (λ zs. filter p zs) is ∙ filter_append p new rest

-- Snapshots

-- newest first, the seqs never rise towards the older ones
abbrev SeqsFall : List ObjOp → Type 0
SeqsFall [] = Unit {0}
SeqsFall (o ∷ os) = Each (λ u. u.ctx.seq ≤ o.ctx.seq) os × SeqsFall os

-- then the operations before the first one that isn't below a number are those that are below it
before_below : (s : ℕ) (os : List ObjOp) → SeqsFall os → before s os ≡ filter (λ o. nat_lt o.ctx.seq s) os
before_below s [] fall = refl
before_below s (o ∷ os) fall =
    cond_both (nat_lt o.ctx.seq s) (o ∷ low) low (λ zs. before s (o ∷ os) ≡ zs)
    (λ is.
    let all : Each (λ u. nat_lt u.ctx.seq s ≡ true) os = λ u m. lt-ltb u.ctx.seq s (omega (arith, fall.0 u m, ltb-true o.ctx.seq s is)) in
    cond-true (all_below s (o ∷ os)) (o ∷ os) (before s os) (and_from (nat_lt o.ctx.seq s) (all_below s os) is (all_below_true s os all))
    ∙ ap (λ zs. o ∷ zs) (sym (filter_all (λ u. nat_lt u.ctx.seq s) os all)))
    (λ not. cond-false (all_below s (o ∷ os)) (o ∷ os) (before s os) (and_left (nat_lt o.ctx.seq s) (all_below s os) not) ∙ before_below s os fall.1)
  where
    low : List ObjOp
    low = filter (λ u. nat_lt u.ctx.seq s) os

    all_below_true : (n : ℕ) (us : List ObjOp) → Each (λ u. nat_lt u.ctx.seq n ≡ true) us → all_below n us ≡ true
    all_below_true n [] all = refl
    all_below_true n (u ∷ us) all =
        and_from (nat_lt u.ctx.seq n) (all_below n us) (all u (inl refl)) (all_below_true n us (each_tail (λ v. nat_lt v.ctx.seq n ≡ true) u us all))

-- the seqs of the operations are the tags of the writes
seqs_upto : (i j n : ℕ) (ws : List Write) (os : List ObjOp) → AreOf i j ws os → Each (λ w. w.tag ≤ n) ws → Each (λ o. o.ctx.seq ≤ n) os
seqs_upto i j n [] os none low = subst (λ zs. Each (λ o. o.ctx.seq ≤ n) zs) (sym none) (each_nil (λ o. o.ctx.seq ≤ n))
seqs_upto i j n (w ∷ ws) os (new, rest, is, part, others) low =
    subst (λ zs. Each (λ o. o.ctx.seq ≤ n) zs) (sym is)
    (each_append (λ o. o.ctx.seq ≤ n) new rest
    (λ o m. omega (arith, part.seqs o m, low w (inl refl)))
    (seqs_upto i j n ws rest others (each_tail (λ v. v.tag ≤ n) w ws low)))

falls_over : (t : ℕ) (new rest : List ObjOp) → Each (λ o. o.ctx.seq ≡ t) new → Each (λ o. o.ctx.seq ≤ t) rest → SeqsFall rest → SeqsFall (new ++ rest)
falls_over t [] rest same low fall = fall
falls_over t (o ∷ new) rest same low fall = (
  each_append (λ u. u.ctx.seq ≤ o.ctx.seq) new rest
      (λ u m. omega (arith, same u (inr m), same o (inl refl)))
      (λ u m. omega (arith, low u m, same o (inl refl))),
  falls_over t new rest (each_tail (λ u. u.ctx.seq ≡ t) o new same) low fall,
)

seqs_fall : (i j : ℕ) (ws : List Write) (os : List ObjOp) → AreOf i j ws os → TagsFall ws → SeqsFall os
seqs_fall i j [] os none fall = subst (λ zs. SeqsFall zs) (sym none) tt
seqs_fall i j (w ∷ ws) os (new, rest, is, part, others) fall =
    subst (λ zs. SeqsFall zs) (sym is)
    (falls_over w.tag new rest part.seqs (seqs_upto i j w.tag ws rest others fall.0) (seqs_fall i j ws rest others fall.1))

-- A write

seqs_of : (tid f off : ℕ) (bytes : List ℕ) (ctx : Context) (xs : List Piece) → Each (λ o. o.ctx.seq ≡ ctx.seq) (operations tid f off bytes ctx xs)
seqs_of tid f off bytes ctx [] = each_nil (λ o. o.ctx.seq ≡ ctx.seq)
seqs_of tid f off bytes ctx (x ∷ xs) = each_cons (λ o. o.ctx.seq ≡ ctx.seq) _ _ refl (seqs_of (tid + 1) f off bytes ctx xs)

-- an object's operations are among all
each_object : (P : ObjOp → Type 0) (obj : Obj) (os : List ObjOp) → Each P os → Each P (object obj os)
each_object P obj [] ps = ps
each_object P obj (o ∷ os) ps =
    cond_both (same_object o.obj obj) (o ∷ object obj os) (object obj os) (λ zs. Each P zs)
    (λ _. each_cons P o (object obj os) (ps o (inl refl)) (each_object P obj os (each_tail P o os ps)))
    (λ _. each_object P obj os (each_tail P o os ps))

-- operations on another file aren't on the object
others_none : (tid g f p off : ℕ) (bytes : List ℕ) (ctx : Context) (xs : List Piece) → (g == f) ≡ false
    → Each (λ o. same_object o.obj (record { ino = f; index = p }) ≡ false) (operations tid g off bytes ctx xs)
others_none tid g f p off bytes ctx [] other = each_nil _
others_none tid g f p off bytes ctx (x ∷ xs) other =
    each_cons (λ o. same_object o.obj (record { ino = f; index = p }) ≡ false) _ _ (and_left (g == f) (x.index == p) other)
    (others_none (tid + 1) g f p off bytes ctx xs other)

object_none : (obj : Obj) (os : List ObjOp) → Each (λ o. same_object o.obj obj ≡ false) os → object obj os ≡ []
object_none obj [] none = refl
object_none obj (o ∷ os) none =
    cond-false (same_object o.obj obj) (o ∷ object obj os) (object obj os) (none o (inl refl))
    ∙ object_none obj os (each_tail (λ u. same_object u.obj obj ≡ false) o os none)

abbrev pub HoldsAt : List Entry → Type 0
HoldsAt h = (f p j : ℕ) → j < OBJECT_SIZE → AreOf (OBJECT_SIZE * p + j) j (writes h f) (object (record { ino = f; index = p }) (applied h))

holds_written : (f p j tid off : ℕ) (bytes : List ℕ) (time : ℕ) (r : Live) (ctx : Context) (ws : List Write) (os : List ObjOp) → j < OBJECT_SIZE → r.tag ≡ ctx.seq
    → AreOf (OBJECT_SIZE * p + j) j ws (object (record { ino = f; index = p }) os)
    → AreOf (OBJECT_SIZE * p + j) j (with_write (Some r) off bytes time f ws)
    (object (record { ino = f; index = p }) (reverse (operations tid r.file off bytes ctx (pieces_of OBJECT_SIZE off (length bytes))) ++ os))
holds_written f p j tid off bytes time r ctx ws os small tag i =
    let obj : Obj = record { ino = f; index = p } in
    let new : List ObjOp = reverse (operations tid r.file off bytes ctx (pieces_of OBJECT_SIZE off (length bytes))) in
    let w : Write = record { off = off; bytes = bytes; time = time; tag = r.tag } in
    cond_both (r.file == f) (w ∷ ws) ws (λ vs. AreOf (OBJECT_SIZE * p + j) j vs (object obj (new ++ os)))
    (λ same.
    let file : r.file ≡ f = eqb-true r.file f same in
    let seqs : Each (λ o. o.ctx.seq ≡ r.tag) new = each_reverse (λ o. o.ctx.seq ≡ r.tag) _
    (λ o m. seqs_of tid r.file off bytes ctx (pieces_of OBJECT_SIZE off (length bytes)) o m ∙ sym tag) in
    let part : IsPart (OBJECT_SIZE * p + j) j w (object obj new) = record {
      seqs = each_object (λ o. o.ctx.seq ≡ r.tag) obj new seqs;
      byte = λ below. subst (λ g. byte_of (object obj (reverse (operations tid g off bytes ctx (pieces_of OBJECT_SIZE off (length bytes)))) ++ below) j
          ≡ byte_over off bytes (OBJECT_SIZE * p + j) (byte_of below j)) (sym file) (pieces_over tid f off bytes ctx p j below small);
    } in
    (object obj new, object obj os, object_append obj new os, part, i))
    (λ other.
    let none : object obj new ≡ [] = object_none obj new (each_reverse (λ o. same_object o.obj obj ≡ false) _
    (others_none tid r.file f p off bytes ctx (pieces_of OBJECT_SIZE off (length bytes)) other)) in
    subst (λ zs. AreOf (OBJECT_SIZE * p + j) j ws zs) (sym (object_append obj new os ∙ ap (λ zs. zs ++ object obj os) none)) i)

holds_write : (h : List Entry) (c : ℕ) (name : RefName) (off : ℕ) (bytes : List ℕ) (x : Answer) → WriteIs h c name x → TagsAreOfTheBegin h → HoldsAt h
    → HoldsAt (record { event = e.Write c name off bytes; answer = x } ∷ h)
holds_write h c name off bytes x write_unknown shares i = i
holds_write h c name off bytes x write_no_bit shares i = i
holds_write h c name off bytes x write_past shares i = i
holds_write h c name off bytes x (wrote r is may) shares i = λ f p j small.
    subst (λ found. AreOf (OBJECT_SIZE * p + j) j (with_write found off bytes (clock h) f (writes h f))
    (object (record { ino = f; index = p }) (reverse (written_on found (λ t. begun_under h t.caller t.number) (operations_drawn h) off bytes) ++ applied h))) (sym is)
    (holds_written f p j (operations_drawn h + 1) off bytes (clock h) r (begun_under h r.caller r.number) (writes h f) (applied h) small
    (shares r (named_is c name r (live h) is).1).0 (i f p j small))

pub holds_step : (p : ℕ) (h : List Entry) (x : Event) → TagsAreOfTheBegin h → HoldsAt h → HoldsAt (entry p h x ∷ h)
holds_step p h (e.Write c name off bytes) shares i = holds_write h c name off bytes _ (write_is h c name off bytes) shares i
holds_step p h _ shares i = i

pub holds_first : HoldsAt []
holds_first f p j small = refl

-- Contents

pub contents_of : (h : List Entry) → HoldsAt h → ObjectsHoldWrites h
contents_of h i low state f k =
    bytes_are _ _ (filter (λ w. low w.tag) (writes h f)) _ (kept_are low _ _ (writes h f) _ (i f (k / OBJECT_SIZE) (k % OBJECT_SIZE) (omega arith)))
    ∙ ap (λ n. image (filter (λ w. low w.tag) (writes h f)) n) (omega arith)

pub states_of : (h : List Entry) → Course h → HoldsAt h → StatesHoldWrites h
states_of h c i at.Head f k =
    bytes_are _ _ (writes h f) _ (i f (k / OBJECT_SIZE) (k % OBJECT_SIZE) (omega arith)) ∙ ap (λ n. image (writes h f) n) (omega arith)
states_of h c i (at.Snap s) f k =
    ap (λ os. byte_of os (k % OBJECT_SIZE))
    (before_below s _ (seqs_fall _ _ (writes h f) _ (i f (k / OBJECT_SIZE) (k % OBJECT_SIZE) (omega arith)) (c.order.1 f).tags.fall))
    ∙ contents_of h i (λ q. nat_lt q s) (below_state s) f k
  where
    below_state : (n : ℕ) → IsState (λ q. nat_lt q n)
    below_state n q r up is = lt-ltb q n (omega (arith, up, ltb-true r n is))
