-- What a store reads from the versions that it keeps, and that they are kept.
use Rattle.std.proofs.Common.{◌≡◌, ◌∙◌, sym, refl, ap, ℕ, suc, ◌+◌, ◌-◌, ◌<◌, nat_lt, Bool, true, false, cond, List, [], ◌∷◌, length, drop, arith}
use Rattle.std.proofs.lemmas.Grind.{common_steps}
use Rattle.cs_laws.specs.declared.objects.At.{At}
use Rattle.cs_laws.specs.declared.objects.At.TheVariants as at
use Rattle.cs_laws.specs.declared.objects.ObjOp.{ObjOp}
use Rattle.cs_laws.specs.Image.{byte_over}
use Rattle.cs_laws.specs.Objects.{all_below, before, byte_of}
use Rattle.cs_objstore.specs.Blocks.{byte_in}
use Rattle.cs_objstore.specs.Clones.{exists, times_cloned}
use Rattle.cs_objstore.specs.Kept.{Keeps, Span, grown, spans}
use Rattle.cs_objstore.specs.Versions.{image_at, image_of, is_newer, newer, since_of, AreSame}
use Rattle.cs_objstore.specs.declared.object.Version.{Version}
use Rattle.cs_objstore.proofs.Same.{keeps_same}
use Rattle.cs_objstore.proofs.Spans.{above_top, any_span, any_spans, newest, newest_spans, ops_below, spans_count, state_of_span, top}

-- the operations of a state, by those of the object
abbrev pub state : At → List ObjOp → List ObjOp
state at.Head os = os
state (at.Snap s) os = before s os

below_step : (b c : Bool) (v : Version) (vs : List Version) (s : Span) (ss : List Span) (n i : ℕ) → b ≡ c → byte_in v.image i ≡ byte_of s.ops i
    → byte_in (image_of (drop (newer n vs) vs)) i ≡ byte_of (ops_below n ss) i
    → byte_in (image_of (drop (cond b 0 (suc (newer n vs))) (v ∷ vs))) i ≡ byte_of (cond c s.ops (ops_below n ss)) i
below_step true true v vs s ss n i e here there = here
below_step true false v vs s ss n i e here there = absurd (cc)
below_step false true v vs s ss n i e here there = absurd (cc)
below_step false false v vs s ss n i e here there = there

keeps_below : (n : ℕ) (vs : List Version) (ss : List Span) (i : ℕ) → Keeps vs ss → byte_in (image_of (drop (newer n vs) vs)) i ≡ byte_of (ops_below n ss) i
keeps_below n [] [] i k = refl
keeps_below n [] (s ∷ ss) i k = absurd k
keeps_below n (v ∷ vs) [] i k = absurd k
keeps_below n (v ∷ vs) (s ∷ ss) i k =
    below_step (nat_lt v.since n) (nat_lt s.since n) v vs s ss n i (ap (λ x. nat_lt x n) k.0) (k.1 i) (keeps_below n vs ss i k.2)

keeps_newest : (vs : List Version) (ss : List Span) (i : ℕ) → Keeps vs ss → byte_in (image_of vs) i ≡ byte_of (newest ss) i
keeps_newest [] [] i k = refl
keeps_newest [] (s ∷ ss) i k = absurd k
keeps_newest (v ∷ vs) [] i k = absurd k
keeps_newest (v ∷ vs) (s ∷ ss) i k = k.1 i

keeps_head : (vs : List Version) (os : List ObjOp) (i : ℕ) → Keeps vs (spans os) → byte_in (image_of vs) i ≡ byte_of os i
keeps_head vs os i k = keeps_newest vs (spans os) i k ∙ ap (λ x. byte_of x i) (newest_spans os)

-- the bytes of a state are in the version that has it
pub reads_state : (a : At) (vs : List Version) (os : List ObjOp) (i : ℕ) → Keeps vs (spans os) → byte_in (image_at a vs) i ≡ byte_of (state a os) i
reads_state at.Head vs os i k = keeps_head vs os i k
reads_state (at.Snap s) vs os i k = keeps_below s vs (spans os) i k ∙ ap (λ x. byte_of x i) (state_of_span s os)

keeps_length : (vs : List Version) (ss : List Span) → Keeps vs ss → length vs ≡ length ss
keeps_length [] [] k = refl
keeps_length [] (s ∷ ss) k = absurd k
keeps_length (v ∷ vs) [] k = absurd k
keeps_length (v ∷ vs) (s ∷ ss) k = grind (arith, common_steps, keeps_length vs ss k.2)

count_less : (b : Bool) (n : ℕ) → (b ≡ false → n ≡ 0) → cond b (n + 1) 0 - 1 ≡ n
count_less true n none = omega arith
count_less false n none = sym (none refl)

none_cloned : (os : List ObjOp) → exists os ≡ false → times_cloned os ≡ 0
none_cloned [] not = refl
none_cloned (o ∷ os) not = absurd (cc)

-- there is one version more than the object was cloned
pub clones_counted : (vs : List Version) (os : List ObjOp) → Keeps vs (spans os) → length vs - 1 ≡ times_cloned os
clones_counted vs os k = ap (λ n. n - 1) (keeps_length vs (spans os) k ∙ spans_count os) ∙ count_less (exists os) (times_cloned os) (none_cloned os)

-- ---- a write

newer_none : (q : ℕ) (vs : List Version) → Keeps vs [] → is_newer q vs ≡ true
newer_none q [] k = refl
newer_none q (v ∷ vs) k = absurd k

newer_some : (q : ℕ) (vs : List Version) (ss : List Span) → Keeps vs ss → any_span ss ≡ true → is_newer q vs ≡ nat_lt (top ss) q
newer_some q vs [] k some = absurd (cc)
newer_some q [] (s ∷ ss) k some = absurd k
newer_some q (v ∷ vs) (s ∷ ss) k some = ap (λ n. nat_lt n q) k.0

newer_by : (q : ℕ) (vs : List Version) (os : List ObjOp) → Keeps vs (spans os) → is_newer q vs ≡ all_below q os
newer_by q vs [] k = newer_none q vs k
newer_by q vs (o ∷ os) k = newer_some q vs (spans (o ∷ os)) k (any_spans (o ∷ os)) ∙ sym (above_top (o ∷ os) q refl)

-- a version more, or a head that goes on
keeps_by : (op : ObjOp) (os : List ObjOp) (b : Bool) (old : List Version) (ss : List Span) (n : Version) (ns : List Version) → Keeps old ss
    → (b ≡ false → any_span ss ≡ true)
    → n.since ≡ cond b op.ctx.seq (since_of old) → AreSame (cond b old (drop 1 old)) ns → ((i : ℕ) → byte_in n.image i ≡ byte_of (op ∷ os) i)
    → Keeps (n ∷ ns) (cond b (record { since = op.ctx.seq; ops = op ∷ os } ∷ ss) (grown (op ∷ os) ss))
keeps_by op os true old ss n ns k some since rest bytes = (since, bytes, keeps_same old ns ss rest k)
keeps_by op os false old [] n ns k some since rest bytes = let none = some refl in absurd (cc)
keeps_by op os false [] (s ∷ ss) n ns k some since rest bytes = absurd k
keeps_by op os false (v ∷ vs) (s ∷ ss) n ns k some since rest bytes = (since ∙ k.0, bytes, keeps_same vs ns ss rest k.2)

exists_spans : (q : ℕ) (os : List ObjOp) → all_below q os ≡ false → any_span (spans os) ≡ true
exists_spans q [] not = absurd (cc)
exists_spans q (o ∷ os) not = any_spans (o ∷ os)

pub keeps_written : (op : ObjOp) (os : List ObjOp) (old new : List Version) → Keeps old (spans os) → 0 < length new
    → since_of new ≡ cond (is_newer op.ctx.seq old) op.ctx.seq (since_of old)
    → AreSame (cond (is_newer op.ctx.seq old) old (drop 1 old)) (drop 1 new)
    → ((i : ℕ) → byte_in (image_of new) i ≡ byte_over op.off op.bytes i (byte_in (image_of old) i))
    → Keeps new (spans (op ∷ os))
keeps_written op os old [] k some since rest bytes = absurd (omega arith)
keeps_written op os old (n ∷ ns) k some since rest bytes =
    let newer = newer_by op.ctx.seq old os k in
    keeps_by op os (all_below op.ctx.seq os) old (spans os) n ns k (exists_spans op.ctx.seq os) (rw newer at since) (rw newer at rest)
    (λ i. bytes i ∙ ap (byte_over op.off op.bytes i) (keeps_head old os i k))
