-- The spans of a list of operations: how many there are, and which of them has a state of the object.
use Rattle.std.proofs.Common.{◌≡◌, ◌∙◌, sym, refl, ap, ℕ, ◌+◌, ◌<◌, ◌&&◌, nat_lt, Bool, true, false, cond, List, [], ◌∷◌, length, arith}
use Rattle.std.proofs.lemmas.Grind.{common_steps}
use Rattle.cs_laws.specs.declared.objects.ObjOp.{ObjOp}
use Rattle.cs_laws.specs.Objects.{all_below, before}
use Rattle.cs_objstore.specs.Clones.{exists, times_cloned}
use Rattle.cs_objstore.specs.Kept.{Span, grown, spans}

abbrev pub top : List Span → ℕ
top [] = 0
top (s ∷ ss) = s.since

abbrev pub newest : List Span → List ObjOp
newest [] = []
newest (s ∷ ss) = s.ops

-- the operations of the newest span that began below a number
abbrev pub ops_below : ℕ → List Span → List ObjOp
ops_below n [] = []
ops_below n (s ∷ ss) = cond (nat_lt s.since n) s.ops (ops_below n ss)

abbrev pub any_span : List Span → Bool
any_span [] = false
any_span (s ∷ ss) = true

-- ---- a span that goes on

top_grown : (os : List ObjOp) (ss : List Span) → top (grown os ss) ≡ top ss
top_grown os [] = refl
top_grown os (s ∷ ss) = refl

any_grown : (os : List ObjOp) (ss : List Span) → any_span (grown os ss) ≡ any_span ss
any_grown os [] = refl
any_grown os (s ∷ ss) = refl

length_grown : (os : List ObjOp) (ss : List Span) → length (grown os ss) ≡ length ss
length_grown os [] = refl
length_grown os (s ∷ ss) = refl

newest_grown : (os : List ObjOp) (ss : List Span) → any_span ss ≡ true → newest (grown os ss) ≡ os
newest_grown os [] some = absurd (cc)
newest_grown os (s ∷ ss) some = refl

twice : {A : Type 0} (b : Bool) (x y z : A) → cond b x z ≡ cond b x (cond b y z)
twice true x y z = refl
twice false x y z = refl

below_grown : (n : ℕ) (os : List ObjOp) (ss : List Span) → any_span ss ≡ true → ops_below n (grown os ss) ≡ cond (nat_lt (top ss) n) os (ops_below n ss)
below_grown n os [] some = absurd (cc)
below_grown n os (s ∷ ss) some = twice (nat_lt s.since n) os s.ops (ops_below n ss)

-- ---- the last span

any_by : (o p : ObjOp) (ps : List ObjOp) (b : Bool) → any_span (spans (p ∷ ps)) ≡ true
    → any_span (cond b (record { since = o.ctx.seq; ops = o ∷ p ∷ ps } ∷ spans (p ∷ ps)) (grown (o ∷ p ∷ ps) (spans (p ∷ ps)))) ≡ true
any_by o p ps true some = refl
any_by o p ps false some = any_grown (o ∷ p ∷ ps) (spans (p ∷ ps)) ∙ some

pub any_spans : (os : List ObjOp) → any_span (spans os) ≡ exists os
any_spans [] = refl
any_spans (o ∷ []) = refl
any_spans (o ∷ p ∷ ps) = any_by o p ps (all_below o.ctx.seq (p ∷ ps)) (any_spans (p ∷ ps))

newest_by : (o p : ObjOp) (ps : List ObjOp) (b : Bool) → any_span (spans (p ∷ ps)) ≡ true
    → newest (cond b (record { since = o.ctx.seq; ops = o ∷ p ∷ ps } ∷ spans (p ∷ ps)) (grown (o ∷ p ∷ ps) (spans (p ∷ ps)))) ≡ o ∷ p ∷ ps
newest_by o p ps true some = refl
newest_by o p ps false some = newest_grown (o ∷ p ∷ ps) (spans (p ∷ ps)) some

pub newest_spans : (os : List ObjOp) → newest (spans os) ≡ os
newest_spans [] = refl
newest_spans (o ∷ []) = refl
newest_spans (o ∷ p ∷ ps) = newest_by o p ps (all_below o.ctx.seq (p ∷ ps)) (any_spans (p ∷ ps))

and_of_greater : (a t q : ℕ) (b : Bool) → nat_lt t a ≡ b → (nat_lt a q && nat_lt t q) ≡ nat_lt (cond b a t) q
and_of_greater a t q true is = grind (arith, common_steps, is)
and_of_greater a t q false is = grind (arith, common_steps, is)

top_by : (o : ObjOp) (os : List ObjOp) (b : Bool)
    → top (cond b (record { since = o.ctx.seq; ops = o ∷ os } ∷ spans os) (grown (o ∷ os) (spans os))) ≡ cond b o.ctx.seq (top (spans os))
top_by o os true = refl
top_by o os false = top_grown (o ∷ os) (spans os)

and_true : (b : Bool) → (b && true) ≡ b
and_true true = refl
and_true false = refl

-- a number is above those of all operations exactly where it is above the last span's
pub above_top : (os : List ObjOp) (q : ℕ) → exists os ≡ true → all_below q os ≡ nat_lt (top (spans os)) q
above_top [] q some = absurd (cc)
above_top (o ∷ []) q some = and_true (nat_lt o.ctx.seq q)
above_top (o ∷ p ∷ ps) q some =
    let b = all_below o.ctx.seq (p ∷ ps) in
    ap (λ x. nat_lt o.ctx.seq q && x) (above_top (p ∷ ps) q refl)
    ∙ (and_of_greater o.ctx.seq (top (spans (p ∷ ps))) q b (sym (above_top (p ∷ ps) o.ctx.seq refl))
    ∙ ap (λ t. nat_lt t q) (sym (top_by o (p ∷ ps) b)))

-- ---- states

exists_above : (q : ℕ) (os : List ObjOp) → all_below q os ≡ false → exists os ≡ true
exists_above q [] not = absurd (cc)
exists_above q (o ∷ os) not = refl

all_below_more : (a b : ℕ) (os : List ObjOp) → a < b → all_below a os ≡ true → all_below b os ≡ true
all_below_more a b [] less below = refl
all_below_more a b (o ∷ os) less below =
    let first : nat_lt o.ctx.seq b ≡ true = grind (arith, common_steps, below, less) in
    let rest : all_below a os ≡ true = grind (arith, common_steps, below) in
    rw (first, all_below_more a b os less rest) refl

opened : (n : ℕ) (o : ObjOp) (os : List ObjOp) (b : Bool) → nat_lt o.ctx.seq n ≡ b → all_below o.ctx.seq os ≡ true → ops_below n (spans os) ≡ before n os
    → cond b (o ∷ os) (ops_below n (spans os)) ≡ cond (b && all_below n os) (o ∷ os) (before n os)
opened n o os true less below so = rw (all_below_more o.ctx.seq n os (grind (arith, common_steps, less)) below) refl
opened n o os false less below so = so

below_by : (n : ℕ) (o : ObjOp) (os : List ObjOp) (b : Bool) → all_below o.ctx.seq os ≡ b → ops_below n (spans os) ≡ before n os
    → ops_below n (cond b (record { since = o.ctx.seq; ops = o ∷ os } ∷ spans os) (grown (o ∷ os) (spans os))) ≡ before n (o ∷ os)
below_by n o os true is so = opened n o os (nat_lt o.ctx.seq n) refl is so
below_by n o os false is so =
    let some = exists_above o.ctx.seq os is in
    let t = top (spans os) in
    let all : (nat_lt o.ctx.seq n && all_below n os) ≡ nat_lt t n =
    ap (λ x. nat_lt o.ctx.seq n && x) (above_top os n some) ∙ and_of_greater o.ctx.seq t n false (sym (above_top os o.ctx.seq some) ∙ is)
    in below_grown n (o ∷ os) (spans os) (any_spans os ∙ some)
    ∙ (ap (λ x. cond (nat_lt t n) (o ∷ os) x) so ∙ ap (λ b. cond b (o ∷ os) (before n os)) (sym all))

-- the state at a snapshot is that of the newest span that began below it
pub state_of_span : (n : ℕ) (os : List ObjOp) → ops_below n (spans os) ≡ before n os
state_of_span n [] = refl
state_of_span n (o ∷ os) = below_by n o os (all_below o.ctx.seq os) refl (state_of_span n os)

-- ---- clones

count_by : (o : ObjOp) (os : List ObjOp) (b : Bool) → all_below o.ctx.seq os ≡ b → length (spans os) ≡ cond (exists os) (times_cloned os + 1) 0
    → length (cond b (record { since = o.ctx.seq; ops = o ∷ os } ∷ spans os) (grown (o ∷ os) (spans os)))
    ≡ cond (exists os && b) (times_cloned os + 1) (times_cloned os) + 1
count_by o [] true is so = refl
count_by o (p ∷ ps) true is so = grind (arith, common_steps, so)
count_by o [] false is so = absurd (cc)
count_by o (p ∷ ps) false is so = length_grown (o ∷ p ∷ ps) (spans (p ∷ ps)) ∙ so

pub spans_count : (os : List ObjOp) → length (spans os) ≡ cond (exists os) (times_cloned os + 1) 0
spans_count [] = refl
spans_count (o ∷ os) = count_by o os (all_below o.ctx.seq os) refl (spans_count os)
