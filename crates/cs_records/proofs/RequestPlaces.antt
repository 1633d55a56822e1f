-- Where requests stand, and how they are answered.
use Rattle.std.proofs.Common.{◌≡◌, ℕ, zero, suc, ◌+◌, ◌<◌, ◌≤◌, ◌==◌, ◌||◌, Bool, true, false, cond, List, [], ◌∷◌, ◌++◌, Option, Some, None, length, take, max, nat_lt, refl, ◌∙◌, ap, arith}
use Rattle.std.specs.Option.{option_map}
use Rattle.std.proofs.lemmas.Bool.{eqb-true, le-ltb, lt-ltb}
use Rattle.cs_laws.specs.declared.records.Record.{Record}
use Rattle.cs_laws.specs.declared.records.RecordBody.{RecordBody}
use Rattle.cs_laws.specs.declared.records.RecordBody.TheVariants as bodies
use Rattle.cs_laws.specs.declared.requests.OpAnswer.{OpAnswer}
use Rattle.cs_laws.specs.Standing.{answer_in, answer_kept, greatest_request, has_request, is_request, request_tid}
use Rattle.cs_records.specs.declared.requests.Answered.{Answered}
use Rattle.cs_records.specs.Requests.{answered_at, answered_from}
use Rattle.cs_records.proofs.FlushPlaces.{both_false, is_in, true_or}
use Rattle.cs_records.proofs.Logs.{either, either_cond}

-- One more record

either_at : (t n : ℕ) (b : RecordBody) (o z : Option Answered) → answered_at t n b (either o z) ≡ either (answered_at t n b o) z
either_at t n (bodies.Request tid op answer) o z = either_cond (tid == t) (record { place = n; answer = answer }) o z
either_at t n (bodies.Flush snap f tid follows meta) o z = refl
either_at t n (bodies.Snap number d name) o z = refl
either_at t n (bodies.Removal s number) o z = refl

pub answered_append : (t n : ℕ) (rs : List Record) (r : Record)
    → answered_from t n (rs ++ r ∷ []) ≡ either (answered_from t n rs) (answered_at t (n + length rs) r.body None)
answered_append t n [] r = ap (λ k. answered_at t k r.body None) (omega arith)
answered_append t n (x ∷ rs) r =
    ap (λ o. answered_at t n x.body o) (answered_append t (n + 1) rs r
    ∙ ap (λ k. either (answered_from t (n + 1) rs) (answered_at t k r.body None)) (omega arith))
    ∙ either_at t n x.body (answered_from t (n + 1) rs) (answered_at t (n + length (x ∷ rs)) r.body None)

pub request_append : (rs : List Record) (r : Record) → greatest_request (rs ++ r ∷ []) ≡ max (greatest_request rs) (request_tid r.body)
request_append [] r = omega arith
request_append (x ∷ rs) r = omega (arith, request_append rs r)

-- no request has a greater number than the greatest
pub no_request : (t n : ℕ) (rs : List Record) → greatest_request rs < t → answered_from t n rs ≡ None
no_request t n [] new = refl
no_request t n (r ∷ rs) new = at r.body new (no_request t (n + 1) rs)
  where
    choice : (tid : ℕ) (a : Answered) (c : Bool) (o : Option Answered) → (tid == t) ≡ c → tid < t → o ≡ None → cond c (Some a) o ≡ None
    choice tid a true o e low none = absurd (let same = eqb-true tid t e in omega arith)
    choice tid a false o e low none = none

    at : (b : RecordBody) → max (request_tid b) (greatest_request rs) < t → (greatest_request rs < t → answered_from t (n + 1) rs ≡ None)
        → answered_at t n b (answered_from t (n + 1) rs) ≡ None
    at (bodies.Request tid op answer) new rest =
        choice tid (record { place = n; answer = answer }) (tid == t) (answered_from t (n + 1) rs) refl (omega (arith, new)) (rest (omega (arith, new)))
    at (bodies.Flush snap f tid follows meta) new rest = rest (omega (arith, new))
    at (bodies.Snap number d name) new rest = rest (omega (arith, new))
    at (bodies.Removal s number) new rest = rest (omega (arith, new))

-- Answers

pub answer_from : (t n : ℕ) (rs : List Record) → option_map (λ (a : Answered). a.answer) (answered_from t n rs) ≡ answer_kept t rs
answer_from t n [] = refl
answer_from t n (r ∷ rs) = at r.body (answered_from t (n + 1) rs) ∙ ap (λ o. answer_in t r.body o) (answer_from t (n + 1) rs)
  where
    choice : (c : Bool) (answer : OpAnswer) (o : Option Answered)
        → option_map (λ (a : Answered). a.answer) (cond c (Some (record { place = n; answer = answer })) o)
        ≡ cond c (Some answer) (option_map (λ (a : Answered). a.answer) o)
    choice true answer o = refl
    choice false answer o = refl

    at : (b : RecordBody) (o : Option Answered)
        → option_map (λ (a : Answered). a.answer) (answered_at t n b o) ≡ answer_in t b (option_map (λ (a : Answered). a.answer) o)
    at (bodies.Request tid op answer) o = choice (tid == t) answer o
    at (bodies.Flush snap f tid follows meta) o = refl
    at (bodies.Snap number d name) o = refl
    at (bodies.Removal s number) o = refl

-- Which requests stand in a front

abbrev place_of : Option Answered → Option ℕ
place_of o = option_map (λ (a : Answered). a.place) o

in_at : (t n d : ℕ) (b : RecordBody) (o : Option Answered)
    → is_in d (place_of (answered_at t n b o)) ≡ cond (is_request t b) (nat_lt n d) (is_in d (place_of o))
in_at t n d (bodies.Request tid op answer) o = at (tid == t)
  where
    at : (c : Bool) → is_in d (place_of (cond c (Some (record { place = n; answer = answer })) o)) ≡ cond c (nat_lt n d) (is_in d (place_of o))
    at true = refl
    at false = refl
in_at t n d (bodies.Flush snap f tid follows meta) o = refl
in_at t n d (bodies.Snap number e name) o = refl
in_at t n d (bodies.Removal s number) o = refl

-- none of those behind the front
request_behind : (t n d : ℕ) (rs : List Record) → d ≤ n → is_in d (place_of (answered_from t n rs)) ≡ false
request_behind t n d [] high = refl
request_behind t n d (r ∷ rs) high =
    in_at t n d r.body (answered_from t (n + 1) rs)
    ∙ both_false (is_request t r.body) (nat_lt n d) _ (le-ltb n d high) (request_behind t (n + 1) d rs (omega arith))

request_in_front : (t n d : ℕ) (rs : List Record) → is_in (n + d) (place_of (answered_from t n rs)) ≡ has_request t (take d rs)
request_in_front t n zero [] = refl
request_in_front t n (suc d) [] = refl
request_in_front t n zero (r ∷ rs) = request_behind t n (n + 0) (r ∷ rs) (omega arith)
request_in_front t n (suc d) (r ∷ rs) =
    in_at t n (n + suc d) r.body (answered_from t (n + 1) rs)
    ∙ (true_or (is_request t r.body) (nat_lt n (n + suc d)) _ (lt-ltb n (n + suc d) (omega arith))
    ∙ ap (λ b. is_request t r.body || b)
    (ap (λ k. is_in k (place_of (answered_from t (n + 1) rs))) (omega arith) ∙ request_in_front t (n + 1) d rs))

pub request_durable : (t d : ℕ) (rs : List Record) → is_in d (option_map (λ (a : Answered). a.place) (answered_from t 0 rs)) ≡ has_request t (take d rs)
request_durable t d rs = ap (λ k. is_in k (place_of (answered_from t 0 rs))) (omega arith) ∙ request_in_front t 0 d rs
