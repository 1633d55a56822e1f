-- Live references were begun with issued bits, under numbers that are drawn once.
use Rattle.std.proofs.Common.{◌≡◌, refl, sym, ap, subst, ℕ, ◌+◌, ◌≤◌, Bool, true, false, cond, List, [], ◌∷◌, ◌==◌, inl, inr, arith}
use Rattle.std.proofs.lemmas.Bool.{eqb-true}
use Rattle.cs_bits.specs.declared.Caps.{Caps}
use Rattle.cs_parts.specs.declared.references.Live.{Live}
use Rattle.cs_parts.specs.References.{is_ref, without_ref}
use Rattle.cs_laws.specs.declared.events.Event.{Event}
use Rattle.cs_laws.specs.declared.events.Event.TheVariants as e
use Rattle.cs_laws.specs.declared.events.RefName.{RefName}
use Rattle.cs_laws.specs.declared.events.RefName.TheVariants as names
use Rattle.cs_laws.specs.declared.answers.Answer.{Answer}
use Rattle.cs_laws.specs.declared.answers.Entry.{Entry}
use Rattle.cs_laws.specs.Events.{begun}
use Rattle.cs_laws.specs.History.{live}
use Rattle.cs_laws.specs.Journal.{entry}
use Rattle.cs_laws.specs.References.{without_named}
use Rattle.cs_laws.specs.Laws.{WasIssued}
use Rattle.cs_laws.specs.Runs.{IsRun}
use Rattle.cs_theorems.proofs.Runs.{of_run}
use Rattle.cs_theorems.specs.References.{LiveWereIssued, drawn, IsEachOnce, NumbersAreDrawnOnce}
use Rattle.cs_theorems.proofs.Listed.{Member, Each, each_nil, each_cons, each_end}
use Rattle.cs_theorems.proofs.Inversions.{BeginIs, begin_unknown, begin_caps, begin_snap, begin_max, begin_full, begun_ref, begin_is, EndIs, end_unknown, ended, end_is}

-- what is left was there

left_of : (b : Bool) (r y : Live) (ys rest : List Live) → (Member r rest → Member r ys) → Member r (cond b ys (y ∷ rest)) → Member r (y ∷ ys)
left_of true r y ys rest more m = inr m
left_of false r y ys rest more (inl same) = inl same
left_of false r y ys rest more (inr m) = inr (more m)

member_without : (c n : ℕ) (rs : List Live) (r : Live) → Member r (without_ref c n rs) → Member r rs
member_without c n [] r m = m
member_without c n (y ∷ ys) r m = left_of (is_ref c n y) r y ys (without_ref c n ys) (member_without c n ys r) m

pub member_without_named : (c : ℕ) (name : RefName) (rs : List Live) (r : Live) → Member r (without_named c name rs) → Member r rs
member_without_named c (names.Own n) rs r m = member_without c n rs r m
member_without_named c (names.Kept n) rs r m = m

-- Issued bits

issued_begin : (h : List Entry) (c f : ℕ) (b : Caps) (n : ℕ) (x : Answer) → BeginIs h c f b x → LiveWereIssued h
    → LiveWereIssued (record { event = e.Begin c f b n; answer = x } ∷ h)
issued_begin h c f b n x begin_unknown i = λ r m. inr (i r m)
issued_begin h c f b n x begin_caps i = λ r m. inr (i r m)
issued_begin h c f b n x begin_snap i = λ r m. inr (i r m)
issued_begin h c f b n x begin_max i = λ r m. inr (i r m)
issued_begin h c f b n x begin_full i = λ r m. inr (i r m)
issued_begin h c f b n x (begun_ref known issued free) i =
    each_end (λ r. WasIssued (record { event = e.Begin c f b n; answer = x } ∷ h) r) (live h) _ (λ r m. inr (i r m)) (inl (refl, issued))

issued_end : (h : List Entry) (c : ℕ) (name : RefName) (x : Answer) → EndIs h c name x → LiveWereIssued h
    → LiveWereIssued (record { event = e.End c name; answer = x } ∷ h)
issued_end h c name x end_unknown i = λ r m. inr (i r m)
issued_end h c name x (ended there) i = λ r m. inr (i r (member_without_named c name (live h) r m))

pub issued_step : (p : ℕ) (h : List Entry) (x : Event) → LiveWereIssued h → LiveWereIssued (entry p h x ∷ h)
issued_step p h (e.Begin c f b n) i = issued_begin h c f b n _ (begin_is h c f b n) i
issued_step p h (e.End c name) i = issued_end h c name _ (end_is h c name) i
issued_step p h _ i = λ r m. inr (i r m)

pub nothing_issued : LiveWereIssued []
nothing_issued = each_nil (WasIssued [])

pub live_were_issued : (p : ℕ) (h : List Entry) → IsRun p h → LiveWereIssued h
live_were_issued p h run = of_run p LiveWereIssued nothing_issued (λ g x fit before i. issued_step p g x i) h run

-- Numbers

-- the numbers drawn so far are at most n, and each stands once
pub record Drawn (n : ℕ) (ns : List ℕ) : Type 0 where
  pub low : Each (λ k. k ≤ n) ns
  pub once : IsEachOnce ns

draws : (n : ℕ) (ns : List ℕ) → Drawn n ns → Drawn (n + 1) ((n + 1) ∷ ns)
draws n ns i = record {
  low = each_cons (λ k. k ≤ n + 1) (n + 1) ns (omega arith) (λ k m. let low : k ≤ n = i.low k m in omega arith);
  once = (λ m. let low : n + 1 ≤ n = i.low (n + 1) m in absurd (omega arith), i.once);
}

draws_for : (b : Bool) (c d n k : ℕ) (ns : List ℕ) → (c == d) ≡ b → (c ≡ d → k ≡ n) → Drawn n ns → Drawn (cond b (n + 1) n) (cond b ((k + 1) ∷ ns) ns)
draws_for true c d n k ns t same i = let P : ℕ → Type 0 = λ j. Drawn (n + 1) ((j + 1) ∷ ns) in subst P (sym (same (eqb-true c d t))) (draws n ns i)
draws_for false c d n k ns t same i = i

abbrev AllDrawn : List Entry → Type 0
AllDrawn h = (c : ℕ) → Drawn (begun h c) (drawn h c)

drawn_begin : (h : List Entry) (c f : ℕ) (b : Caps) (n : ℕ) (x : Answer) → BeginIs h c f b x → AllDrawn h
    → AllDrawn (record { event = e.Begin c f b n; answer = x } ∷ h)
drawn_begin h c f b n x begin_unknown i = i
drawn_begin h c f b n x begin_caps i = i
drawn_begin h c f b n x begin_snap i = i
drawn_begin h c f b n x begin_max i = i
drawn_begin h c f b n x begin_full i = i
drawn_begin h c f b n x (begun_ref known issued free) i =
    λ d. draws_for (c == d) c d (begun h d) (begun h c) (drawn h d) refl (λ same. ap (λ k. begun h k) same) (i d)

drawn_step : (p : ℕ) (h : List Entry) (x : Event) → AllDrawn h → AllDrawn (entry p h x ∷ h)
drawn_step p h (e.Begin c f b n) i = drawn_begin h c f b n _ (begin_is h c f b n) i
drawn_step p h _ i = i

pub drawn_once : (p : ℕ) (h : List Entry) → IsRun p h → NumbersAreDrawnOnce h
drawn_once p h run =
    λ c. (of_run p AllDrawn (λ d. record { low = each_nil (λ k. k ≤ 0); once = tt }) (λ g x fit before i. drawn_step p g x i) h run c).once
