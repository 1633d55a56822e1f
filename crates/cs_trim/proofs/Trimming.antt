-- What a store holds after a trim.
use Rattle.std.proofs.Common.{◌≡◌, ◌∙◌, refl, sym, ap, subst, ℕ, zero, suc, ◌+◌, ◌-◌, ◌≤◌, not, Bool, true, false, cond, List, [], ◌∷◌, length, map, filter, All, Option, arith, inl, inr}
use Rattle.std.proofs.lemmas.Bool.{cases_lt}
use Rattle.std.proofs.lemmas.Grind.{common_steps}
use Rattle.std.proofs.lemmas.List.{length-map}
use Rattle.std.proofs.lemmas.List.Elements.{All-filter, filter_agree, filter_passes}
use Rattle.std.proofs.lemmas.List.Filters.{length-filter_both}
use Rattle.cs_trim.specs.declared.numbers.SnapStatus.{SnapStatus}
use Rattle.cs_trim.specs.declared.object.Head.{Head}
use Rattle.cs_trim.specs.declared.object.KeptClone.{KeptClone}
use Rattle.cs_trim.specs.declared.object.Span.{Span}
use Rattle.cs_trim.specs.Clones.{given_up, kept, serves}
use Rattle.cs_trim.specs.Held.{ObjectState, StoreState, TrimsObjects, dropped, dropped_below, no_object, object_at, serves_in, status_in, trimmed_object}
use Rattle.cs_trim.specs.Objects.{writes}
use Rattle.cs_trim.specs.Stands.{EachServes, Follows, HasState, Holds, StandsFor}
use Rattle.cs_trim.specs.Steps.{Step, trimmed, status}
use Rattle.cs_trim.proofs.Standing.{any_same}

spans_by : (b : Bool) (c : KeptClone) (cs : List KeptClone) (ks : List Span) → map (λ c. c.span) cs ≡ ks
    → map (λ c. c.span) (cond b (c ∷ cs) cs) ≡ cond b (c.span ∷ ks) ks
spans_by true c cs ks is = ap (λ ks. c.span ∷ ks) is
spans_by false c cs ks is = is

-- the spans of the clones that pass a test of their spans
spans_filtered : (f : Span → Bool) (cs : List KeptClone) → map (λ c. c.span) (filter (λ c. f c.span) cs) ≡ filter f (map (λ c. c.span) cs)
spans_filtered f [] = refl
spans_filtered f (c ∷ cs) = spans_by (f c.span) c (filter (λ c. f c.span) cs) (filter f (map (λ c. c.span) cs)) (spans_filtered f cs)

-- they are those of the kept clones that pass an equal one
spans_kept : (f g : Span → Bool) (cs : List KeptClone) (ks : List Span) → ((k : Span) → f k ≡ g k) → map (λ c. c.span) cs ≡ ks
    → map (λ c. c.span) (filter (λ c. f c.span) cs) ≡ filter g ks
spans_kept f g cs ks same is = spans_filtered f cs ∙ (ap (filter f) is ∙ filter_agree f g same ks)

serves_same : (numbers : List SnapStatus) (h : List Step) → ((n : ℕ) → status_in numbers n ≡ status h n) → (k : Span) → serves_in numbers k ≡ serves h k
serves_same numbers h statuses k = any_same (status_in numbers) (status h) statuses k.above (k.upto - k.above)

holds_trimmed : (b : ℕ) (h : List Step) (numbers : List SnapStatus) (o : ObjectState) → ((n : ℕ) → status_in numbers n ≡ status h n)
    → Holds (writes b h) (kept b h) o → Holds (writes b h) (filter (serves h) (kept b h)) (trimmed_object numbers o)
holds_trimmed b h numbers o statuses holds = record {
  head = holds.head;
  clones = spans_kept (serves_in numbers) (serves h) o.clones (kept b h) (serves_same numbers h statuses) holds.clones;
  bytes = All-filter (λ c. serves_in numbers c.span) (HasState (writes b h)) o.clones holds.bytes;
}

pub follows_trimmed : (old new : StoreState) → TrimsObjects old new → Follows trimmed old new
follows_trimmed old new trims h s = record {
  drawn = ap length trims.numbers ∙ s.drawn;
  statuses = λ n. ap (λ ns. status_in ns n) trims.numbers ∙ s.statuses n;
  objects = λ b. subst (Holds (writes b h) (filter (serves h) (kept b h))) (sym (trims.objects b))
      (holds_trimmed b h old.numbers (object_at old.objects b) s.statuses (s.objects b));
}

not_same : (f g : Span → Bool) → ((k : Span) → f k ≡ g k) → (k : Span) → not (f k) ≡ not (g k)
not_same f g same k = ap not (same k)

dropped_is : (b : ℕ) (h : List Step) (s : StoreState) → StandsFor h s
    → dropped s.numbers (object_at s.objects b) ≡ length (filter (λ k. not (serves h k)) (kept b h))
dropped_is b h s stands =
    let o = object_at s.objects b in
    sym (length-map (filter (λ c. not (serves_in s.numbers c.span)) o.clones) (λ c. c.span))
    ∙ ap length (spans_kept (λ k. not (serves_in s.numbers k)) (λ k. not (serves h k)) o.clones (kept b h)
    (not_same (serves_in s.numbers) (serves h) (serves_same s.numbers h stands.statuses)) (stands.objects b).clones)

-- so many clones are given up
pub dropped_given_up : (n : ℕ) (h : List Step) (s : StoreState) → StandsFor h s → dropped_below s.numbers s.objects n ≡ given_up n h
dropped_given_up zero h s stands = refl
dropped_given_up (suc b) h s stands =
    ap (λ n. n + dropped s.numbers (object_at s.objects b)) (dropped_given_up b h s stands) ∙ ap (λ n. given_up b h + n) (dropped_is b h s stands)

pub each_serves : (old new : StoreState) → TrimsObjects old new → EachServes new
each_serves old new trims b =
    let passes : All (λ c. serves_in old.numbers c.span ≡ true) (trimmed_object old.numbers (object_at old.objects b)).clones =
    filter_passes (λ c. serves_in old.numbers c.span) (object_at old.objects b).clones in
    subst (λ ns. All (λ c. serves_in ns c.span ≡ true) (object_at new.objects b).clones) (sym trims.numbers)
    (subst (λ o. All (λ c. serves_in old.numbers c.span ≡ true) o.clones) (sym (trims.objects b)) passes)

-- ---- one object, and all of them

abbrev pub state_of : Option Head → List KeptClone → ObjectState
state_of head cs = record { head = head; clones = cs }

pub object_trimmed : (numbers : List SnapStatus) (head : Option Head) (old new : List KeptClone) (now : ObjectState)
    → new ≡ filter (λ c. serves_in numbers c.span) old → state_of head old ≡ now → state_of head new ≡ trimmed_object numbers now
object_trimmed numbers head old new now is same = ap (state_of head) is ∙ ap (trimmed_object numbers) same

pub count_dropped : (numbers : List SnapStatus) (before after : ℕ) (old new : List KeptClone) (now : ObjectState)
    → new ≡ filter (λ c. serves_in numbers c.span) old → old ≡ now.clones → before ≡ length now.clones → after ≡ length new
    → before - after ≡ dropped numbers now
count_dropped numbers before after old new now is same all left =
    let both = length-filter_both (λ (c : KeptClone). serves_in numbers c.span) (λ c. not (serves_in numbers c.span)) (λ c. refl) now.clones in
    let fewer : after ≡ length (filter (λ c. serves_in numbers c.span) now.clones) =
    left ∙ ap length (is ∙ ap (filter (λ c. serves_in numbers c.span)) same) in omega (arith, both, fewer, all)

behind : (objects : List ObjectState) (n : ℕ) → length objects ≤ n → object_at objects n ≡ no_object
behind objects n past = grind (arith, common_steps, past)

-- behind the last object nothing is dropped
pub dropped_past : (numbers : List SnapStatus) (objects : List ObjectState) (i n : ℕ) → length objects ≤ i → i ≤ n
    → dropped_below numbers objects i ≡ dropped_below numbers objects n
dropped_past numbers objects i zero past small = let none : i ≡ 0 = omega (arith, small) in ap (dropped_below numbers objects) none
dropped_past numbers objects i (suc n) past small = elim (cases_lt n i) [
  | inl less ↦ let last : i ≡ suc n = omega (arith, less, small) in ap (dropped_below numbers objects) last
  | inr under ↦
      let none : dropped numbers (object_at objects n) ≡ 0 = ap (dropped numbers) (behind objects n (omega (arith, past, under))) in
      let so_far = dropped_past numbers objects i n past under in
      let sum : dropped_below numbers objects i ≡ dropped_below numbers objects n + dropped numbers (object_at objects n) = omega (arith, none, so_far) in sum
]
