-- The metadata of a file at a state that isn't owed is that of the state's writes.
use Rattle.std.proofs.Common.{◌≡◌, refl, sym, subst, ap, ◌∙◌, ℕ, ◌<◌, ◌≤◌, true, false, Bool, cond, nat_le, nat_lt, filter, List, [], ◌∷◌, arith, inl, inr, ⊎_elim, Option, Some, None}
use Rattle.std.proofs.lemmas.Bool.{both_ways, cases_lt, cond-false, le-leb, le-ltb, lt-leb, lt-ltb, ltb-false, ltb-true, not-false}
use Rattle.cs_bits.specs.Bits.{is_empty}
use Rattle.cs_ids.specs.declared.objects.FileMeta.{FileMeta}
use Rattle.cs_laws.specs.declared.answers.Entry.{Entry}
use Rattle.cs_laws.specs.declared.objects.At.{At}
use Rattle.cs_laws.specs.declared.objects.At.TheVariants as at
use Rattle.cs_laws.specs.declared.records.Record.{Record}
use Rattle.cs_laws.specs.Flushes.{Flush, flush_record, written_meta}
use Rattle.cs_laws.specs.History.{context, dirty, queued, sent, stand, writes}
use Rattle.cs_laws.specs.Image.{Write, older}
use Rattle.cs_laws.specs.Metadata.{last_flush, meta_at, meta_of, no_meta}
use Rattle.cs_laws.specs.Owed.{mode_at}
use Rattle.cs_laws.specs.Shown.{is_before, writes_at}
use Rattle.cs_laws.specs.Runs.{IsRun}
use Rattle.cs_theorems.specs.Metadata.{MetadataIsOfTheWrites}
use Rattle.cs_theorems.proofs.Covers.{Between, IsCovered, IsLatest, Made, measure}
use Rattle.cs_theorems.proofs.FlushReplays.{records_sent}
use Rattle.cs_theorems.proofs.Footing.{Footing, footing_run}
use Rattle.cs_theorems.proofs.LastFlush.{IsLast, IsOf, last_is}
use Rattle.cs_theorems.proofs.Modes.{Change, changes, changes_below, changes_upto, last_mode, mode_is}
use Rattle.cs_theorems.proofs.Modes as modes
use Rattle.cs_theorems.proofs.Listed.{Each, Member, each_tail}
use Rattle.cs_theorems.proofs.Queues.{upto_all}
use Rattle.cs_theorems.proofs.Settled.{Settled, settled, sent_stands}

-- Lists of what was done

filter_same : {A : Type 0} (p q : A → Bool) (xs : List A) → Each (λ x. p x ≡ q x) xs → filter p xs ≡ filter q xs
filter_same p q [] same = refl
filter_same p q (x ∷ xs) same =
    ap (λ b. cond b (x ∷ filter p xs) (filter p xs)) (same x (inl refl))
    ∙ ap (λ ys. cond (q x) (x ∷ ys) ys) (filter_same p q xs (each_tail (λ y. p y ≡ q y) x xs same))

filter_none : {A : Type 0} (p : A → Bool) (xs : List A) → Each (λ x. p x ≡ false) xs → filter p xs ≡ []
filter_none p [] none = refl
filter_none p (x ∷ xs) none =
    cond-false (p x) (x ∷ filter p xs) (filter p xs) (none x (inl refl)) ∙ filter_none p xs (each_tail (λ y. p y ≡ false) x xs none)

-- a tag is at most q exactly where it is below s, if q is below s and no tag is between
upto_below : (t q s : ℕ) → q < s → (t < s → t ≤ q) → nat_le t q ≡ nat_lt t s
upto_below t q s below none =
    ⊎_elim
    (λ old. le-leb t q (none old) ∙ sym (lt-ltb t s old))
    (λ late. lt-leb t q (omega arith) ∙ sym (le-ltb t s late))
    (cases_lt t s)

not_below : (t s : ℕ) → (t < s → ⊥) → nat_lt t s ≡ false
not_below t s late = le-ltb t s (⊎_elim (λ old. absurd (late old)) (λ upto. upto) (cases_lt t s))

-- the metadata of the writes and the changes below s
abbrev meta_below : ℕ → List Write → List Change → FileMeta
meta_below s ws cs = written_meta (last_mode (changes_below s cs)) (older s ws)

-- that of those up to q is the same, where none is between
measure_below : (q s : ℕ) (ws : List Write) (cs : List Change) → q < s → Each (λ w. w.tag < s → w.tag ≤ q) ws → Each (λ c. c.tag < s → c.tag ≤ q) cs
    → measure q ws cs ≡ meta_below s ws cs
measure_below q s ws cs below written changed =
    ap (λ vs. written_meta (last_mode (changes_upto q cs)) vs) (filter_same (λ w. nat_le w.tag q) (λ w. nat_lt w.tag s) ws (λ w k. upto_below w.tag q s below (written w k)))
    ∙ ap (λ ds. written_meta (last_mode ds) (older s ws)) (filter_same (λ c. nat_le c.tag q) (λ c. nat_lt c.tag s) cs (λ c k. upto_below c.tag q s below (changed c k)))

none_below : (s : ℕ) (ws : List Write) (cs : List Change) → Each (λ w. w.tag < s → ⊥) ws → Each (λ c. c.tag < s → ⊥) cs → no_meta ≡ meta_below s ws cs
none_below s ws cs written changed =
    ap (λ vs. written_meta 420 vs) (sym (filter_none (λ w. nat_lt w.tag s) ws (λ w k. not_below w.tag s (written w k))))
    ∙ ap (λ ds. written_meta (last_mode ds) (older s ws)) (sym (filter_none (λ c. nat_lt c.tag s) cs (λ c k. not_below c.tag s (changed c k))))

-- Flushes that stand

-- a standing flush of the time before the state follows a number of at least t
abbrev Stood : ℕ → At → List Record → ℕ → Type 0
Stood f a rs t = (x : Flush) × Member (flush_record x) rs × IsOf f a x × (t ≤ x.follows)

-- what was made of the time before the state was sent, and stands
made_stands : (h : List Entry) → Footing h → (f : ℕ) (a : At) → Settled h f a → (q : ℕ) → ((n : ℕ) → n ≡ q → is_before a n ≡ true)
    → Made f q (queued h f) (sent h) → (x : Flush) × Member (flush_record x) (stand h) × IsOf f a x × (x.follows ≡ q)
made_stands h i f a free q before (inl (x, waits, is)) =
    absurd (both_ways (is_before a x.follows) (free.unqueued x waits) (before x.follows is))
made_stands h i f a free q before (inr (x, there, of_f, is)) =
    (x, sent_stands h i f a free x there of_f (before x.follows is), (of_f, before x.follows is), is)

-- the last of them has the metadata up to its number
last_right : (h : List Entry) → Footing h → (f : ℕ) (a : At) → Settled h f a → (x : Flush) → IsLast f a (stand h) (Some x)
    → ((x.follows ≡ (context h f).seq) → is_empty (dirty h f) ≡ false → ⊥) → x.meta ≡ measure x.follows (writes h f) (changes h f)
last_right h i f a free x last clean =
    ⊎_elim
    (λ (y, waits, is). absurd (both_ways (is_before a y.follows) (free.unqueued y waits) (subst (λ n. is_before a n ≡ true) (sym is) last.1.1)))
    (λ more. ⊎_elim (λ now. absurd (clean now.0 now.1)) (λ right. right) more)
    ((i.covered f).metas x (records_sent h i.replay (flush_record x) last.0) last.1.0 latest)
  where
    latest : IsLatest f x (sent h)
    latest y there of_f follows =
        let before : is_before a y.follows ≡ true = subst (λ n. is_before a n ≡ true) (sym follows) last.1.1 in
        (last.2 (flush_record y) (sent_stands h i f a free y there of_f before) y refl (of_f, before)).1 follows

-- A snapshot

snap_stood : (h : List Entry) → Footing h → (f s : ℕ) → Settled h f (at.Snap s) → (t : ℕ) → t < s
    → IsCovered f (context h f).seq t (dirty h f) (queued h f) (sent h) → Stood f (at.Snap s) (stand h) t
snap_stood h i f s free t old is =
    let told = ltb-false (context h f).seq s free.told in
    let between : Between f t s (queued h f) (sent h) = is.before s old told in
    let found = made_stands h i f (at.Snap s) free between.0 (λ n same. lt-ltb n s (omega (arith, same, between.3))) between.1 in
    (found.0, found.1, found.2, omega (arith, between.2, found.3))

snap_meta : (h : List Entry) → Footing h → (f s : ℕ) → Settled h f (at.Snap s) → (best : Option Flush) → IsLast f (at.Snap s) (stand h) best
    → meta_of best ≡ meta_below s (writes h f) (changes h f)
snap_meta h i f s free None last =
    none_below s (writes h f) (changes h f)
    (λ w k old. let (x, stands, of, from) = snap_stood h i f s free w.tag old ((i.covered f).written w k) in last (flush_record x) stands x refl of)
    (λ c k old. let (x, stands, of, from) = snap_stood h i f s free c.tag old ((i.covered f).changed c k) in last (flush_record x) stands x refl of)
snap_meta h i f s free (Some x) last =
    let below : x.follows < s = ltb-true x.follows s last.1.1 in
    last_right h i f (at.Snap s) free x last (λ now _. let told = ltb-false (context h f).seq s free.told in omega arith)
    ∙ measure_below x.follows s (writes h f) (changes h f) below
    (λ w k old. let found = snap_stood h i f s free w.tag old ((i.covered f).written w k) in omega (arith, found.3, (last.2 (flush_record found.0) found.1 found.0 refl found.2).0))
    (λ c k old. let found = snap_stood h i f s free c.tag old ((i.covered f).changed c k) in omega (arith, found.3, (last.2 (flush_record found.0) found.1 found.0 refl found.2).0))

-- The head

clean_head : (h : List Entry) (f : ℕ) → Settled h f at.Head → is_empty (dirty h f) ≡ false → ⊥
clean_head h f free some = both_ways (is_empty (dirty h f)) some (not-false (is_empty (dirty h f)) free.clean)

head_stood : (h : List Entry) → Footing h → (f : ℕ) → Settled h f at.Head → (t : ℕ) → IsCovered f (context h f).seq t (dirty h f) (queued h f) (sent h)
    → Stood f at.Head (stand h) t
head_stood h i f free t is =
    ⊎_elim
    (λ some. absurd (clean_head h f free some))
    (λ from. let found = made_stands h i f at.Head free from.0 (λ n same. refl) from.1 in (found.0, found.1, found.2, omega (arith, from.2, found.3)))
    is.made

none_in : {A : Type 0} (xs : List A) → Each (λ x. ⊥) xs → xs ≡ []
none_in [] none = refl
none_in (x ∷ xs) none = absurd (none x (inl refl))

head_meta : (h : List Entry) → Footing h → (f : ℕ) → Settled h f at.Head → (best : Option Flush) → IsLast f at.Head (stand h) best
    → meta_of best ≡ written_meta (last_mode (changes h f)) (writes h f)
head_meta h i f free None last =
    ap (λ vs. written_meta 420 vs)
    (sym (none_in (writes h f) (λ w k. let (x, stands, of, from) = head_stood h i f free w.tag ((i.covered f).written w k) in last (flush_record x) stands x refl of)))
    ∙ ap (λ ds. written_meta (last_mode ds) (writes h f))
    (sym (none_in (changes h f) (λ c k. let (x, stands, of, from) = head_stood h i f free c.tag ((i.covered f).changed c k) in last (flush_record x) stands x refl of)))
head_meta h i f free (Some x) last =
    last_right h i f at.Head free x last (λ _ some. clean_head h f free some)
    ∙ (ap (λ vs. written_meta (last_mode (changes_upto x.follows (changes h f))) vs)
    (upto_all x.follows (writes h f) (λ w k. let found = head_stood h i f free w.tag ((i.covered f).written w k) in
    omega (arith, found.3, (last.2 (flush_record found.0) found.1 found.0 refl found.2).0)))
    ∙ ap (λ ds. written_meta (last_mode ds) (writes h f))
    (modes.upto_all x.follows (changes h f) (λ c k. let found = head_stood h i f free c.tag ((i.covered f).changed c k) in
    omega (arith, found.3, (last.2 (flush_record found.0) found.1 found.0 refl found.2).0))))

-- Each state

state_meta : (h : List Entry) → Footing h → (f : ℕ) (a : At) → Settled h f a → meta_at f a (stand h) ≡ written_meta (mode_at h f a) (writes_at a (writes h f))
state_meta h i f at.Head free =
    head_meta h i f free (last_flush f at.Head (stand h)) (last_is f at.Head (stand h)) ∙ ap (λ m. written_meta m (writes h f)) (sym (mode_is h f))
state_meta h i f (at.Snap s) free =
    snap_meta h i f s free (last_flush f (at.Snap s) (stand h)) (last_is f (at.Snap s) (stand h))
    ∙ ap (λ m. written_meta m (older s (writes h f))) (sym (i.modes f s (ltb-false (context h f).seq s free.told)))

pub of_the_writes : (h : List Entry) → Footing h → MetadataIsOfTheWrites h
of_the_writes h i f a free = state_meta h i f a (settled h f a free)

pub meta_is : (p : ℕ) (h : List Entry) → IsRun p h → MetadataIsOfTheWrites h
meta_is p h run = of_the_writes h (footing_run p h run)
