-- Requests with their settled answers: what they leave of the namespace, and what they make.
use Rattle.std.proofs.Common.{◌≡◌, refl, sym, ap, ◌∙◌, subst, ℕ, ◌+◌, ◌<◌, ◌==◌, ◌||◌, not, Bool, true, false, cond, List, [], ◌∷◌, ◌++◌, append_assoc, filter, find, length, Option, Some, None, inl, ⊎_elim, arith}
use Rattle.std.specs.List.{cons_option, list_any}
use Rattle.std.proofs.lemmas.Bool.{and_parts, both_ways, cond_both, eqb-true, eq-eqb, false_from_ne_true, or_cases, or_left, or_right}
use Rattle.std.proofs.lemmas.List.Folds.{list_any-append}
use Rattle.cs_laws.specs.declared.answers.Entry.{Entry}
use Rattle.cs_laws.specs.declared.records.Record.{Record}
use Rattle.cs_laws.specs.declared.records.RecordBody.{RecordBody}
use Rattle.cs_laws.specs.declared.records.RecordBody.TheVariants as bodies
use Rattle.cs_laws.specs.declared.requests.OpAnswer.{OpAnswer}
use Rattle.cs_laws.specs.declared.requests.OpAnswer.TheVariants as replies
use Rattle.cs_laws.specs.declared.requests.ReqOp.{ReqOp}
use Rattle.cs_laws.specs.declared.requests.ReqOp.TheVariants as ops
use Rattle.cs_laws.specs.Answers.{is_in_use}
use Rattle.cs_laws.specs.Made.{Made, is_made_dir, made_by, made_in, made_of, makes_dir}
use Rattle.cs_laws.specs.Names.{after_record, names_after, setup_names}
use Rattle.cs_laws.specs.Namespace.{Named, Names, after, after_answer, answer_on, entry_at, has_dir, has_entry, has_file, is_ahead, is_dir_entry, is_entry, made_at, moved, next_ino, with_entry, within, without_entry}
use Rattle.cs_laws.specs.Runs.{all_setup}
use Rattle.cs_laws.specs.Tree.{is_directory}
use Rattle.cs_theorems.specs.Asked.{Asked, Settles, asked, asked_in, asked_made, asked_of, stage}
use Rattle.cs_theorems.proofs.Listed.{Each, each_cons, each_tail}
use Rattle.cs_theorems.proofs.Logs.{dirs_after, with_dirs}
use Rattle.cs_theorems.proofs.Trees.{Grown, more_dirs, more_used}

-- What they leave

pub settle_front : (n : ℕ) (ns : Names) (xs more : List Asked) → Settles n ns (xs ++ more) → Settles n ns xs
settle_front n ns [] more i = tt
settle_front n ns (x ∷ xs) more i = (i.0, i.1, settle_front x.tid (after ns x.op) xs more i.2)

pub settle_end : (n : ℕ) (ns : Names) (xs : List Asked) (y : Asked) → y.tid ≡ (n + length xs) + 1 → y.answer ≡ answer_on (stage ns xs) y.op → Settles n ns xs
    → Settles n ns (xs ++ y ∷ [])
settle_end n ns [] y next right i = (omega (arith, next), right, tt)
settle_end n ns (x ∷ xs) y next right i = (i.0, i.1, settle_end x.tid (after ns x.op) xs y (omega (arith, next, i.0)) right i.2)

pub names_stage : (ns : Names) (rs : List Record) → names_after ns rs ≡ stage ns (asked_of rs)
names_stage ns [] = refl
names_stage ns (r ∷ rs) = at r.body (λ ms. names_stage ms rs)
  where
    at : (b : RecordBody) → ((ms : Names) → names_after ms rs ≡ stage ms (asked_of rs)) → names_after (after_record b ns) rs ≡ stage ns (cons_option (asked_in b) (asked_of rs))
    at (bodies.Request tid op answer) rest = rest (after ns op)
    at (bodies.Flush snap f tid follows meta) rest = rest ns
    at (bodies.Snap n d name) rest = rest ns
    at (bodies.Removal s n) rest = rest ns

pub log_made : (rs : List Record) → made_in rs ≡ asked_made (asked_of rs)
log_made [] = refl
log_made (r ∷ rs) = at r.body (log_made rs)
  where
    at : (b : RecordBody) → made_in rs ≡ asked_made (asked_of rs) → (made_of b ++ made_in rs) ≡ asked_made (cons_option (asked_in b) (asked_of rs))
    at (bodies.Request tid op answer) rest = ap (λ ms. made_by (Some op) answer ++ ms) rest
    at (bodies.Flush snap f tid follows meta) rest = rest
    at (bodies.Snap n d name) rest = rest
    at (bodies.Removal s n) rest = rest

pub made_append : (xs ys : List Asked) → asked_made (xs ++ ys) ≡ asked_made xs ++ asked_made ys
made_append [] ys = refl
made_append (x ∷ xs) ys =
    ap (λ ms. made_by (Some x.op) x.answer ++ ms) (made_append xs ys) ∙ sym (append_assoc (made_by (Some x.op) x.answer) (asked_made xs) (asked_made ys))

-- the directories behind a log
or_assoc : (b c d : Bool) → ((b || c) || d) ≡ (b || (c || d))
or_assoc true c d = refl
or_assoc false c d = refl

or_none : (b : Bool) → b ≡ (b || false)
or_none true = refl
or_none false = refl

pub dirs_behind : (rs : List Record) (dir : ℕ → Bool) (d : ℕ) → dirs_after rs dir d ≡ (dir d || makes_dir d (made_in rs))
dirs_behind [] dir d = or_none (dir d)
dirs_behind (r ∷ rs) dir d =
    dirs_behind rs (λ k. with_dirs r.body dir k) d
    ∙ (or_assoc (dir d) (makes_dir d (made_of r.body)) (makes_dir d (made_in rs))
    ∙ ap (λ b. dir d || b) (sym (list_any-append (is_made_dir d) (made_of r.body) (made_in rs))))

-- Directories in the namespace

-- each entry of a directory is one of these
abbrev pub EntriesIn : (ℕ → Bool) → List Named → Type 0
EntriesIn dir es = Each (λ x. x.is_dir ≡ true → dir x.ino ≡ true) es

pub has_dir_in : (dir : ℕ → Bool) (ns : Names) (d : ℕ) → dir 1 ≡ true → EntriesIn dir ns.entries → has_dir ns d ≡ true → dir d ≡ true
has_dir_in dir ns d root i is =
    ⊎_elim (λ top. subst (λ k. dir k ≡ true) (sym (eqb-true d 1 top)) root) (λ there. among ns.entries i there) (or_cases (d == 1) _ is)
  where
    among : (es : List Named) → EntriesIn dir es → list_any (is_dir_entry d) es ≡ true → dir d ≡ true
    among [] k there = absurd (both_ways false refl there)
    among (x ∷ es) k there =
        ⊎_elim
        (λ here. let parts = and_parts x.is_dir (x.ino == d) here in subst (λ j. dir j ≡ true) (eqb-true x.ino d parts.1) (k x (inl refl) parts.0))
        (λ later. among es (each_tail (λ y. y.is_dir ≡ true → dir y.ino ≡ true) x es k) later)
        (or_cases (is_dir_entry d x) _ there)

each_with_entry : (P : Named → Type 0) (x : Named) (es : List Named) → P x → Each P es → Each P (with_entry x es)
each_with_entry P x [] p ps = each_cons P x [] p ps
each_with_entry P x (y ∷ ys) p ps =
    cond_both (is_ahead x y) (x ∷ y ∷ ys) (y ∷ with_entry x ys) (λ zs. Each P zs)
    (λ _. each_cons P x (y ∷ ys) p ps)
    (λ _. each_cons P y (with_entry x ys) (ps y (inl refl)) (each_with_entry P x ys p (each_tail P y ys ps)))

each_chosen : (P : Named → Type 0) (p : Named → Bool) (es : List Named) → Each P es → Each P (filter p es)
each_chosen P p [] ps = ps
each_chosen P p (y ∷ ys) ps =
    cond_both (p y) (y ∷ filter p ys) (filter p ys) (λ zs. Each P zs)
    (λ _. each_cons P y (filter p ys) (ps y (inl refl)) (each_chosen P p ys (each_tail P y ys ps)))
    (λ _. each_chosen P p ys (each_tail P y ys ps))

each_found : (P : Named → Type 0) (p : Named → Bool) (es : List Named) (x : Named) → find p es ≡ Some x → Each P es → P x
each_found P p [] x is ps = absurd cc
each_found P p (y ∷ ys) x is ps = at (p y) is (λ more. each_found P p ys x more (each_tail P y ys ps))
  where
    at : (b : Bool) → cond b (Some y) (find p ys) ≡ Some x → (find p ys ≡ Some x → P x) → P x
    at true same rest = let k : y ≡ x = cc in subst P k (ps y (inl refl))
    at false there rest = rest there

entries_moved : (dir : ℕ → Bool) (new : List ℕ) (ns : Names) (d : ℕ) (name : List ℕ) → EntriesIn dir ns.entries → EntriesIn dir (moved new (entry_at ns d name) ns.entries)
entries_moved dir new ns d name i = at (entry_at ns d name) refl
  where
    at : (o : Option Named) → entry_at ns d name ≡ o → EntriesIn dir (moved new o ns.entries)
    at None none = i
    at (Some x) is =
        each_with_entry (λ y. y.is_dir ≡ true → dir y.ino ≡ true) (record x { name = new }) (without_entry x.dir x.name ns.entries)
        (each_found (λ y. y.is_dir ≡ true → dir y.ino ≡ true) (is_entry d name) ns.entries x is i)
        (each_chosen (λ y. y.is_dir ≡ true → dir y.ino ≡ true) (λ y. not (is_entry x.dir x.name y)) ns.entries i)

entries_more : (dir more : ℕ → Bool) (es : List Named) → ((d : ℕ) → dir d ≡ true → more d ≡ true) → EntriesIn dir es → EntriesIn more es
entries_more dir more es grows i x m is = grows x.ino (i x m is)

entries_step : (dir more : ℕ → Bool) (ns : Names) (op : ReqOp) (o : OpAnswer) → ((d : ℕ) → dir d ≡ true → more d ≡ true)
    → ((d : ℕ) → makes_dir d (made_by (Some op) o) ≡ true → more d ≡ true) → EntriesIn dir ns.entries → EntriesIn more (after_answer op o ns).entries
entries_step dir more ns (ops.Mkdir d name) (replies.Made i) grows made es =
    each_with_entry (λ y. y.is_dir ≡ true → more y.ino ≡ true) (record { dir = d; name = name; ino = i; is_dir = true }) ns.entries
    (λ _. made i (or_left (i == i) false (eq-eqb i i refl))) (entries_more dir more ns.entries grows es)
entries_step dir more ns (ops.Create d name) (replies.Made i) grows made es =
    each_with_entry (λ y. y.is_dir ≡ true → more y.ino ≡ true) (record { dir = d; name = name; ino = i; is_dir = false }) ns.entries
    (λ is. absurd (both_ways false refl is)) (entries_more dir more ns.entries grows es)
entries_step dir more ns (ops.Unlink d name) replies.Gone grows made es =
    each_chosen (λ y. y.is_dir ≡ true → more y.ino ≡ true) (λ y. not (is_entry d name y)) ns.entries (entries_more dir more ns.entries grows es)
entries_step dir more ns (ops.Rename d name new) replies.Moved grows made es =
    entries_moved more new ns d name (entries_more dir more ns.entries grows es)
entries_step dir more ns _ _ grows made es = entries_more dir more ns.entries grows es

-- the directories in the namespace behind settled requests are those before, and those that they make
pub stage_in : (n : ℕ) (ns : Names) (xs : List Asked) (dir more : ℕ → Bool) → Settles n ns xs → ((d : ℕ) → dir d ≡ true → more d ≡ true)
    → ((d : ℕ) → makes_dir d (asked_made xs) ≡ true → more d ≡ true) → EntriesIn dir ns.entries → EntriesIn more (stage ns xs).entries
stage_in n ns [] dir more i grows made es = entries_more dir more ns.entries grows es
stage_in n ns (x ∷ xs) dir more i grows made es =
    stage_in x.tid (after ns x.op) xs more more i.2 (λ d is. is)
    (λ d is. made d (list_any-append (is_made_dir d) (made_by (Some x.op) x.answer) (asked_made xs) ∙ or_right _ _ is))
    (entries_step dir more ns x.op (answer_on ns x.op) grows
    (λ d is. made d (list_any-append (is_made_dir d) (made_by (Some x.op) x.answer) (asked_made xs)
    ∙ or_left _ _ (subst (λ o. makes_dir d (made_by (Some x.op) o) ≡ true) (sym i.1) is))) es)

-- What they make is new

record MadeIs (ns : Names) (d : ℕ) (i : ℕ) : Type 0 where
  above : has_dir ns d ≡ true
  ino : i ≡ next_ino ns

made_is : (ns : Names) (d : ℕ) (name : List ℕ) (i : ℕ) → within ns d (made_at ns d name) ≡ replies.Made i → MadeIs ns d i
made_is ns d name i is = at (has_dir ns d) refl (has_file ns d) (has_entry ns d name) is
  where
    at : (b : Bool) → has_dir ns d ≡ b → (f x : Bool)
        → cond b (cond x replies.Exists (replies.Made (next_ino ns))) (cond f replies.NotDir replies.Missing) ≡ replies.Made i → MadeIs ns d i
    at true there f true none = absurd cc
    at true there f false same = let k : next_ino ns ≡ i = cc in record { above = there; ino = sym k }
    at false there true x none = absurd cc
    at false there false x none = absurd cc

-- dir, used: the directories and the inodes in use
pub record Fresh (dir used : ℕ → Bool) (ns : Names) : Type 0 where
  pub entries : EntriesIn dir ns.entries
  pub root : dir 1 ≡ true
  pub low : (i : ℕ) → used i ≡ true → i < next_ino ns

-- one more is made
fresh_more : (dir used : ℕ → Bool) (ns now : Names) (m : Made) → now.made ≡ ns.made + 1 → m.ino ≡ next_ino ns → EntriesIn (λ d. more_dirs m dir d) now.entries
    → Fresh dir used ns → Fresh (λ d. more_dirs m dir d) (λ i. more_used m used i) now
fresh_more dir used ns now m count ino es i = record {
  entries = es;
  root = or_left (dir 1) _ i.root;
  low = λ k is. ⊎_elim (λ old. omega (arith, i.low k old, count)) (λ same. omega (arith, count, ino, eqb-true m.ino k same)) (or_cases (used k) (m.ino == k) is);
}

new_one : (dir used : ℕ → Bool) (ns : Names) (i : ℕ) → i ≡ next_ino ns → Fresh dir used ns → used i ≡ false
new_one dir used ns i ino fresh = false_from_ne_true (used i) (λ is. omega (arith, fresh.low i is, ino))

-- an operation that makes nothing
pub made_same : (ns : Names) (op : ReqOp) (o : OpAnswer) → made_by (Some op) o ≡ [] → (after_answer op o ns).made ≡ ns.made
made_same ns (ops.Mkdir d name) (replies.Made i) none = absurd cc
made_same ns (ops.Create d name) (replies.Made i) none = absurd cc
made_same ns (ops.Unlink d name) replies.Gone none = refl
made_same ns (ops.Rename d name new) replies.Moved none = refl
made_same ns _ _ none = refl

fresh_same : (dir used : ℕ → Bool) (ns : Names) (op : ReqOp) (o : OpAnswer) → made_by (Some op) o ≡ [] → Fresh dir used ns → Fresh dir used (after_answer op o ns)
fresh_same dir used ns op o none i = record {
  entries = entries_step dir dir ns op o (λ d is. is) (λ d is. absurd (both_ways (makes_dir d (made_by (Some op) o)) (ap (makes_dir d) none) is)) i.entries;
  root = i.root;
  low = λ k is. omega (arith, i.low k is, made_same ns op o none);
}

-- one that makes m
pub record Makes (ns now : Names) (m : Made) (ms : List Made) : Type 0 where
  pub only : ms ≡ []
  pub above : has_dir ns m.dir ≡ true
  pub ino : m.ino ≡ next_ino ns
  pub count : now.made ≡ ns.made + 1

makes_one : (ns now : Names) (one m : Made) (ms : List Made) → one ∷ [] ≡ m ∷ ms → MadeIs ns one.dir one.ino → now.made ≡ ns.made + 1 → Makes ns now m ms
makes_one ns now one m ms same is count =
    let k : one ≡ m = cc in
    let l : ms ≡ [] = cc in
    subst (λ x. Makes ns now x ms) k (record { only = l; above = is.above; ino = is.ino; count = count })

pub makes_is : (ns : Names) (op : ReqOp) (o : OpAnswer) (m : Made) (ms : List Made) → made_by (Some op) o ≡ m ∷ ms → answer_on ns op ≡ o → Makes ns (after_answer op o ns) m ms
makes_is ns (ops.Mkdir d name) (replies.Made i) m ms same is =
    makes_one ns (after_answer (ops.Mkdir d name) (replies.Made i) ns) (record { ino = i; dir = d; is_dir = true }) m ms same (made_is ns d name i is) refl
makes_is ns (ops.Create d name) (replies.Made i) m ms same is =
    makes_one ns (after_answer (ops.Create d name) (replies.Made i) ns) (record { ino = i; dir = d; is_dir = false }) m ms same (made_is ns d name i is) refl
makes_is ns _ _ m ms none is = absurd cc

grown_step : (dir used : ℕ → Bool) (ns : Names) (op : ReqOp) (o : OpAnswer) (rest : List Made) → answer_on ns op ≡ o → Fresh dir used ns
    → ((more now : ℕ → Bool) → Fresh more now (after_answer op o ns) → Grown more now rest) → Grown dir used (made_by (Some op) o ++ rest)
grown_step dir used ns op o rest is fresh go = at (made_by (Some op) o) refl
  where
    new_dir : (m : Made) (ms : List Made) → made_by (Some op) o ≡ m ∷ ms → ms ≡ [] → (d : ℕ) → makes_dir d (made_by (Some op) o) ≡ true → is_made_dir d m ≡ true
    new_dir m ms same only d made = or_none (is_made_dir d m) ∙ (sym (ap (makes_dir d) (same ∙ ap (λ l. m ∷ l) only)) ∙ made)

    at : (ms : List Made) → made_by (Some op) o ≡ ms → Grown dir used (ms ++ rest)
    at [] none = go dir used (fresh_same dir used ns op o none fresh)
    at (m ∷ ms) same =
        let k = makes_is ns op o m ms same is in
        subst (λ l. Grown dir used (m ∷ l ++ rest)) (sym k.only) (
          new_one dir used ns m.ino k.ino fresh,
          has_dir_in dir ns m.dir fresh.root fresh.entries k.above,
          go (λ j. more_dirs m dir j) (λ j. more_used m used j)
              (fresh_more dir used ns (after_answer op o ns) m k.count k.ino
              (entries_step dir (λ j. more_dirs m dir j) ns op o (λ j old. or_left (dir j) _ old) (λ j made. or_right (dir j) _ (new_dir m ms same k.only j made)) fresh.entries)
              fresh),
        )

pub grown_by : (n : ℕ) (ns : Names) (xs : List Asked) (dir used : ℕ → Bool) → Settles n ns xs → Fresh dir used ns → Grown dir used (asked_made xs)
grown_by n ns [] dir used i fresh = tt
grown_by n ns (x ∷ xs) dir used i fresh =
    subst (λ o. Grown dir used (made_by (Some x.op) o ++ asked_made xs)) (sym i.1)
    (grown_step dir used ns x.op (answer_on ns x.op) (asked_made xs) refl fresh (λ more now f. grown_by x.tid (after ns x.op) xs more now i.2 f))

-- The namespace of the setup lines

abbrev pub SetupFresh : List Entry → Type 0
SetupFresh h = Fresh (λ d. is_directory h d) (λ i. is_in_use h i) (setup_names h)

-- and that nothing was asked till then
abbrev pub AsksLater : List Entry → Type 0
AsksLater h = all_setup h ≡ true → asked h ≡ []
