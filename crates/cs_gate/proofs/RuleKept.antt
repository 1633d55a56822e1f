-- Each kind of step keeps the rule of a gate.
use Rattle.std.proofs.Common.{◌≡◌, ◌≢◌, ◌⊎◌, ℕ, zero, suc, ◌+◌, ◌-◌, ◌%◌, ◌^◌, ◌<◌, Bool, true, false, not, true≢false, List, [], ◌∷◌, ◌++◌, set, sum_by, refl, sym, ap, ◌∙◌, ⊎_elim, inl, inr, subst, arith, length-set, length-append, if◌then◌else◌, ◌==◌}
use Rattle.std.proofs.lemmas.List.Sums.{sum_by_push}
use Rattle.std.proofs.lemmas.Bool.Decides.{nat_tests}
use mathlib.Core.Option.{some, some-injective, some-ne-none}
use lib.ListN.{get_elem?}
use Rattle.atomic_table.proofs.Lists.{at_snoc, at_longer}
use Rattle.cs_gate.specs.declared.views.PassState.{PassState}
use Rattle.cs_gate.specs.declared.views.PassState.TheVariants.{Out, Turning, Inside}
use Rattle.cs_gate.specs.declared.views.KeeperState.{KeeperState}
use Rattle.cs_gate.specs.declared.views.KeeperState.TheVariants.{Open, Shut, Drained}
use Rattle.cs_gate.specs.declared.views.Role.{Role}
use Rattle.cs_gate.specs.declared.views.Role.TheVariants as roles
use Rattle.cs_gate.specs.declared.views.View.{View}
use Rattle.cs_gate.specs.declared.views.Plan.{Plan}
use Rattle.cs_gate.specs.Gate.{is_closed, generation_of, count_of, keeper_generation, is_open, is_drained, HasRole, weight, counted_passes, NobodyIsInside, MeetsRule, StepKind, enter, turn_back, leave, shut, probe, reopen, MayStep, entry_of, probe_of, probed_role, role_generation, reopening, word_after, view_after, new_pass, spent_view, view_after_split, first_word, first_view, IsPlan, Reaches, begins, steps, splits, joins}
use Rattle.cs_gate.proofs.Words.{entered_word, left_word, shut_word, reopened_word, begun_word}
use Rattle.cs_gate.proofs.Seats.{sum_by-changed, term-le, counted_passes-le, role_in_changed, role_kept, role_given, role_one, keeps_role}

-- a drained keeper's word is closed
drained_closed : (k : KeeperState) → is_drained k ≡ true → not (is_open k) ≡ true
drained_closed (Open g) d = absurd (true≢false (sym d))
drained_closed (Shut g) d = refl
drained_closed (Drained g) d = refl

-- a pass that steps keeps the rule, where the word keeps its closed bit and generation, the count follows, and it comes in only at an open word
pass_steps : (plan : Plan) (word now : ℕ) (views : List View) (seat : ℕ) (v w : View) (p q : PassState) → MeetsRule plan word views → get_elem? views seat ≡ some v
    → v.role ≡ roles.Pass p → w.role ≡ roles.Pass q → w.spare ≡ v.spare → is_closed now ≡ is_closed word → generation_of now ≡ generation_of word
    → count_of now + weight (roles.Pass p) ≡ count_of word + weight (roles.Pass q) → now < 2 ^ 64 → ((g : ℕ) → q ≡ Inside g → (g ≡ generation_of word) × (is_closed word ≡ false))
    → MeetsRule plan now (set views seat w)
pass_steps plan word now views seat v w p q r at was becomes spares closed gen count fits enters =
    let apart : r.seat ≢ seat = λ e. let h = role_one views seat v (roles.Keeper r.keeper) at (subst (λ (n : ℕ). HasRole views n (roles.Keeper r.keeper)) e r.kept) in cc in
    let counts = sum_by-changed (λ u. weight u.role) views seat v w at in
    let before : weight v.role ≡ weight (roles.Pass p) = ap weight was in
    let after : weight w.role ≡ weight (roles.Pass q) = ap weight becomes in
    let spared = sum_by-changed (λ u. u.spare) views seat v w at in
    let new_inside : (g : ℕ) → w.role ≡ roles.Pass (Inside g) → (g ≡ generation_of word) × (is_closed word ≡ false) = λ g h. let is : q ≡ Inside g = cc in enters g is in record {
      seat = r.seat;
      keeper = r.keeper;
      kept = role_kept views seat r.seat w (roles.Keeper r.keeper) apart r.kept;
      one = λ other k h. ⊎_elim (λ (t : (other ≡ seat) × (w.role ≡ roles.Keeper k)). let e = t.1 in absurd (cc)) (λ (t : (other ≢ seat) × HasRole views other (roles.Keeper k)). r.one other k t.1) (role_in_changed views seat other w (roles.Keeper k) h);
      closed = closed ∙ r.closed;
      generation_is = gen ∙ r.generation_is;
      count = let c = r.count in omega arith;
      inside = λ other g h. ⊎_elim (λ (t : (other ≡ seat) × (w.role ≡ roles.Pass (Inside g))). (new_inside g t.1).0 ∙ sym gen) (λ (t : (other ≢ seat) × HasRole views other (roles.Pass (Inside g))). r.inside other g t.1 ∙ sym gen) (role_in_changed views seat other w (roles.Pass (Inside g)) h);
      drained = λ d other g h. ⊎_elim
          (λ (t : (other ≡ seat) × (w.role ≡ roles.Pass (Inside g))). true≢false (sym (r.closed ∙ drained_closed r.keeper d) ∙ (new_inside g t.1).1))
          (λ (t : (other ≢ seat) × HasRole views other (roles.Pass (Inside g))). r.drained d other g t.1)
          (role_in_changed views seat other w (roles.Pass (Inside g)) h);
      fits = fits;
      few = r.few;
      seats = let s = r.seats in let l = length-set views seat w in omega arith;
    }

-- a keeper that steps keeps the rule, where the word is as its new state says, the count stays, who is inside is inside the new generation, and nobody is where it is drained
keeper_steps : (plan : Plan) (word now : ℕ) (views : List View) (seat : ℕ) (v w : View) (k m : KeeperState) → MeetsRule plan word views → get_elem? views seat ≡ some v
    → v.role ≡ roles.Keeper k → w.role ≡ roles.Keeper m → w.spare ≡ v.spare → is_closed now ≡ not (is_open m) → generation_of now ≡ keeper_generation m
    → count_of now ≡ count_of word → now < 2 ^ 64 → ((other g : ℕ) → HasRole views other (roles.Pass (Inside g)) → g ≡ generation_of now) → (is_drained m ≡ true → NobodyIsInside views)
    → MeetsRule plan now (set views seat w)
keeper_steps plan word now views seat v w k m r at was becomes spares closed gen count fits insides nobody =
    let mine = r.one seat k (v, at, was) in
    let counts = sum_by-changed (λ u. weight u.role) views seat v w at in
    let before : weight v.role ≡ 0 = ap weight was in
    let after : weight w.role ≡ 0 = ap weight becomes in
    let spared = sum_by-changed (λ u. u.spare) views seat v w at in record {
      seat = seat;
      keeper = m;
      kept = role_given views seat v w (roles.Keeper m) at becomes;
      one = λ other l h. ⊎_elim (λ (t : (other ≡ seat) × (w.role ≡ roles.Keeper l)). let e = t.1 in (t.0, cc)) (λ (t : (other ≢ seat) × HasRole views other (roles.Keeper l)). absurd (t.0 ((r.one other l t.1).0 ∙ sym mine.0))) (role_in_changed views seat other w (roles.Keeper l) h);
      closed = closed;
      generation_is = gen;
      count = let c = r.count in omega arith;
      inside = λ other g h. ⊎_elim (λ (t : (other ≡ seat) × (w.role ≡ roles.Pass (Inside g))). let e = t.1 in absurd (cc)) (λ (t : (other ≢ seat) × HasRole views other (roles.Pass (Inside g))). insides other g t.1) (role_in_changed views seat other w (roles.Pass (Inside g)) h);
      drained = λ d other g h. ⊎_elim (λ (t : (other ≡ seat) × (w.role ≡ roles.Pass (Inside g))). let e = t.1 in absurd (cc)) (λ (t : (other ≢ seat) × HasRole views other (roles.Pass (Inside g))). nobody d other g t.1) (role_in_changed views seat other w (roles.Pass (Inside g)) h);
      fits = fits;
      few = r.few;
      seats = let s = r.seats in let l = length-set views seat w in omega arith;
    }

-- who comes in by an entry comes into the word's generation, at an open word
entry_inside : (b : Bool) (n g : ℕ) → (if b then Turning else Inside n) ≡ Inside g → (g ≡ n) × (b ≡ false)
entry_inside true n g e = absurd (cc)
entry_inside false n g e = (let is : n ≡ g = cc in sym is, refl)

weight-entry : (b : Bool) (n : ℕ) → weight (roles.Pass (if b then Turning else Inside n)) ≡ 1
weight-entry true n = refl
weight-entry false n = refl

-- a pass has room to be counted
room : (plan : Plan) (word : ℕ) (views : List View) → MeetsRule plan word views → count_of word + 1 < 2 ^ 32
room plan word views r = let c = r.count in let f = r.few in let s = r.seats in omega (arith, counted_passes-le views)

enters : (plan : Plan) (word : ℕ) (views : List View) (seat : ℕ) (v : View) → MeetsRule plan word views → get_elem? views seat ≡ some v → MayStep enter v.role
    → MeetsRule plan (word_after enter v.role word) (set views seat (view_after enter word v))
enters plan word views seat v r at may =
    let e = entered_word word r.fits (room plan word views r) in
    let weighs = weight-entry (is_closed word) (generation_of word) in
    pass_steps plan word (word_after enter v.role word) views seat v (view_after enter word v) Out (entry_of word) r at may refl refl e.0 e.1 (let n = e.2 in omega arith) (omega arith) (entry_inside (is_closed word) (generation_of word))

-- a pass that is counted takes 1 from the count
goes_out : (plan : Plan) (word : ℕ) (views : List View) (seat : ℕ) (v w : View) (p : PassState) → MeetsRule plan word views → get_elem? views seat ≡ some v
    → v.role ≡ roles.Pass p → w.role ≡ roles.Pass Out → w.spare ≡ v.spare → weight (roles.Pass p) ≡ 1 → MeetsRule plan ((word + (2 ^ 64 - 1)) % 2 ^ 64) (set views seat w)
goes_out plan word views seat v w p r at was becomes spares counts =
    let one : weight v.role ≡ 1 = ap weight was ∙ counts in
    let c = r.count in
    let some_in : 0 < count_of word = omega (arith, term-le (λ u. weight u.role) views seat v at) in
    let l = left_word word r.fits some_in in
    pass_steps plan word ((word + (2 ^ 64 - 1)) % 2 ^ 64) views seat v w p Out r at was becomes spares l.0 l.1 (let n = l.2 in omega arith) (omega arith) (λ g e. absurd (cc))

shuts : (plan : Plan) (word : ℕ) (views : List View) (seat : ℕ) (v : View) → MeetsRule plan word views → get_elem? views seat ≡ some v → MayStep shut v.role
    → MeetsRule plan (word_after shut v.role word) (set views seat (view_after shut word v))
shuts plan word views seat v r at (g, was) =
    let mine = r.one seat (Open g) (v, at, was) in
    let unclosed : is_closed word ≡ false = r.closed ∙ ap (λ k. not (is_open k)) (sym mine.1) in
    let s = shut_word word r.fits unclosed in
    let of_g : role_generation v.role ≡ g = ap role_generation was in
    keeper_steps plan word (word_after shut v.role word) views seat v (view_after shut word v) (Open g) (Shut (role_generation v.role)) r at was refl refl s.0
    (s.1 ∙ r.generation_is ∙ ap keeper_generation (sym mine.1) ∙ sym of_g) s.2 s.3 (λ other n h. r.inside other n h ∙ sym s.1) (λ d. absurd (true≢false (sym d)))

-- where nobody is counted, nobody is inside
none_inside : (views : List View) → counted_passes views ≡ 0 → NobodyIsInside views
none_inside views none other g (u, at, is) = let one : weight u.role ≡ 1 = ap weight is in absurd (omega (arith, term-le (λ x. weight x.role) views other u at))

-- a closed keeper that probes stays closed and of its generation
probe-closed : (b : Bool) (k : KeeperState) → is_open k ≡ false → is_open (if b then Drained (keeper_generation k) else k) ≡ false
probe-closed true k e = refl
probe-closed false k e = e

probe-generation : (b : Bool) (k : KeeperState) → keeper_generation (if b then Drained (keeper_generation k) else k) ≡ keeper_generation k
probe-generation true k = refl
probe-generation false k = refl

probe_drained : (n : ℕ) (b : Bool) (k : KeeperState) → (n == 0) ≡ b → is_drained (if b then Drained (keeper_generation k) else k) ≡ true → (n ≡ 0) ⊎ (is_drained k ≡ true)
probe_drained n true k e d = inl (grind (arith, nat_tests))
probe_drained n false k e d = inr d

probes : (plan : Plan) (word : ℕ) (views : List View) (seat : ℕ) (v : View) → MeetsRule plan word views → get_elem? views seat ≡ some v → MayStep probe v.role
    → MeetsRule plan (word_after probe v.role word) (set views seat (view_after probe word v))
probes plan word views seat v r at (k, was, unopen) =
    let mine = r.one seat k (v, at, was) in
    let b = count_of word == 0 in
    keeper_steps plan word word views seat v (view_after probe word v) k (probe_of word k) r at was (ap (probed_role word) was) refl
    (r.closed ∙ ap (λ m. not (is_open m)) (sym mine.1) ∙ ap not unopen ∙ ap not (sym (probe-closed b k unopen)))
    (r.generation_is ∙ ap keeper_generation (sym mine.1) ∙ sym (probe-generation b k))
    refl r.fits r.inside
    (λ d. ⊎_elim (λ none. none_inside views (sym r.count ∙ none)) (λ e. r.drained (ap is_drained (sym mine.1) ∙ e)) (probe_drained (count_of word) b k refl d))

reopens : (plan : Plan) (word : ℕ) (views : List View) (seat : ℕ) (v : View) (new : ℕ) → MeetsRule plan word views → get_elem? views seat ≡ some v → MayStep (reopen new) v.role
    → MeetsRule plan (word_after (reopen new) v.role word) (set views seat (view_after (reopen new) word v))
reopens plan word views seat v new r at (g, was, above, range) =
    let mine = r.one seat (Drained g) (v, at, was) in
    let closed : is_closed word ≡ true = r.closed ∙ ap (λ k. not (is_open k)) (sym mine.1) in
    let of_g : generation_of word ≡ g = r.generation_is ∙ ap keeper_generation (sym mine.1) in
    let s = reopened_word word g new r.fits closed of_g above range in
    let is : (word + reopening g new) % 2 ^ 64 ≡ word_after (reopen new) v.role word = ap (λ role. (word + reopening (role_generation role) new) % 2 ^ 64) (sym was) in
    subst (λ (n : ℕ). MeetsRule plan n (set views seat (view_after (reopen new) word v))) is
    (keeper_steps plan word ((word + reopening g new) % 2 ^ 64) views seat v (view_after (reopen new) word v) (Drained g) (Open new) r at was refl refl s.0 s.1 s.2 (omega arith)
    (λ other n h. absurd (r.drained (ap is_drained (sym mine.1)) other n h)) (λ d. absurd (true≢false (sym d))))

-- each step of one seat keeps the rule
pub step_keeps : (kind : StepKind) (plan : Plan) (word : ℕ) (views : List View) (seat : ℕ) (v : View) → MeetsRule plan word views → get_elem? views seat ≡ some v → MayStep kind v.role
    → MeetsRule plan (word_after kind v.role word) (set views seat (view_after kind word v))
step_keeps enter plan word views seat v r at may = enters plan word views seat v r at may
step_keeps turn_back plan word views seat v r at may = goes_out plan word views seat v (view_after turn_back word v) Turning r at may refl refl refl
step_keeps leave plan word views seat v r at (g, was) = goes_out plan word views seat v (view_after leave word v) (Inside g) r at was refl refl refl
step_keeps shut plan word views seat v r at may = shuts plan word views seat v r at may
step_keeps probe plan word views seat v r at may = probes plan word views seat v r at may
step_keeps (reopen new) plan word views seat v r at may = reopens plan word views seat v new r at may

-- a pass that is split off keeps the rule
pub split_keeps : (plan : Plan) (word : ℕ) (views : List View) (seat : ℕ) (v : View) → MeetsRule plan word views → get_elem? views seat ≡ some v → 0 < v.spare
    → MeetsRule plan word (set views seat (view_after_split v) ++ new_pass ∷ [])
split_keeps plan word views seat v r at some_left =
    let cut : List View = set views seat (view_after_split v) in
    let counts = sum_by-changed (λ u. weight u.role) views seat v (view_after_split v) at in
    let spared = sum_by-changed (λ u. u.spare) views seat v (view_after_split v) at in
    let more_counts : counted_passes (cut ++ new_pass ∷ []) ≡ counted_passes cut + 0 = sum_by_push (λ (u : View). weight u.role) cut new_pass in
    let more_spared : sum_by (λ (u : View). u.spare) (cut ++ new_pass ∷ []) ≡ sum_by (λ (u : View). u.spare) cut + 0 = sum_by_push (λ (u : View). u.spare) cut new_pass in
    let longer = length-append cut (new_pass ∷ []) in
    let same_length = length-set views seat (view_after_split v) in
    let was_there : (other : ℕ) (role : Role) → HasRole cut other role → HasRole views other role = λ other role h. ⊎_elim
    (λ (t : (other ≡ seat) × (v.role ≡ role)). subst (λ (n : ℕ). HasRole views n role) (sym t.0) (v, at, t.1))
    (λ (t : (other ≢ seat) × HasRole views other role). t.1)
    (role_in_changed views seat other (view_after_split v) role h) in
    let back : (other : ℕ) (role : Role) → (roles.Pass Out ≡ role → ⊥) → HasRole (cut ++ new_pass ∷ []) other role → HasRole views other role = λ other role old (u, there, is). ⊎_elim
    (λ (t : get_elem? cut other ≡ some u). was_there other role (u, t, is))
    (λ (t : new_pass ≡ u). absurd (old (ap (λ (x : View). x.role) t ∙ is)))
    (at_snoc cut new_pass u other there) in
    let still : HasRole cut r.seat (roles.Keeper r.keeper) = keeps_role views seat r.seat v (view_after_split v) (roles.Keeper r.keeper) at refl r.kept in record {
      seat = r.seat;
      keeper = r.keeper;
      kept = (still.0, at_longer cut (new_pass ∷ []) r.seat still.0 still.1, still.2);
      one = λ other k h. r.one other k (back other (roles.Keeper k) (λ e. absurd (cc)) h);
      closed = r.closed;
      generation_is = r.generation_is;
      count = let c = r.count in omega arith;
      inside = λ other g h. r.inside other g (back other (roles.Pass (Inside g)) (λ e. absurd (cc)) h);
      drained = λ d other g h. r.drained d other g (back other (roles.Pass (Inside g)) (λ e. absurd (cc)) h);
      fits = r.fits;
      few = r.few;
      seats = let s = r.seats in omega arith;
    }

-- a pass that is out and joined keeps the rule
pub join_keeps : (plan : Plan) (word : ℕ) (views : List View) (seat : ℕ) (v : View) → MeetsRule plan word views → get_elem? views seat ≡ some v → v.role ≡ roles.Pass Out → v.spare ≡ 0
    → MeetsRule plan word (set views seat spent_view)
join_keeps plan word views seat v r at was no_spare =
    let counts = sum_by-changed (λ u. weight u.role) views seat v spent_view at in
    let before : weight v.role ≡ 0 = ap weight was in
    let spared = sum_by-changed (λ u. u.spare) views seat v spent_view at in
    let same_length = length-set views seat spent_view in
    let apart : r.seat ≢ seat = λ e. let h = role_one views seat v (roles.Keeper r.keeper) at (subst (λ (n : ℕ). HasRole views n (roles.Keeper r.keeper)) e r.kept) in cc in
    let back : (other : ℕ) (role : Role) → (roles.Spent ≡ role → ⊥) → HasRole (set views seat spent_view) other role → HasRole views other role = λ other role old h. ⊎_elim
    (λ (t : (other ≡ seat) × (roles.Spent ≡ role)). absurd (old t.1))
    (λ (t : (other ≢ seat) × HasRole views other role). t.1)
    (role_in_changed views seat other spent_view role h) in record {
      seat = r.seat;
      keeper = r.keeper;
      kept = role_kept views seat r.seat spent_view (roles.Keeper r.keeper) apart r.kept;
      one = λ other k h. r.one other k (back other (roles.Keeper k) (λ e. absurd (cc)) h);
      closed = r.closed;
      generation_is = r.generation_is;
      count = let c = r.count in omega arith;
      inside = λ other g h. r.inside other g (back other (roles.Pass (Inside g)) (λ e. absurd (cc)) h);
      drained = λ d other g h. r.drained d other g (back other (roles.Pass (Inside g)) (λ e. absurd (cc)) h);
      fits = r.fits;
      few = r.few;
      seats = let s = r.seats in omega arith;
    }

-- the rule holds at the beginning
begin_keeps : (plan : Plan) → IsPlan plan → MeetsRule plan (first_word plan) (first_view plan ∷ [])
begin_keeps plan fine =
    let w = begun_word plan.generation fine.1 in record {
      seat = 0;
      keeper = Drained plan.generation;
      kept = (first_view plan, refl, refl);
      one = λ other k h. let t = alone other (roles.Keeper k) h in let e = t.1 in (t.0, cc);
      closed = w.0;
      generation_is = w.1;
      count = w.2;
      inside = λ other g h. let e = (alone other (roles.Pass (Inside g)) h).1 in absurd (cc);
      drained = λ d other g h. let e = (alone other (roles.Pass (Inside g)) h).1 in cc;
      fits = let range = fine.1 in omega arith;
      few = fine.0;
      seats = omega arith;
    }
  where
    alone : (other : ℕ) (role : Role) → HasRole (first_view plan ∷ []) other role → (other ≡ 0) × (roles.Keeper (Drained plan.generation) ≡ role)
    alone zero role (u, there, is) = (refl, ap (λ (x : View). x.role) (some-injective (first_view plan) u there) ∙ is)
    alone (suc other) role (u, there, is) = absurd (some-ne-none u (sym there))

-- whatever a gate comes to meets the rule
pub rule_of : (plan : Plan) (word : ℕ) (views : List View) → Reaches plan word views → MeetsRule plan word views
rule_of plan word views (begins fine) = begin_keeps plan fine
rule_of plan word views (steps kind was before seat v reached at may) = step_keeps kind plan was before seat v (rule_of plan was before reached) at may
rule_of plan word views (splits was before seat v reached at some_left) = split_keeps plan was before seat v (rule_of plan was before reached) at some_left
rule_of plan word views (joins was before seat v reached at out no_spare) = join_keeps plan was before seat v (rule_of plan was before reached) at out no_spare
