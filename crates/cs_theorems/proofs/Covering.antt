-- Which snapshots cover a file by all standing records: those of the directories above it that aren't removed.
use Rattle.std.proofs.Common.{◌≡◌, refl, sym, ap, ◌∙◌, subst, ℕ, ◌<◌, ◌≤◌, ◌==◌, ◌||◌, ◌&&◌, not, Bool, true, false, cond, nat_le, nat_lt, max, List, [], ◌∷◌, ◌++◌, filter, Option, Some, None, is_some, ⊎_elim, arith}
use Rattle.std.specs.List.{list_any, filter_map, cons_option}
use Rattle.std.specs.Option.{option_map_or}
use Rattle.std.proofs.lemmas.Bool.{both_ways, cond_both, cond-true, cond-false, eq-eqb, eqb-true, or_cases, false_from_ne_true}
use Rattle.std.proofs.lemmas.Bool.Decides.{nat_tests}
use Rattle.std.proofs.lemmas.List.Folds.{list_any-append}
use Rattle.cs_snapctx.specs.Context.{Context, descending, merged, with_snap}
use Rattle.cs_snapctx.specs.Records.{record_of}
use Rattle.cs_laws.specs.declared.answers.Entry.{Entry}
use Rattle.cs_laws.specs.declared.records.Record.{Record}
use Rattle.cs_laws.specs.declared.records.RecordBody.{RecordBody}
use Rattle.cs_laws.specs.declared.records.RecordBody.TheVariants as bodies
use Rattle.cs_laws.specs.declared.objects.At.TheVariants as at
use Rattle.cs_laws.specs.Answers.{covers_file, standing_context}
use Rattle.cs_laws.specs.History.{stand}
use Rattle.cs_laws.specs.Realms.{Own, has_snap, is_realm, own, own_after, own_then, realm_record, realm_records, number_of, since_of}
use Rattle.cs_laws.specs.Standing.{dir_in, dir_of, is_removal, is_removed, is_snap}
use Rattle.cs_laws.specs.Standing.{has_snap as snap_stands}
use Rattle.cs_laws.specs.Tree.{is_directory}
use Rattle.cs_laws.specs.Runs.{IsRun}
use Rattle.cs_laws.specs.ServerKnows.{server_dir, server_dirs, server_file_path, server_home, server_path}
use Rattle.cs_theorems.proofs.Course.{course_run}
use Rattle.cs_theorems.proofs.Drawn.{AllDraw, Draws}
use Rattle.cs_theorems.proofs.Listed.{Member}
use Rattle.cs_theorems.proofs.RealmPaths.{HasRealms, path_is_way, realm_of, way_context}
use Rattle.cs_theorems.proofs.Settings.{Setting}
use Rattle.cs_theorems.proofs.WayContexts.{has_realm}
use Rattle.cs_theorems.proofs.Logs.{realm_dir}
use Rattle.cs_theorems.proofs.Paths.{Tree}
use Rattle.cs_theorems.proofs.Sides.{log_dirs, server_listing, server_tree}
use Rattle.cs_laws.specs.Covering.{covers_along, passes}

-- The records of all realms

none_found : (up : ℕ → List ℕ) (rs : List Record) (d : ℕ) (ds : List ℕ) → is_realm rs d ≡ false
    → record_of d (filter_map (λ k. realm_record (up k) rs k) ds) ≡ None
none_found up rs d [] not = refl
none_found up rs d (x ∷ xs) not = at (is_realm rs x) refl (none_found up rs d xs not)
  where
    at : (b : Bool) → is_realm rs x ≡ b → record_of d (filter_map (λ k. realm_record (up k) rs k) xs) ≡ None
        → record_of d (cons_option (cond b (Some (realm_of up rs x)) None) (filter_map (λ k. realm_record (up k) rs k) xs)) ≡ None
    at true is rest =
        cond-false (x == d) _ _ (false_from_ne_true (x == d) (λ same. both_ways (is_realm rs d) not (subst (λ k. is_realm rs k ≡ true) (eqb-true x d same) is))) ∙ rest
    at false other rest = rest

one_found : (up : ℕ → List ℕ) (rs : List Record) (d : ℕ) (ds : List ℕ) → is_realm rs d ≡ true → Member d ds
    → record_of d (filter_map (λ k. realm_record (up k) rs k) ds) ≡ Some (realm_of up rs d)
one_found up rs d [] is m = absurd m
one_found up rs d (x ∷ xs) is m = at (is_realm rs x) refl (x == d) refl (λ there. one_found up rs d xs is there)
  where
    behind : (x == d) ≡ false → Member d xs
    behind other = ⊎_elim (λ same. absurd (both_ways (x == d) other (eq-eqb x d same))) (λ there. there) m

    at : (b : Bool) → is_realm rs x ≡ b → (c : Bool) → (x == d) ≡ c → (Member d xs → record_of d (filter_map (λ k. realm_record (up k) rs k) xs) ≡ Some (realm_of up rs d))
        → record_of d (cons_option (cond b (Some (realm_of up rs x)) None) (filter_map (λ k. realm_record (up k) rs k) xs)) ≡ Some (realm_of up rs d)
    at true here true same rest = cond-true (x == d) _ _ same ∙ ap (λ k. Some (realm_of up rs k)) (eqb-true x d same)
    at true here false other rest = cond-false (x == d) _ _ other ∙ rest (behind other)
    at false none true same rest = absurd (both_ways (is_realm rs x) none (subst (λ k. is_realm rs k ≡ true) (sym (eqb-true x d same)) is))
    at false none false other rest = rest (behind other)

has_all : (up : ℕ → List ℕ) (ds : List ℕ) (rs : List Record) → ((d : ℕ) → is_realm rs d ≡ true → Member d ds) → HasRealms up rs (realm_records up ds rs)
has_all up ds rs listed = record { has = λ d. at d (is_realm rs d) refl }
  where
    at : (d : ℕ) (b : Bool) → is_realm rs d ≡ b → record_of d (realm_records up ds rs) ≡ cond b (Some (realm_of up rs d)) None
    at d true is = one_found up rs d ds is (listed d is)
    at d false not = none_found up rs d ds not

pub standing_way : (h : List Entry) (f : ℕ) → Setting h → standing_context h f ≡ way_context (stand h) (server_file_path h f)
standing_way h f i =
    path_is_way (λ d. server_dir h d) (λ d. server_path h d) (stand h) (realm_records (λ d. server_path h d) (server_dirs h) (stand h)) tree dirs
    (has_all (λ d. server_path h d) (server_dirs h) (stand h) (λ d is. (server_listing h i.tree i.listing i.asks).listed d (dirs d is))) (server_file_path h f)
    (tree.ways (server_home h f))
  where
    tree : Tree (λ d. server_dir h d) (λ d. server_path h d)
    tree = server_tree h i.tree i.asks

    dirs : (d : ℕ) → is_realm (stand h) d ≡ true → server_dir h d ≡ true
    dirs d is = sym (log_dirs h d) ∙ realm_dir (λ k. is_directory h k) (stand h) d refl i.front.good is

-- Members of merged lists

or_none : (b : Bool) → (b || false) ≡ b
or_none true = refl
or_none false = refl

and_none : (b : Bool) → (b && false) ≡ false
and_none true = refl
and_none false = refl

and_one : (b : Bool) → (b && true) ≡ b
and_one true = refl
and_one false = refl

any_with : (s t : ℕ) (xs : List ℕ) → list_any (λ x. x == s) (with_snap t xs) ≡ ((t == s) || list_any (λ x. x == s) xs)
any_with s t [] = refl
any_with s t (x ∷ xs) = at (nat_lt x t) refl (x == t) refl (any_with s t xs)
  where
    turned : (a b c : Bool) → (a || (b || c)) ≡ (b || (a || c))
    turned true true c = refl
    turned true false c = refl
    turned false true c = refl
    turned false false c = refl

    twice : (a c : Bool) → (a || c) ≡ (a || (a || c))
    twice true c = refl
    twice false c = refl

    at : (b : Bool) → nat_lt x t ≡ b → (c : Bool) → (x == t) ≡ c → list_any (λ y. y == s) (with_snap t xs) ≡ ((t == s) || list_any (λ y. y == s) xs)
        → list_any (λ y. y == s) (cond b (t ∷ x ∷ xs) (cond c (x ∷ xs) (x ∷ with_snap t xs))) ≡ ((t == s) || ((x == s) || list_any (λ y. y == s) xs))
    at true less c is rest = refl
    at false more true same rest =
        let k : x ≡ t = eqb-true x t same in
        subst (λ z. ((x == s) || list_any (λ y. y == s) xs) ≡ ((z == s) || ((x == s) || list_any (λ y. y == s) xs))) k (twice (x == s) (list_any (λ y. y == s) xs))
    at false more false other rest = ap (λ b. (x == s) || b) rest ∙ turned (x == s) (t == s) (list_any (λ y. y == s) xs)

any_descending : (s : ℕ) (xs : List ℕ) → list_any (λ x. x == s) (descending xs) ≡ list_any (λ x. x == s) xs
any_descending s [] = refl
any_descending s (x ∷ xs) = any_with s x (descending xs) ∙ ap (λ b. (x == s) || b) (any_descending s xs)

any_from : (s k : ℕ) (xs : List ℕ) → list_any (λ x. x == s) (filter (nat_le k) xs) ≡ (nat_le k s && list_any (λ x. x == s) xs)
any_from s k [] = sym (and_none (nat_le k s))
any_from s k (x ∷ xs) = at (nat_le k x) refl (x == s) refl (any_from s k xs)
  where
    is_there : (x == s) ≡ true → nat_le k x ≡ nat_le k s
    is_there same = ap (nat_le k) (eqb-true x s same)

    at : (b : Bool) → nat_le k x ≡ b → (c : Bool) → (x == s) ≡ c → list_any (λ y. y == s) (filter (nat_le k) xs) ≡ (nat_le k s && list_any (λ y. y == s) xs)
        → list_any (λ y. y == s) (cond b (x ∷ filter (nat_le k) xs) (filter (nat_le k) xs)) ≡ (nat_le k s && (c || list_any (λ y. y == s) xs))
    at true up true same rest = ap (λ b. b || list_any (λ y. y == s) (filter (nat_le k) xs)) same ∙ sym (and_one (nat_le k s) ∙ (sym (is_there same) ∙ up))
    at true up false other rest = ap (λ b. b || list_any (λ y. y == s) (filter (nat_le k) xs)) other ∙ rest
    at false low true same rest = rest ∙ (ap (λ b. b && list_any (λ y. y == s) xs) (sym (is_there same) ∙ low) ∙ sym (and_one (nat_le k s) ∙ (sym (is_there same) ∙ low)))
    at false low false other rest = rest

merged_any : (s : ℕ) (own_list : List ℕ) (seq : ℕ) (c : Context) (since : ℕ)
    → list_any (λ x. x == s) (merged own_list [] seq c since).snaps ≡ (list_any (λ x. x == s) own_list || (nat_le since s && list_any (λ x. x == s) c.snaps))
merged_any s own_list seq c since =
    any_descending s ((own_list ++ []) ++ filter (nat_le since) c.snaps)
    ∙ (list_any-append (λ x. x == s) (own_list ++ []) (filter (nat_le since) c.snaps)
    ∙ (ap (λ b. b || list_any (λ x. x == s) (filter (nat_le since) c.snaps)) (list_any-append (λ x. x == s) own_list [] ∙ or_none (list_any (λ x. x == s) own_list))
    ∙ ap (λ b. list_any (λ x. x == s) own_list || b) (any_from s since c.snaps)))

-- Along a way

-- shown d: whether the directory has the snapshot
abbrev shown_along : (ℕ → Bool) → ℕ → List Record → List ℕ → Bool
shown_along shown s rs [] = false
shown_along shown s rs (d ∷ ds) = shown d || (passes s rs d && shown_along shown s rs ds)

way_any : (s : ℕ) (rs : List Record) (ds : List ℕ) → list_any (λ x. x == s) (way_context rs ds).snaps ≡ shown_along (λ d. has_snap s (own d rs)) s rs ds
way_any s rs [] = refl
way_any s rs (d ∷ ds) = at (is_realm rs d) refl (way_any s rs ds)
  where
    at : (b : Bool) → is_realm rs d ≡ b → list_any (λ x. x == s) (way_context rs ds).snaps ≡ shown_along (λ k. has_snap s (own k rs)) s rs ds
        → list_any (λ x. x == s) (cond b (merged (own d rs).snaps [] (own d rs).seq (way_context rs ds) (since_of rs d)) (way_context rs ds)).snaps
        ≡ (has_snap s (own d rs) || ((not b || nat_le (since_of rs d) s) && shown_along (λ k. has_snap s (own k rs)) s rs ds))
    at true is rest =
        merged_any s (own d rs).snaps (own d rs).seq (way_context rs ds) (since_of rs d)
        ∙ ap (λ b. has_snap s (own d rs) || (nat_le (since_of rs d) s && b)) rest
    at false not_realm rest =
        rest
        ∙ sym (ap (λ b. b || shown_along (λ k. has_snap s (own k rs)) s rs ds)
        (false_from_ne_true (has_snap s (own d rs)) (λ there. both_ways (is_realm rs d) not_realm (has_realm d s rs there))))

-- The directory of a snapshot

abbrev pub is_dir : ℕ → Option ℕ → Bool
is_dir d o = option_map_or (λ e. e == d) o false

-- later records have other numbers
none_later : (s g : ℕ) (rs : List Record) → AllDraw g rs → s ≤ g → dir_of s rs ≡ None
none_later s g [] draws low = refl
none_later s g (r ∷ rs) draws low = step r.body draws.0 (none_later s (max g (number_of r.body)) rs draws.1 (omega (arith, low)))
  where
    step : (b : RecordBody) → Draws g b → dir_of s rs ≡ None → dir_in s b (dir_of s rs) ≡ None
    step (bodies.Request tid op answer) is rest = rest
    step (bodies.Flush snap f tid follows meta) is rest = rest
    step (bodies.Snap n e name) is rest = cond-false (n == s) _ _ (false_from_ne_true (n == s) (λ same. omega (arith, is, low, eqb-true n s same))) ∙ rest
    step (bodies.Removal t n) is rest = rest

filter_other : (s t : ℕ) (xs : List ℕ) → (t == s) ≡ false → list_any (λ x. x == s) (filter (λ x. not (x == t)) xs) ≡ list_any (λ x. x == s) xs
filter_other s t [] other = refl
filter_other s t (x ∷ xs) other = at (x == t) refl (filter_other s t xs other)
  where
    at : (b : Bool) → (x == t) ≡ b → list_any (λ y. y == s) (filter (λ y. not (y == t)) xs) ≡ list_any (λ y. y == s) xs
        → list_any (λ y. y == s) (cond (not b) (x ∷ filter (λ y. not (y == t)) xs) (filter (λ y. not (y == t)) xs)) ≡ ((x == s) || list_any (λ y. y == s) xs)
    at true same rest =
        let not_s : (x == s) ≡ false = ap (λ k. k == s) (eqb-true x t same) ∙ other in
        rest ∙ sym (ap (λ b. b || list_any (λ y. y == s) xs) not_s)
    at false keeps rest = ap (λ b. (x == s) || b) rest

filter_own : (s : ℕ) (xs : List ℕ) → list_any (λ x. x == s) (filter (λ x. not (x == s)) xs) ≡ false
filter_own s [] = refl
filter_own s (x ∷ xs) = at (x == s) refl (filter_own s xs)
  where
    at : (b : Bool) → (x == s) ≡ b → list_any (λ y. y == s) (filter (λ y. not (y == s)) xs) ≡ false
        → list_any (λ y. y == s) (cond (not b) (x ∷ filter (λ y. not (y == s)) xs) (filter (λ y. not (y == s)) xs)) ≡ false
    at true same rest = rest
    at false other rest = ap (λ b. b || list_any (λ y. y == s) (filter (λ y. not (y == s)) xs)) other ∙ rest

-- what the directory has once one record more is there
snap_has : (d s g n e : ℕ) (o : Own) (rs : List Record) → g < n → AllDraw (max g n) rs → (has_snap s o ≡ true → s ≤ g)
    → (has_snap s (cond (e == d) (record { seq = n; snaps = n ∷ o.snaps }) o) || is_dir d (dir_of s rs)) ≡ (has_snap s o || is_dir d (cond (n == s) (Some e) (dir_of s rs)))
snap_has d s g n e o rs up draws low = at (n == s) refl (e == d) refl
  where
    none_before : (n == s) ≡ true → has_snap s o ≡ false
    none_before same = false_from_ne_true (has_snap s o) (λ there. omega (arith, low there, up, eqb-true n s same))

    none_after : (n == s) ≡ true → is_dir d (dir_of s rs) ≡ false
    none_after same = ap (is_dir d) (none_later s (max g n) rs draws (omega (arith, eqb-true n s same)))

    at : (b : Bool) → (n == s) ≡ b → (c : Bool) → (e == d) ≡ c
        → (has_snap s (cond c (record { seq = n; snaps = n ∷ o.snaps }) o) || is_dir d (dir_of s rs)) ≡ (has_snap s o || is_dir d (cond b (Some e) (dir_of s rs)))
    at true same true of_d =
        ap (λ x. (x || has_snap s o) || is_dir d (dir_of s rs)) same ∙ sym (ap (λ x. x || (e == d)) (none_before same) ∙ of_d)
    at true same false other =
        ap (λ x. has_snap s o || x) (none_after same) ∙ (or_none (has_snap s o) ∙ (none_before same ∙ sym (ap (λ x. x || (e == d)) (none_before same) ∙ other)))
    at false differs true of_d = ap (λ x. (x || has_snap s o) || is_dir d (dir_of s rs)) differs
    at false differs false other = refl

removal_has : (s t n : ℕ) (o : Own) → (t == s) ≡ false → has_snap s (cond (has_snap t o) (record { seq = n; snaps = filter (λ x. not (x == t)) o.snaps }) o) ≡ has_snap s o
removal_has s t n o other =
    cond_both (has_snap t o) (record { seq = n; snaps = filter (λ x. not (x == t)) o.snaps }) o (λ p. has_snap s p ≡ has_snap s o)
    (λ _. filter_other s t o.snaps other) (λ _. refl)

own_removal : (s n : ℕ) (o : Own) → has_snap s (cond (has_snap s o) (record { seq = n; snaps = filter (λ x. not (x == s)) o.snaps }) o) ≡ false
own_removal s n o =
    cond_both (has_snap s o) (record { seq = n; snaps = filter (λ x. not (x == s)) o.snaps }) o (λ p. has_snap s p ≡ false)
    (λ _. filter_own s o.snaps) (λ none. none)

abbrev Known : ℕ → ℕ → Own → List Record → Type 0
Known d s p rs = has_snap s (own_after d p rs) ≡ ((has_snap s p || is_dir d (dir_of s rs)) && not (is_removed s rs))

own_step : (d s g : ℕ) (o : Own) (b : RecordBody) (rs : List Record) → Draws g b → AllDraw (max g (number_of b)) rs → (has_snap s o ≡ true → s ≤ g)
    → ((p : Own) → (has_snap s p ≡ true → s ≤ max g (number_of b)) → Known d s p rs)
    → has_snap s (own_after d (own_then d o b) rs) ≡ ((has_snap s o || is_dir d (dir_in s b (dir_of s rs))) && not (is_removal s b || is_removed s rs))
own_step d s g o (bodies.Request tid op answer) rs is draws low rest = rest o (λ there. omega (arith, low there))
own_step d s g o (bodies.Flush snap f tid follows meta) rs is draws low rest = rest o (λ there. omega (arith, low there))
own_step d s g o (bodies.Snap n e name) rs is draws low rest =
    let now : Own = cond (e == d) (record { seq = n; snaps = n ∷ o.snaps }) o in
    rest now
    (cond_both (e == d) (record { seq = n; snaps = n ∷ o.snaps }) o (λ p. has_snap s p ≡ true → s ≤ max g n)
    (λ _ there. ⊎_elim (λ same. omega (arith, eqb-true n s same)) (λ was. omega (arith, low was)) (or_cases (n == s) (has_snap s o) there))
    (λ _ there. omega (arith, low there)))
    ∙ ap (λ x. x && not (is_removed s rs)) (snap_has d s g n e o rs is draws low)
own_step d s g o (bodies.Removal t n) rs is draws low rest = at (t == s) refl
  where
    now : Own
    now = cond (has_snap t o) (record { seq = n; snaps = filter (λ x. not (x == t)) o.snaps }) o

    at : (b : Bool) → (t == s) ≡ b → has_snap s (own_after d now rs) ≡ ((has_snap s o || is_dir d (dir_of s rs)) && not (b || is_removed s rs))
    at true same =
        let k : t ≡ s = eqb-true t s same in
        let none : has_snap s now ≡ false
        = subst (λ x. has_snap s (cond (has_snap x o) (record { seq = n; snaps = filter (λ y. not (y == x)) o.snaps }) o) ≡ false) (sym k) (own_removal s n o) in
        rest now (λ there. absurd (both_ways (has_snap s now) none there))
        ∙ (ap (λ x. (x || is_dir d (dir_of s rs)) && not (is_removed s rs)) none
        ∙ (ap (λ o2. is_dir d o2 && not (is_removed s rs)) (none_later s (max g n) rs draws (omega (arith, is.0, k))) ∙ sym (and_none (has_snap s o || is_dir d (dir_of s rs)))))
    at false other =
        rest now (λ there. omega (arith, low (sym (removal_has s t n o other) ∙ there)))
        ∙ ap (λ x. (x || is_dir d (dir_of s rs)) && not (is_removed s rs)) (removal_has s t n o other)

-- o: what is known of the directory before these records, which draw numbers above g
own_is : (d s g : ℕ) (o : Own) (rs : List Record) → AllDraw g rs → (has_snap s o ≡ true → s ≤ g) → Known d s o rs
own_is d s g o [] draws low = rule (has_snap s o)
  where
    rule : (b : Bool) → b ≡ ((b || false) && true)
    rule true = refl
    rule false = refl
own_is d s g o (r ∷ rs) draws low = own_step d s g o r.body rs draws.0 draws.1 low (λ p now. own_is d s (max g (number_of r.body)) p rs draws.1 now)

has_is : (d s : ℕ) (rs : List Record) → AllDraw 0 rs → has_snap s (own d rs) ≡ (is_dir d (dir_of s rs) && not (is_removed s rs))
has_is d s rs draws = own_is d s 0 (record { seq = 0; snaps = [] }) rs draws (λ none. absurd (both_ways false refl none))

-- where the snapshot stands and isn't removed
way_has : (s e : ℕ) (rs : List Record) (ds : List ℕ) → AllDraw 0 rs → dir_of s rs ≡ Some e → is_removed s rs ≡ false
    → shown_along (λ d. has_snap s (own d rs)) s rs ds ≡ covers_along s e rs ds
way_has s e rs [] draws there stays = refl
way_has s e rs (d ∷ ds) draws there stays =
    (λ i. one i || (passes s rs d && way_has s e rs ds draws there stays i))
  where
    turn : (a b : ℕ) → (a == b) ≡ (b == a)
    turn a b = grind (arith, nat_tests)

    one : has_snap s (own d rs) ≡ (d == e)
    one =
        has_is d s rs draws
        ∙ (ap (λ o. is_dir d o && not (is_removed s rs)) there ∙ (ap (λ b. (e == d) && not b) stays ∙ (and_one (e == d) ∙ turn e d)))

-- a snapshot of the directory e covers a file whose path has e, unless a realm on the way there was made too late for it
pub covers_by : (p : ℕ) (h : List Entry) (f s e : ℕ) → IsRun p h → dir_of s (stand h) ≡ Some e → is_removed s (stand h) ≡ false
    → covers_file (at.Snap s) (standing_context h f) ≡ covers_along s e (stand h) (server_file_path h f)
covers_by p h f s e run there stays =
    let setting = (course_run p h run).setting in
    ap (λ (c : Context). list_any (λ t. t == s) c.snaps) (standing_way h f setting)
    ∙ (way_any s (stand h) (server_file_path h f) ∙ way_has s e (stand h) (server_file_path h f) setting.drawn there stays)

-- a snapshot stands where it has a directory
pub stands_dir : (s : ℕ) (rs : List Record) → snap_stands s rs ≡ is_some (dir_of s rs)
stands_dir s [] = refl
stands_dir s (r ∷ rs) = step r.body (stands_dir s rs)
  where
    some_if : (b : Bool) (e : ℕ) (o : Option ℕ) → (b || is_some o) ≡ is_some (cond b (Some e) o)
    some_if true e o = refl
    some_if false e o = refl

    step : (b : RecordBody) → snap_stands s rs ≡ is_some (dir_of s rs) → (is_snap s b || snap_stands s rs) ≡ is_some (dir_in s b (dir_of s rs))
    step (bodies.Request tid op answer) rest = rest
    step (bodies.Flush snap f tid follows meta) rest = rest
    step (bodies.Snap n e name) rest = ap (λ b. (n == s) || b) rest ∙ some_if (n == s) e (dir_of s rs)
    step (bodies.Removal t n) rest = rest
