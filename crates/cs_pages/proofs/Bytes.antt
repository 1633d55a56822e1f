-- The bytes of a page are those put last.
use Rattle.std.proofs.Common.{◌≡◌, refl, sym, ap, ◌∙◌, ℕ, ◌+◌, ◌-◌, ◌<◌, ◌≤◌, ◌==◌, ◌&&◌, Bool, true, false, cond, List, [], ◌∷◌, ◌++◌, Option, Some, None, IfSome, arith, subst, ⊎_elim, take, drop, length, slice_index, length-append, length-drop, is_some}
use Rattle.std.specs.Option.{option_map}
use Rattle.std.proofs.lemmas.List.{get_or_append_left, get_or-append_right, get_or-drop, get_or-take, length-take-le}
use Rattle.std.proofs.lemmas.Bool.{cases_lt, cond-true, cond-false}
use Rattle.std.proofs.lemmas.Bool.Decides.{nat_tests}
use Rattle.cs_snapctx.specs.Context.{Context}
use Rattle.cs_states.specs.PageState.{is_in}
use Rattle.cs_pages.specs.declared.page.Page.{Page}
use Rattle.cs_pages.specs.Page.{after_ack, after_drop, cleaned, dirtied, overwritten, page_state, sent_as}
use Rattle.cs_pages.specs.Life.{Step, filled, written, sent, acked, dropped, invalidated, after, IsLife, covers, last_put}

-- One write

length_overwritten : (at : ℕ) (bytes old : List ℕ) → at + length bytes ≤ length old → length (overwritten at bytes old) ≡ length old
length_overwritten at bytes old l = simp (length-append, length-drop) (omega (arith, length-take-le at old (omega arith)))

before_it : (at i : ℕ) (bytes old : List ℕ) → at + length bytes ≤ length old → i < at → slice_index (overwritten at bytes old) i ≡ slice_index old i
before_it at i bytes old l below =
    get_or_append_left (take at old) (bytes ++ drop (at + length bytes) old) 0 i (omega (arith, length-take-le at old (omega arith)))
    ∙ get_or-take at old i 0 below

within_it : (at i : ℕ) (bytes old : List ℕ) → at + length bytes ≤ length old → at ≤ i → i < at + length bytes → slice_index (overwritten at bytes old) i ≡ slice_index bytes (i - at)
within_it at i bytes old l above below =
    get_or-append_right (take at old) (bytes ++ drop (at + length bytes) old) at i 0 (length-take-le at old (omega arith)) above
    ∙ get_or_append_left bytes (drop (at + length bytes) old) 0 (i - at) (omega arith)

behind_it : (at i : ℕ) (bytes old : List ℕ) → at + length bytes ≤ length old → at + length bytes ≤ i → slice_index (overwritten at bytes old) i ≡ slice_index old i
behind_it at i bytes old l above =
    get_or-append_right (take at old) (bytes ++ drop (at + length bytes) old) at i 0 (length-take-le at old (omega arith)) (omega arith)
    ∙ (get_or-append_right bytes (drop (at + length bytes) old) (length bytes) (i - at) 0 refl (omega arith)
    ∙ (get_or-drop (at + length bytes) old (i - at - length bytes) 0 ∙ ap (slice_index old) (omega arith)))

-- Pages: as long as a page is, and with a byte at a place
abbrev pub Holds : ℕ → ℕ → Page → Type 0
Holds i v x = (length x.bytes ≡ 4096) × (slice_index x.bytes i ≡ v)

-- the byte at a place after a write
byte_at : (at i v : ℕ) (bytes old : List ℕ) → at + length bytes ≤ length old → slice_index old i ≡ v → slice_index (overwritten at bytes old) i ≡ cond (covers at bytes i) (slice_index bytes (i - at)) v
byte_at at i v bytes old l was = ⊎_elim
    (λ below.
    let out : covers at bytes i ≡ false = grind (arith, nat_tests) in
    before_it at i bytes old l below ∙ (was ∙ sym (cond-false (covers at bytes i) (slice_index bytes (i - at)) v out)))
    (λ above. ⊎_elim
    (λ within.
    let in_it : covers at bytes i ≡ true = grind (arith, nat_tests) in
    within_it at i bytes old l above within ∙ sym (cond-true (covers at bytes i) (slice_index bytes (i - at)) v in_it))
    (λ behind.
    let out : covers at bytes i ≡ false = grind (arith, nat_tests) in
    behind_it at i bytes old l behind ∙ (was ∙ sym (cond-false (covers at bytes i) (slice_index bytes (i - at)) v out)))
    (cases_lt i (at + length bytes)))
    (cases_lt i at)

-- the whole page
whole_at : (at i v : ℕ) (bytes : List ℕ) → i < 4096 → at + length bytes ≤ 4096 → length bytes ≡ 4096 → slice_index bytes i ≡ cond (covers at bytes i) (slice_index bytes (i - at)) v
whole_at at i v bytes l within whole =
    let none : at ≡ 0 = omega arith in
    let in_it : covers at bytes i ≡ true = grind (arith, nat_tests) in
    ap (slice_index bytes) (omega arith) ∙ sym (cond-true (covers at bytes i) (slice_index bytes (i - at)) v in_it)

holds_dirtied : (at i v : ℕ) (bytes : List ℕ) (ctx : Context) (x : Option Page) → i < 4096 → at + length bytes ≤ 4096 → (x ≡ None → length bytes ≡ 4096) → IfSome x (Holds i v) → Holds i (cond (covers at bytes i) (slice_index bytes (i - at)) v) (dirtied ctx at bytes x)
holds_dirtied at i v bytes ctx None l within whole held = (whole refl, whole_at at i v bytes l within (whole refl))
holds_dirtied at i v bytes ctx (Some x) l within whole held =
    let room : at + length bytes ≤ length x.bytes = omega (arith, held.0) in
    (length_overwritten at bytes x.bytes room ∙ held.0, byte_at at i v bytes x.bytes room held.1)

holds_sent : (t i v : ℕ) (x : Option Page) → IfSome x (Holds i v) → IfSome (option_map (sent_as t) x) (Holds i v)
holds_sent t i v None held = tt
holds_sent t i v (Some x) held = held

if_cond : (b : Bool) (P : Page → Type 0) (x : Page) (o : Option Page) → P x → IfSome o P → IfSome (cond b (Some x) o) P
if_cond true P x o a p = a
if_cond false P x o a p = p

or_none : (b : Bool) (P : Page → Type 0) (x : Page) → P x → IfSome (cond b (Some x) None) P
or_none true P x a = a
or_none false P x a = tt

holds_acked : (keep : Bool) (t i v : ℕ) (x : Option Page) → IfSome x (Holds i v) → IfSome (after_ack keep t x) (Holds i v)
holds_acked keep t i v None held = tt
holds_acked true t i v (Some x) held = if_cond (is_in t (page_state x)) (Holds i v) (cleaned x) (Some x) held held
holds_acked false t i v (Some x) held = elim (is_in t (page_state x)) as (λ b. IfSome (cond b None (Some x)) (Holds i v)) [ true ↦ tt | false ↦ held ]

holds_dropped : (i v : ℕ) (x : Option Page) → IfSome x (Holds i v) → IfSome (after_drop x) (Holds i v)
holds_dropped i v None held = tt
holds_dropped i v (Some x) held = or_none (is_some x.owed) (Holds i v) x held

same_number : (q p : ℕ) → (q == p) ≡ true → q ≡ p
same_number q p is = grind (arith, nat_tests)

-- a step that changes page p, seen from page q
at_page : (q p i v w : ℕ) (x y : Option Page) → (q ≡ p → IfSome x (Holds i v)) → IfSome y (Holds i w) → IfSome (cond (q == p) x y) (Holds i (cond (q == p) v w))
at_page q p i v w x y here there = elim (q == p) as (λ b. (q == p) ≡ b → IfSome (cond b x y) (Holds i (cond b v w))) [
  | true ↦ λ same. here (same_number q p same)
  | false ↦ λ other. there
] refl

at_changed : (q p i : ℕ) (v : ℕ → ℕ) (x y : Option Page) → IfSome x (Holds i (v p)) → IfSome y (Holds i (v q)) → IfSome (cond (q == p) x y) (Holds i (v q))
at_changed q p i v x y here there = elim (q == p) as (λ b. (q == p) ≡ b → IfSome (cond b x y) (Holds i (v q))) [
  | true ↦ λ same. subst (λ r. IfSome x (Holds i (v r))) (sym (same_number q p same)) here
  | false ↦ λ other. there
] refl

and_cond : (b c : Bool) (v w : ℕ) → cond b (cond c v w) w ≡ cond (b && c) v w
and_cond true c v w = refl
and_cond false c v w = refl

pub all_put : (h : List Step) (q i : ℕ) → IsLife h → i < 4096 → IfSome (after h q) (Holds i (last_put h q i))
all_put [] q i life l = tt
all_put (filled p bytes ∷ h) q i life l = at_page q p i (slice_index bytes i) (last_put h q i) (Some (record { bytes = bytes; owed = None })) (after h q) (λ same. (life.0, refl)) (all_put h q i life.1 l)
all_put (written p at bytes ctx ∷ h) q i life l =
    subst (λ v. IfSome (cond (q == p) (Some (dirtied ctx at bytes (after h p))) (after h q)) (Holds i v)) (and_cond (q == p) (covers at bytes i) (slice_index bytes (i - at)) (last_put h q i))
    (at_page q p i (cond (covers at bytes i) (slice_index bytes (i - at)) (last_put h q i)) (last_put h q i) (Some (dirtied ctx at bytes (after h p))) (after h q)
    (λ same. holds_dirtied at i (last_put h q i) bytes ctx (after h p) l life.0 life.1 (subst (λ r. IfSome (after h p) (Holds i (last_put h r i))) (sym same) (all_put h p i life.2 l)))
    (all_put h q i life.2 l))
all_put (sent p tid ∷ h) q i life l = at_changed q p i (λ r. last_put h r i) (option_map (sent_as tid) (after h p)) (after h q) (holds_sent tid i (last_put h p i) (after h p) (all_put h p i life l)) (all_put h q i life l)
all_put (acked tid keep ∷ h) q i life l = holds_acked keep tid i (last_put h q i) (after h q) (all_put h q i life l)
all_put (dropped p ∷ h) q i life l = at_changed q p i (λ r. last_put h r i) (after_drop (after h p)) (after h q) (holds_dropped i (last_put h p i) (after h p) (all_put h p i life l)) (all_put h q i life l)
all_put (invalidated ∷ h) q i life l = holds_dropped i (last_put h q i) (after h q) (all_put h q i life l)

pub last_bytes : (h : List Step) (q i : ℕ) (x : Page) → IsLife h → after h q ≡ Some x → i < 4096 → slice_index x.bytes i ≡ last_put h q i
last_bytes h q i x life is l =
    let held : Holds i (last_put h q i) x = subst (λ o. IfSome o (Holds i (last_put h q i))) is (all_put h q i life l) in
    held.1
