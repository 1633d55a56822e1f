-- The steps of putting contexts in their places.
use Rattle.std.proofs.Common.{◌≡◌, ℕ, zero, suc, ◌+◌, ◌<◌, List, [], ◌∷◌, ◌++◌, Option, Some, None, length, get_or, take, drop, set, refl, sym, ◌∙◌, ap, append_assoc, add-one, arith, drop-cons}
use Rattle.std.specs.List.{cons_option}
use Rattle.std.specs.Option.{option_map_or}
use Rattle.std.proofs.lemmas.List.{drop-set-lt, take_more, take_more_set}
use Rattle.cs_snapctx.specs.declared.realm.RealmRecord.{RealmRecord}
use Rattle.cs_snapctx.specs.Context.{Context, empty_context}
use Rattle.cs_snapctx.specs.Records.{root_record}
use Rattle.cs_realms.specs.declared.changed.Change.{Change}
use Rattle.cs_realms.specs.declared.renewal.Renewed.{Renewed}
use Rattle.cs_realms.specs.Renewals.{put_all, answered_change, answered_changes}

-- what is put at the next place
next_put : (k : ℕ) (ws : List (Option Renewed)) (cs : List Context) (w : Option Renewed) (d : Context) → k < length ws → k < length cs → get_or ws k w ≡ w
    → put_all (drop k ws) (drop k cs) ≡ option_map_or (λ n. n.kept) w (get_or cs k d) ∷ put_all (drop (k + 1) ws) (drop (k + 1) cs)
next_put k ws cs w d a b e = rw (add-one, drop-cons ws k w, drop-cons cs k d, e) refl

-- and what is taken of it
next_told : (k : ℕ) (xs : List RealmRecord) (ws : List (Option Renewed)) (cs : List Context) (x : RealmRecord) (w : Option Renewed) (d : Context)
    → k < length xs → k < length ws → k < length cs → get_or xs k x ≡ x → get_or ws k w ≡ w
    → answered_changes (drop k xs) (drop k ws) (drop k cs)
    ≡ cons_option (answered_change x.realm (get_or cs k d) w) (answered_changes (drop (k + 1) xs) (drop (k + 1) ws) (drop (k + 1) cs))
next_told k xs ws cs x w d l a b f e = rw (add-one, drop-cons xs k x, drop-cons ws k w, drop-cons cs k d, f, e) refl

-- one element more of what is done
one_more : {X : Type 0} (done more rest all : List X) (y : X) → more ≡ done ++ y ∷ [] → done ++ y ∷ rest ≡ all → more ++ rest ≡ all
one_more done more rest all y e h = ap (λ ys. ys ++ rest) e ∙ (append_assoc done (y ∷ []) rest ∙ h)

behind : {X : Type 0} (k : ℕ) (xs : List X) (x : X) → drop (k + 1) (set xs k x) ≡ drop (k + 1) xs
behind k xs x = drop-set-lt (k + 1) xs k x (omega arith)

-- where nothing is renewed
pub none_put : (k : ℕ) (ws : List (Option Renewed)) (v : Option Renewed) (cs next all : List Context) → k < length ws → k < length cs → get_or ws k None ≡ None
    → next ≡ cs → take k cs ++ put_all (drop k ws) (drop k cs) ≡ all → take (k + 1) next ++ put_all (drop (k + 1) (set ws k v)) (drop (k + 1) next) ≡ all
none_put k ws v cs next all a b e f h =
    let d = empty_context in
    rw (f, behind k ws v)
    (one_more (take k cs) (take (k + 1) cs) (put_all (drop (k + 1) ws) (drop (k + 1) cs)) all (get_or cs k d) (take_more cs k d b)
    (ap (λ ys. take k cs ++ ys) (sym (next_put k ws cs None d a b e)) ∙ h))

-- where a context is
pub one_put : (k : ℕ) (ws : List (Option Renewed)) (v : Option Renewed) (n : Renewed) (cs next all : List Context) → k < length ws → k < length cs
    → get_or ws k (Some n) ≡ Some n → next ≡ set cs k n.kept → take k cs ++ put_all (drop k ws) (drop k cs) ≡ all
    → take (k + 1) next ++ put_all (drop (k + 1) (set ws k v)) (drop (k + 1) next) ≡ all
one_put k ws v n cs next all a b e f h =
    rw (f, behind k ws v, behind k cs n.kept)
    (one_more (take k cs) (take (k + 1) (set cs k n.kept)) (put_all (drop (k + 1) ws) (drop (k + 1) cs)) all n.kept (take_more_set cs k n.kept b)
    (ap (λ ys. take k cs ++ ys) (sym (next_put k ws cs (Some n) empty_context a b e)) ∙ h))

any_default : {X : Type 0} (k : ℕ) (xs : List X) (x y : X) → k < length xs → get_or xs k x ≡ get_or xs k y
any_default k [] x y l = absurd (omega arith)
any_default zero (z ∷ zs) x y l = refl
any_default (suc k) (z ∷ zs) x y l = any_default k zs x y (omega arith)

pub none_told : (k : ℕ) (xs : List RealmRecord) (ws : List (Option Renewed)) (v : Option Renewed) (cs next : List Context) (latest more all : List Change)
    → k < length xs → k < length ws → k < length cs → get_or ws k None ≡ None → next ≡ cs → more ≡ latest
    → latest ++ answered_changes (drop k xs) (drop k ws) (drop k cs) ≡ all
    → more ++ answered_changes (drop (k + 1) xs) (drop (k + 1) (set ws k v)) (drop (k + 1) next) ≡ all
none_told k xs ws v cs next latest more all l a b e f g h =
    let x = get_or xs k root_record in
    let own : get_or xs k x ≡ x = any_default k xs x root_record l in
    rw (f, g, behind k ws v) (ap (λ ys. latest ++ ys) (sym (next_told k xs ws cs x None empty_context l a b own e)) ∙ h)

pub one_told : (k : ℕ) (xs : List RealmRecord) (x : RealmRecord) (ws : List (Option Renewed)) (v : Option Renewed) (n : Renewed) (cs next : List Context) (c : Context)
    → (latest more all : List Change) (y : Change)
    → k < length xs → k < length ws → k < length cs → get_or xs k x ≡ x → get_or ws k (Some n) ≡ Some n → get_or cs k c ≡ c → next ≡ set cs k n.kept
    → more ≡ latest ++ y ∷ [] → y ≡ record { realm = x.realm; old = Some c; new = n.answered }
    → latest ++ answered_changes (drop k xs) (drop k ws) (drop k cs) ≡ all
    → more ++ answered_changes (drop (k + 1) xs) (drop (k + 1) (set ws k v)) (drop (k + 1) next) ≡ all
one_told k xs x ws v n cs next c latest more all y l a b p e q f m is h =
    let rest = answered_changes (drop (k + 1) xs) (drop (k + 1) ws) (drop (k + 1) cs) in
    let next_is : answered_changes (drop k xs) (drop k ws) (drop k cs) ≡ y ∷ rest =
    next_told k xs ws cs x (Some n) c l a b p e ∙ (ap (λ z. record { realm = x.realm; old = Some z; new = n.answered } ∷ rest) q ∙ ap (λ z. z ∷ rest) (sym is)) in
    rw (f, behind k ws v, behind k cs n.kept) (one_more latest more rest all y m (ap (λ ys. latest ++ ys) (sym next_is) ∙ h))
