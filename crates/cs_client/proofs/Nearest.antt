-- The context of the nearest realm, looked for along a path.
use Rattle.std.proofs.Common.{◌≡◌, ◌∙◌, ◌↔◌, refl, sym, ap, ℕ, zero, suc, ◌+◌, ◌<◌, ◌≤◌, Bool, true, false, List, [], ◌∷◌, length, drop, get_or, add-one, drop-cons, arith}
use Rattle.std.proofs.lemmas.Bool.{true≢false}
use Rattle.cs_snapctx.specs.declared.realm.RealmRecord.{RealmRecord}
use Rattle.cs_snapctx.specs.Contexts.{context}
use Rattle.cs_snapctx.specs.Records.{is_known}
use Rattle.cs_client.specs.Contexts.{nearest_context}

-- the directories from the i-th on are still to be looked at
rest : (up : List ℕ) (i d : ℕ) → i < length up → d ≡ get_or up i d → drop i up ≡ d ∷ drop (i + 1) up
rest up i d within is = rw (add-one i) (drop-cons up i d within ∙ ap (λ e. e ∷ drop (suc i) up) (sym is))

-- a realm has a context
is_realm : (b k : Bool) → (b ≡ false) ↔ (k ≡ false) → b ≡ true → k ≡ true
is_realm b true same some = refl
is_realm b false same some = absurd (true≢false (sym some ∙ same.1 refl))

pub found_here : (up : List ℕ) (ts : List RealmRecord) (i d : ℕ) (some : Bool) → i < length up → d ≡ get_or up i d
    → nearest_context (drop i up) ts ≡ nearest_context up ts
    → (some ≡ false) ↔ (is_known d ts ≡ false) → some ≡ true → context ts d ≡ nearest_context up ts
found_here up ts i d some within is still same has =
    let known : is_known d ts ≡ true = is_realm some (is_known d ts) same has in
    let here : nearest_context (d ∷ drop (i + 1) up) ts ≡ context ts d = rw known refl in
    sym here ∙ (ap (λ ds. nearest_context ds ts) (sym (rest up i d within is)) ∙ still)

pub not_here : (up : List ℕ) (ts : List RealmRecord) (i d : ℕ) → i < length up → d ≡ get_or up i d
    → nearest_context (drop i up) ts ≡ nearest_context up ts → is_known d ts ≡ false
    → nearest_context (drop (i + 1) up) ts ≡ nearest_context up ts
not_here up ts i d within is still unknown =
    let here : nearest_context (d ∷ drop (i + 1) up) ts ≡ nearest_context (drop (i + 1) up) ts = rw unknown refl in
    sym here ∙ (ap (λ ds. nearest_context ds ts) (sym (rest up i d within is)) ∙ still)

pub none_left : {A : Type 0} (xs : List A) (i : ℕ) → length xs ≤ i → drop i xs ≡ []
none_left [] zero past = refl
none_left [] (suc i) past = refl
none_left (x ∷ xs) zero past = absurd (omega arith)
none_left (x ∷ xs) (suc i) past = none_left xs i (omega arith)
