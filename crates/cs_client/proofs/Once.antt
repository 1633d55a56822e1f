-- One more file.
use Rattle.std.proofs.Common.{◌≡◌, ◌∙◌, refl, sym, ap, subst, ℕ, ◌<◌, ◌==◌, ◌||◌, Bool, true, false, List, [], ◌∷◌, ◌++◌, length, take, drop, get_or, suc, drop-cons}
use Rattle.std.proofs.lemmas.Bool.{eqb-true}
use Rattle.std.proofs.lemmas.List.{take-append-drop}
use Rattle.std.proofs.lemmas.List.Folds.{list_any-append}
use Rattle.cs_client.specs.Views.{IsEachOnce, is_among}

apart : (f g : ℕ) → (f == g) ≡ false → (g == f) ≡ false
apart f g other = at (g == f) refl
  where
    at : (b : Bool) → (g == f) ≡ b → b ≡ false
    at true same = sym same ∙ (subst (λ k. (k == f) ≡ false) (sym (eqb-true g f same)) (subst (λ k. (f == k) ≡ false) (eqb-true g f same) other))
    at false is = refl

or_left : (b c : Bool) → (b || c) ≡ false → b ≡ false
or_left true c is = absurd (cc)
or_left false c is = refl

or_right : (b c : Bool) → (b || c) ≡ false → c ≡ false
or_right true c is = absurd (cc)
or_right false c is = is

pub once_more : (fs : List ℕ) (f : ℕ) → is_among f fs ≡ false → IsEachOnce fs → IsEachOnce (fs ++ f ∷ [])
once_more [] f new once = (refl, tt)
once_more (g ∷ gs) f new once = (
  list_any-append (λ k. k == g) gs (f ∷ []) ∙ rw (once.0, apart g f (or_left (g == f) (is_among f gs) new)) refl,
  once_more gs f
      (or_right (g == f) (is_among f gs) new) once.1,
)

once_split : (xs : List ℕ) (n : ℕ) (ys : List ℕ) → IsEachOnce (xs ++ n ∷ ys) → is_among n xs ≡ false
once_split [] n ys once = refl
once_split (x ∷ xs) n ys once =
    let here : (is_among x xs || ((n == x) || is_among x ys)) ≡ false = sym (list_any-append (λ k. k == x) xs (n ∷ ys)) ∙ once.0 in
    rw (apart n x (or_left (n == x) (is_among x ys) (or_right (is_among x xs) ((n == x) || is_among x ys) here)), once_split xs n ys once.1) refl

-- an item isn't among those before it
pub front_without : (xs : List ℕ) (i n : ℕ) → i < length xs → n ≡ get_or xs i n → IsEachOnce xs → is_among n (take i xs) ≡ false
front_without xs i n more is once =
    let whole : xs ≡ take i xs ++ n ∷ drop (suc i) xs =
    sym (take-append-drop i xs) ∙ (ap (λ ys. take i xs ++ ys) (drop-cons xs i n more) ∙ ap (λ k. take i xs ++ k ∷ drop (suc i) xs) (sym is)) in
    once_split (take i xs) n (drop (suc i) xs) (subst (λ ys. IsEachOnce ys) whole once)
