-- What the writer of texts leaves.
use Rattle.std.proofs.Common.{◌≡◌, ℕ, ◌+◌, ◌-◌, ◌<◌, ◌≤◌, List, [], ◌∷◌, ◌++◌, length, get_or, take, drop, set, refl, sym, ap, ◌∙◌, arith, append_assoc, append-nil, length-append}
use Rattle.std.proofs.lemmas.List.{take-append-drop, drop-drop, take_more, length-take-le}
use Rattle.std.proofs.Math.Seq.{take-set-lt, set-append_seam}
use Rattle.cs_bits.specs.Bits.{behind, or_dash}

-- lists with the same front and the same rest are the same
pub same_list : (n : ℕ) (xs ys : List ℕ) → take n xs ≡ take n ys → drop n xs ≡ drop n ys → xs ≡ ys
same_list n xs ys front rest = sym (take-append-drop n xs) ∙ ap (λ f. f ++ drop n xs) front ∙ ap (λ r. take n ys ++ r) rest ∙ take-append-drop n ys

pub drop_further : (m n : ℕ) (xs ys : List ℕ) → m ≤ n → drop m xs ≡ drop m ys → drop n xs ≡ drop n ys
drop_further m n xs ys le e =
    let far : m + (n - m) ≡ n = omega arith
    in ap (λ k. drop k xs) (sym far) ∙ sym (drop-drop (n - m) m xs) ∙ ap (λ l. drop (n - m) l) e ∙ drop-drop (n - m) m ys
    ∙ ap (λ k. drop k ys) far

-- where no letter was written, nothing was
pub nothing_put : (end behind_end : ℕ) (old new letters : List ℕ) → take behind_end new ≡ take (end + 1) old ++ letters → behind_end ≡ end + 1 + length letters → drop behind_end new ≡ drop behind_end old → behind_end ≡ end + 1 → drop end new ≡ drop end old
nothing_put end behind_end old new [] text len rest none =
    ap (λ l. drop end l)
    (same_list (end + 1) new old (ap (λ k. take k new) (sym none) ∙ text ∙ append-nil (take (end + 1) old))
    (ap (λ k. drop k new) (sym none) ∙ rest ∙ ap (λ k. drop k old) none))
nothing_put end behind_end old new (x ∷ xs) text len rest none = absurd (omega arith)

-- the capital, put before letters that stand already
pub put_capital : (end behind_end capital : ℕ) (old new letters : List ℕ) → take behind_end new ≡ take (end + 1) old ++ letters → behind_end ≡ end + 1 + length letters → (behind_end ≡ end + 1 → ⊥) → end + 1 ≤ length old → behind_end ≤ length new → take behind_end (set new end capital) ≡ take end old ++ behind (capital ∷ []) letters
put_capital end behind_end capital old new [] text len some room room' = absurd (some (omega arith))
put_capital end behind_end capital old new (x ∷ xs) text len some room room' =
    let below : end < behind_end = omega arith
    in let within : end < length old = omega arith
    in let front : length (take end old) ≡ end = length-take-le end old (omega arith)
    in take-set-lt behind_end new end capital below
    ∙ ap (λ l. set l end capital) (text ∙ ap (λ l. l ++ x ∷ xs) (take_more old end 0 within) ∙ append_assoc (take end old) (get_or old end 0 ∷ []) (x ∷ xs))
    ∙ ap (λ i. set (take end old ++ get_or old end 0 ∷ x ∷ xs) i capital) (sym front)
    ∙ set-append_seam (take end old) (get_or old end 0) (x ∷ xs) capital

pub or_dash_some : (n : ℕ) (xs : List ℕ) → 0 < n → n ≡ length xs → or_dash xs ≡ xs
or_dash_some n [] some e = absurd (omega arith)
or_dash_some n (x ∷ xs) some e = refl

pub or_dash_none : (n : ℕ) (xs : List ℕ) → n ≤ 0 → n ≡ length xs → or_dash xs ≡ 45 ∷ []
or_dash_none n [] none e = refl
or_dash_none n (x ∷ xs) none e = absurd (omega arith)

-- five parts, one written behind the other
pub whole_text : (before o1 o2 o3 o4 o5 : List ℕ) (n1 n2 n3 n4 n5 : ℕ) (p a l x f : List ℕ) → take n1 o1 ≡ take 0 before ++ p → take n2 o2 ≡ take n1 o1 ++ a → take n3 o3 ≡ take n2 o2 ++ l → take n4 o4 ≡ take n3 o3 ++ x → take n5 o5 ≡ take n4 o4 ++ f → take n5 o5 ≡ (((p ++ a) ++ l) ++ x) ++ f
whole_text before o1 o2 o3 o4 o5 n1 n2 n3 n4 n5 p a l x f e1 e2 e3 e4 e5 = cc

pub whole_length : (n1 n2 n3 n4 n5 : ℕ) (p a l x f : List ℕ) → n1 ≡ 0 + length p → n2 ≡ n1 + length a → n3 ≡ n2 + length l → n4 ≡ n3 + length x → n5 ≡ n4 + length f → n5 ≡ length ((((p ++ a) ++ l) ++ x) ++ f)
whole_length n1 n2 n3 n4 n5 p a l x f e1 e2 e3 e4 e5 = simp length-append (omega arith)

pub whole_rest : (before o1 o2 o3 o4 o5 : List ℕ) (n1 n2 n3 n4 n5 : ℕ) → n1 ≤ n2 → n2 ≤ n3 → n3 ≤ n4 → n4 ≤ n5 → drop n1 o1 ≡ drop n1 before → drop n2 o2 ≡ drop n2 o1 → drop n3 o3 ≡ drop n3 o2 → drop n4 o4 ≡ drop n4 o3 → drop n5 o5 ≡ drop n5 o4 → drop n5 o5 ≡ drop n5 before
whole_rest before o1 o2 o3 o4 o5 n1 n2 n3 n4 n5 l1 l2 l3 l4 e1 e2 e3 e4 e5 =
    e5
    ∙ drop_further n4 n5 o4 o3 l4 e4
    ∙ drop_further n3 n5 o3 o2 (omega arith) e3
    ∙ drop_further n2 n5 o2 o1 (omega arith) e2
    ∙ drop_further n1 n5 o1 before (omega arith) e1

pub take_dash : (xs : List ℕ) → 0 < length xs → take 1 (set xs 0 45) ≡ 45 ∷ []
take_dash [] some = absurd (omega arith)
take_dash (x ∷ xs) some = refl
