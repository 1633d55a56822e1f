-- What a reading of all bytes tells.
use Rattle.std.proofs.Common.{◌≡◌, refl, sym, ap, ◌∙◌, ℕ, Bool, cond, List, [], ◌∷◌, length, Option, Some, None, arith}
use Rattle.std.specs.Prelude.{◌==◌}
use Rattle.std.proofs.lemmas.Bool.{eqb-true}
use Rattle.std.proofs.lemmas.List.{append-nil}
use Rattle.cs_codec.specs.Codecs.{Codec, IsBytes, IsSpelled, IsUnspelled}
use Rattle.cs_codec.specs.Fields.{Reading, whole}
use Rattle.cs_codec.proofs.Steps.{bind_some, done, test_met}

none_left : (xs : List ℕ) → length xs ≡ 0 → xs ≡ []
none_left [] is = refl
none_left (x ∷ xs) is = absurd (omega arith)

pair_is : {X : Type 0} (read : Option (X × List ℕ)) (p : X × List ℕ) (x : X) → read ≡ Some p → p.0 ≡ x → p.1 ≡ [] → read ≡ Some (x, [])
pair_is {X} read p x is value left =
    is ∙ (ap (λ (y : X). done {A = X × List ℕ} (y, p.1)) value ∙ ap (λ (ys : List ℕ). done {A = X × List ℕ} (x, ys)) left)

pub spelled : {X : Type 0} {bytes : X → List ℕ} {fits : X → Bool} {read : Reading X} → Codec bytes fits read
    → (b : List ℕ) → IsBytes b → (o : Option X) → o ≡ whole (read b) → IsSpelled bytes fits b o
spelled one b all None is = tt
spelled {X} {bytes} {fits} {read} one b all (Some x) is =
    let p = bind_some (read b) (λ p. cond (length p.1 == 0) (Some p.0) None) x (sym is) in
    let end = test_met (length p.0.1 == 0) p.0.0 x p.2 in
    let left : p.0.1 ≡ [] = none_left p.0.1 (eqb-true (length p.0.1) 0 end.0) in
    let owned = one.owns b x [] all (pair_is (read b) p.0 x p.1 end.1 left) in
    (owned.0 ∙ append-nil (bytes x), owned.1)

pub unspelled : {X : Type 0} {bytes : X → List ℕ} {fits : X → Bool} {read : Reading X} → Codec bytes fits read
    → (b : List ℕ) (o : Option X) → o ≡ whole (read b) → IsUnspelled bytes fits b o
unspelled one b (Some x) is = tt
unspelled {X} {bytes} {fits} {read} one b None is = λ x fine so.
    let again : read b ≡ Some (x, []) = ap read (so ∙ sym (append-nil (bytes x))) ∙ one.back x [] fine in
    let found : whole (read b) ≡ Some x = ap whole again in
    absurd cc
