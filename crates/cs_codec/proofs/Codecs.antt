-- Codecs that are made of others.
use Rattle.std.proofs.Common.{◌≡◌, refl, sym, ap, ◌∙◌, subst, ℕ, Bool, true, cond, List, ◌++◌, Option, Some, None, append_assoc}
use Rattle.std.specs.Prelude.{◌&&◌}
use Rattle.std.proofs.lemmas.Bool.{and_parts}
use Rattle.cs_codec.specs.Fields.{◌>>=◌, Reading, made, both, tested}
use Rattle.cs_codec.specs.Codecs.{Codec, IsBytes}
use Rattle.cs_codec.proofs.Steps.{bytes_behind, behind_front, bind_some, test_met, done, some_is, both_true, made_some}

-- two fields, one behind the other
pub both_codec : {X Y : Type 0} {a : X → List ℕ} {b : Y → List ℕ} {f : X → Bool} {g : Y → Bool}
    {r : Reading X} {s : Reading Y}
    → Codec a f r → Codec b g s → Codec {X = X × Y} (λ p. a p.0 ++ b p.1) (λ p. f p.0 && g p.1) (both r s)
both_codec {X} {Y} {a} {b} {f} {g} {r} {s} first second = record {
  back = λ p rest fits.
      let parts = and_parts (f p.0) (g p.1) fits in
      let at : r ((a p.0 ++ b p.1) ++ rest) ≡ Some (p.0, b p.1 ++ rest) = ap r (append_assoc (a p.0) (b p.1) rest) ∙ first.back p.0 (b p.1 ++ rest) parts.0 in
      rw (at, second.back p.1 rest parts.1) refl;
  owns = λ xs p rest all is.
      let one = bind_some (r xs) (λ x. (s x.1 >>= λ y. Some ((x.0, y.0), y.1))) (p, rest) is in
      let x : X × List ℕ = one.0 in
      let two = made_some (λ y. (x.0, y)) (s x.1) p rest one.2 in
      let left = first.owns xs x.0 x.1 all one.1 in
      let right = second.owns x.1 two.0 rest (bytes_behind (a x.0) x.1 (subst IsBytes left.0 all)) two.1 in
      subst (λ (q : X × Y). (xs ≡ (a q.0 ++ b q.1) ++ rest) × ((f q.0 && g q.1) ≡ true)) two.2
      (behind_front (a x.0) (b two.0) rest xs x.1 left.0 right.0, both_true (f x.0) (g two.0) left.1 right.1);
}

-- a value that is made of what was read
pub mapped_codec : {X Y : Type 0} {bytes : X → List ℕ} {fits : X → Bool} {read : Reading X} → Codec bytes fits read
    → (spelled : Y → List ℕ) (fit : Y → Bool) (f : X → Y)
    → ((y : Y) → fit y ≡ true → (x : X) × (fits x ≡ true) × (spelled y ≡ bytes x) × (f x ≡ y))
    → ((x : X) → fits x ≡ true → (spelled (f x) ≡ bytes x) × (fit (f x) ≡ true))
    → Codec spelled fit (λ xs. made f (read xs))
mapped_codec {X} {Y} {bytes} {fits} {read} one spelled fit f from to = record {
  back = λ y rest fine.
      let x = from y fine in
      ap (made f) (ap (λ ys. read (ys ++ rest)) x.2 ∙ one.back x.0 rest x.1) ∙ ap (λ (z : Y). done {A = Y × List ℕ} (z, rest)) x.3;
  owns = λ xs y rest all is.
      let x = made_some f (read xs) y rest is in
      let left = one.owns xs x.0 rest all x.1 in
      let right = to x.0 left.1 in
      subst (λ (z : Y). (xs ≡ spelled z ++ rest) × (fit z ≡ true)) x.2 (left.0 ∙ ap (λ ys. ys ++ rest) (sym right.0), right.1);
}

-- a value that passes a test
pub tested_codec : {X : Type 0} {bytes : X → List ℕ} {fits : X → Bool} {read : Reading X} → Codec bytes fits read
    → (test : X → Bool) → Codec bytes (λ x. fits x && test x) (tested test read)
tested_codec {X} {bytes} {fits} {read} one test = record {
  back = λ x rest fine.
      let parts = and_parts (fits x) (test x) fine in
      ap (λ (o : Option (X × List ℕ)). o >>= λ p. cond (test p.0) (Some p) None) (one.back x rest parts.0) ∙ rw parts.1 refl;
  owns = λ xs x rest all is.
      let first = bind_some (read xs) (λ p. cond (test p.0) (Some p) None) (x, rest) is in
      let met = test_met (test first.0.0) first.0 (x, rest) first.2 in
      let value : first.0.0 ≡ x = ap (λ (q : X × List ℕ). q.0) met.1 in
      let left = one.owns xs x rest all (first.1 ∙ ap (λ (q : X × List ℕ). done {A = X × List ℕ} q) met.1) in
      (left.0, both_true (fits x) (test x) left.1 (subst (λ (y : X). test y ≡ true) value met.0));
}

-- equal bytes spell equal values
pub one_spelling : {X : Type 0} {bytes : X → List ℕ} {fits : X → Bool} {read : Reading X} → Codec bytes fits read
    → (x y : X) (rest more : List ℕ) → fits x ≡ true → fits y ≡ true → bytes x ++ rest ≡ bytes y ++ more → x ≡ y
one_spelling {X} {bytes} {fits} {read} one x y rest more f g is =
    ap (λ (q : X × List ℕ). q.0) (some_is {A = X × List ℕ} (x, rest) (y, more) (sym (one.back x rest f) ∙ (ap read is ∙ one.back y more g)))
