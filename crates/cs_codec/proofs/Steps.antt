-- Steps of a reading.
use Rattle.std.proofs.Common.{◌≡◌, refl, sym, ap, ◌∙◌, ℕ, suc, Bool, true, false, cond, List, [], ◌∷◌, ◌++◌, Option, Some, None, append_assoc}
use Rattle.std.specs.Prelude.{◌&&◌}
use Rattle.cs_codec.specs.Fields.{◌>>=◌, made}
use Rattle.cs_codec.specs.Codecs.{IsBytes}

-- what is behind bytes is bytes
pub bytes_behind : (xs ys : List ℕ) → IsBytes (xs ++ ys) → IsBytes ys
bytes_behind [] ys all = all
bytes_behind (x ∷ xs) ys all = bytes_behind xs ys (λ i. all (suc i))

-- what is behind the bytes of one field begins with those of the next
pub behind_front : (a b rest xs mid : List ℕ) → xs ≡ a ++ mid → mid ≡ b ++ rest → xs ≡ (a ++ b) ++ rest
behind_front a b rest xs mid first second = first ∙ (ap (λ ys. a ++ ys) second ∙ sym (append_assoc a b rest))

-- the value of a step that gave one
pub bind_some : {A B : Type 0} (o : Option A) (f : A → Option B) (y : B) → (o >>= f) ≡ Some y → (x : A) × (o ≡ Some x) × (f x ≡ Some y)
bind_some None f y is = absurd cc
bind_some (Some x) f y is = (x, refl, is)

-- a test that was met
pub test_met : {A : Type 0} (b : Bool) (x y : A) → cond b (Some x) None ≡ Some y → (b ≡ true) × (x ≡ y)
test_met true x y is = (refl, cc)
test_met false x y is = absurd cc

-- a step that gave a value
abbrev pub done : {A : Type 0} → A → Option A
done x = Some x

pub some_is : {A : Type 0} (x y : A) → done x ≡ done y → x ≡ y
some_is x y is = cc

pub both_true : (a b : Bool) → a ≡ true → b ≡ true → (a && b) ≡ true
both_true a b x y = rw (x, y) refl

-- what was read and made into a value
pub made_some : {X Y : Type 0} (f : X → Y) (read : Option (X × List ℕ)) (y : Y) (rest : List ℕ) → made f read ≡ Some (y, rest)
    → (x : X) × (read ≡ Some (x, rest)) × (f x ≡ y)
made_some f None y rest is = absurd cc
made_some {X} {Y} f (Some p) y rest is =
    let parts : (f p.0, p.1) ≡ (y, rest) = some_is {A = Y × List ℕ} (f p.0, p.1) (y, rest) is in
    let behind : p.1 ≡ rest = ap (λ (q : Y × List ℕ). q.1) parts in
    let value : f p.0 ≡ y = ap (λ (q : Y × List ℕ). q.0) parts in
    (p.0, ap (λ (zs : List ℕ). done {A = X × List ℕ} (p.0, zs)) behind, value)
