-- Reading items one after the other, as a loop does.
use Rattle.std.proofs.Common.{◌≡◌, ℕ, suc, ◌-◌, ◌+◌, ◌≤◌, ◌<◌, List, [], ◌∷◌, ◌++◌, Option, Some, None, refl, sym, ap, ◌∙◌, append_assoc, arith}
use Rattle.std.proofs.lemmas.List.{append-nil}
use Rattle.cs_codec.specs.Fields.{◌>>=◌, Reading, items_at}

-- what was read before, and what is still read
abbrev pub with_front : {X : Type 0} → List X → Option (List X × List ℕ) → Option (List X × List ℕ)
with_front front read = read >>= λ r. Some (front ++ r.0, r.1)

regroup : {X : Type 0} (front : List X) (x : X) (read : Option (List X × List ℕ))
    → with_front front (read >>= λ r. Some (x ∷ r.0, r.1)) ≡ with_front (front ++ x ∷ []) read
regroup front x None = refl
regroup {X} front x (Some r) = ap (λ (ys : List X). Some (ys, r.1)) (simp append_assoc)

pub goes_on : {X : Type 0} (item : Reading X) (front : List X) (count i : ℕ) (bytes : List ℕ) (x : X) (after : List ℕ)
    (total : Option (List X × List ℕ)) → i < count → item bytes ≡ Some (x, after) → with_front front (items_at item (count - i) bytes) ≡ total
    → with_front (front ++ x ∷ []) (items_at item (count - (i + 1)) after) ≡ total
unfolding items_at
goes_on item front count i bytes x after total more is so_far =
    let k : count - i ≡ suc (count - (i + 1)) = omega arith in
    let one : with_front front (items_at item (count - i) bytes) ≡ with_front (front ++ x ∷ []) (items_at item (count - (i + 1)) after)
    = rw (k, is) (regroup front x (items_at item (count - (i + 1)) after)) in
    sym one ∙ so_far

pub ends : {X : Type 0} (item : Reading X) (front : List X) (count i : ℕ) (bytes : List ℕ)
    (total : Option (List X × List ℕ)) → i < count → item bytes ≡ None → with_front front (items_at item (count - i) bytes) ≡ total → total ≡ None
unfolding items_at
ends item front count i bytes total more is so_far =
    let k : count - i ≡ suc (count - (i + 1)) = omega arith in
    let one : with_front front (items_at item (count - i) bytes) ≡ None = rw (k, is) refl in
    sym so_far ∙ one

pub is_done : {X : Type 0} (item : Reading X) (front : List X) (count i : ℕ) (bytes : List ℕ)
    (total : Option (List X × List ℕ)) → count ≤ i → with_front front (items_at item (count - i) bytes) ≡ total → total ≡ Some (front, bytes)
unfolding items_at
is_done {X} item front count i bytes total le so_far =
    let k : count - i ≡ 0 = omega arith in
    let one : with_front front (items_at item (count - i) bytes) ≡ Some (front, bytes) = rw k (ap (λ (ys : List X). Some (ys, bytes)) (append-nil front)) in
    sym so_far ∙ one
