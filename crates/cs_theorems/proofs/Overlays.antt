-- Bytes that lie over others: where they show, and what a run of them shows when it is cut in two.
use Rattle.std.proofs.Common.{◌≡◌, sym, ap, ◌∙◌, ℕ, ◌+◌, ◌-◌, ◌<◌, ◌≤◌, ◌&&◌, nat_lt, nat_le, length, get_or, take, drop, List, [], arith, ⊎_elim}
use Rattle.std.proofs.lemmas.Bool.{cond-true, cond-false, and_from, and_left, and_right, lt-ltb, le-ltb, le-leb, lt-leb, cases_lt}
use Rattle.std.proofs.lemmas.List.{get_or-take, get_or-drop, length-take, length-drop}
use Rattle.cs_laws.specs.Image.{byte_over}

pub over_at : (off : ℕ) (bytes : List ℕ) (i below : ℕ) → off ≤ i → i < off + length bytes → byte_over off bytes i below ≡ get_or bytes (i - off) 0
over_at off bytes i below low up =
    cond-true (nat_le off i && nat_lt i (off + length bytes)) (get_or bytes (i - off) 0) below
    (and_from (nat_le off i) (nat_lt i (off + length bytes)) (le-leb off i low) (lt-ltb i (off + length bytes) up))

pub over_before : (off : ℕ) (bytes : List ℕ) (i below : ℕ) → i < off → byte_over off bytes i below ≡ below
over_before off bytes i below early =
    cond-false (nat_le off i && nat_lt i (off + length bytes)) (get_or bytes (i - off) 0) below
    (and_left (nat_le off i) (nat_lt i (off + length bytes)) (lt-leb off i early))

pub over_behind : (off : ℕ) (bytes : List ℕ) (i below : ℕ) → off + length bytes ≤ i → byte_over off bytes i below ≡ below
over_behind off bytes i below late =
    cond-false (nat_le off i && nat_lt i (off + length bytes)) (get_or bytes (i - off) 0) below
    (and_right (nat_le off i) (nat_lt i (off + length bytes)) (le-ltb i (off + length bytes) late))

-- moved by a number of places
pub over_moved : (off k : ℕ) (bytes : List ℕ) (i below : ℕ) → byte_over (off + k) bytes (i + k) below ≡ byte_over off bytes i below
over_moved off k bytes i below =
    ⊎_elim
    (λ early. over_before (off + k) bytes (i + k) below (omega arith) ∙ sym (over_before off bytes i below early))
    (λ low. ⊎_elim
    (λ up. over_at (off + k) bytes (i + k) below (omega arith) (omega arith)
    ∙ (ap (λ n. get_or bytes n 0) (omega arith) ∙ sym (over_at off bytes i below low up)))
    (λ late. over_behind (off + k) bytes (i + k) below (omega arith) ∙ sym (over_behind off bytes i below late))
    (cases_lt i (off + length bytes)))
    (cases_lt i off)

-- no bytes
pub over_none : (off i below : ℕ) → byte_over off [] i below ≡ below
over_none off i below =
    ⊎_elim (λ early. over_before off [] i below early) (λ late. over_behind off [] i below (omega arith)) (cases_lt i off)

-- only the first n bytes reach a place before off + n
over_front : (off n : ℕ) (bytes : List ℕ) (i below : ℕ) → i < off + n → byte_over off (take n bytes) i below ≡ byte_over off bytes i below
over_front off n bytes i below near =
    ⊎_elim
    (λ early. over_before off (take n bytes) i below early ∙ sym (over_before off bytes i below early))
    (λ low. ⊎_elim
    (λ up. over_at off (take n bytes) i below low (omega (arith, length-take n bytes))
    ∙ (get_or-take n bytes (i - off) 0 (omega arith) ∙ sym (over_at off bytes i below low up)))
    (λ late. over_behind off (take n bytes) i below (omega (arith, length-take n bytes)) ∙ sym (over_behind off bytes i below late))
    (cases_lt i (off + length bytes)))
    (cases_lt i off)

-- only the others reach a place behind
over_rest : (off n : ℕ) (bytes : List ℕ) (i below : ℕ) → off + n ≤ i → byte_over (off + n) (drop n bytes) i below ≡ byte_over off bytes i below
over_rest off n bytes i below far =
    ⊎_elim
    (λ up. over_at (off + n) (drop n bytes) i below far (omega (arith, length-drop n bytes))
    ∙ (get_or-drop n bytes (i - (off + n)) 0
    ∙ (ap (λ k. get_or bytes k 0) (omega arith) ∙ sym (over_at off bytes i below (omega arith) up))))
    (λ late. over_behind (off + n) (drop n bytes) i below (omega (arith, length-drop n bytes)) ∙ sym (over_behind off bytes i below late))
    (cases_lt i (off + length bytes))

-- the first n bytes and the others are all of them
pub over_cut : (off n : ℕ) (bytes : List ℕ) (i below : ℕ)
    → byte_over (off + n) (drop n bytes) i (byte_over off (take n bytes) i below) ≡ byte_over off bytes i below
over_cut off n bytes i below =
    ⊎_elim
    (λ near. over_before (off + n) (drop n bytes) i (byte_over off (take n bytes) i below) near ∙ over_front off n bytes i below near)
    (λ far. ap (λ b. byte_over (off + n) (drop n bytes) i b) (over_behind off (take n bytes) i below (omega (arith, length-take n bytes)))
    ∙ over_rest off n bytes i below far)
    (cases_lt i (off + n))
