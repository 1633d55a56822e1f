-- A number is spelled by its own bytes, whatever is behind them.
use Rattle.std.proofs.Common.{◌/◌, ◌%◌, ◌≡◌, ℕ, zero, suc, ◌^◌, ◌<◌, ◌≤◌, List, [], ◌∷◌, length, take, slice_index, refl, sym, ap, ◌∙◌, arith}
use Rattle.std.proofs.Math.Nat.{div-div-eq-div-mul, div-one, pow-suc}
use Rattle.std.specs.Int.{byte_at, bytes_low_first}
use Rattle.byteorder.specs.Endian.{little_from, little_bytes, little_number}
use Rattle.byteorder.specs.Numbers.{little_from-cons, little_from-take}

pub number_of_front : (width : ℕ) (xs : List ℕ) → little_number width (take width xs) ≡ little_number width xs
number_of_front width xs = little_from-take 0 width width xs (omega arith)

-- a byte of a number, by its place
byte_at-pow : (k x : ℕ) → byte_at k x ≡ x / 256 ^ k % 256
byte_at-pow zero x = ap (λ (y : ℕ). y % 256) (sym (div-one x))
byte_at-pow (suc k) x = refl

-- what is left of x above its first j bytes spells these bytes
own_from : (k j x : ℕ) (xs : List ℕ) → k ≤ length xs → ((i : ℕ) → slice_index xs i < 256) → x / 256 ^ j ≡ little_from 0 k xs
    → bytes_low_first j k x ≡ take k xs
own_from zero j x xs room small is = refl
own_from (suc k) j x [] room small is = absurd (omega arith)
own_from (suc k) j x (a ∷ bs) room small is =
    let low : a < 256 = small 0 in
    let moved : little_from 1 k (a ∷ bs) ≡ little_from 0 k bs = little_from-cons 0 k a bs in
    let above : x / 256 ^ suc j ≡ x / 256 ^ j / 256 = ap (λ (p : ℕ). x / p) (pow-suc 256 j) ∙ sym (div-div-eq-div-mul x (256 ^ j) 256) in
    let first : byte_at j x ≡ a = byte_at-pow j x ∙ omega (arith, is, moved) in
    let rest : x / 256 ^ suc j ≡ little_from 0 k bs = above ∙ omega (arith, is, moved) in
    rw first (ap (λ (r : List ℕ). a ∷ r) (own_from k (suc j) x bs (omega arith) (λ i. small (suc i)) rest))

pub own : (n : ℕ) (xs : List ℕ) → n ≤ length xs → ((i : ℕ) → slice_index xs i < 256) → little_bytes n (little_number n xs) ≡ take n xs
own n xs room small = own_from n 0 (little_number n xs) xs room small (div-one (little_number n xs))
