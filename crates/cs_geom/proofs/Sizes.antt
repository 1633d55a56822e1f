-- The size of a range's first piece.
use Rattle.std.proofs.Common.{◌≡◌, ℕ, ◌+◌, ◌-◌, ◌*◌, ◌/◌, ◌%◌, ◌<◌, ◌≤◌, ◌∙◌, ap, inl, inr, arith}
use Rattle.std.proofs.Math.Nat.{div-add-mod, lt_of_mul-lt-mul_left, le_of_mul-le-mul_left}
use Rattle.std.proofs.lemmas.Nat.{mod_below, mod-mul-add, same_from_place}
use Rattle.std.proofs.lemmas.Bool.{cases_lt}
use Rattle.cs_geom.specs.Cuts.{first_size}

-- the first piece has a byte if the range has one
pub first_size-pos : (unit off len : ℕ) → 0 < unit → 0 < len → 0 < first_size unit off len
first_size-pos unit off len pos some = omega (arith, mod_below off unit pos)

-- it ends within the unit in which it begins
pub first_size-within : (unit off len : ℕ) → 0 < unit → off + first_size unit off len ≤ unit * (off / unit + 1)
first_size-within unit off len pos = omega (arith, mod_below off unit pos, div-add-mod off unit)

-- where it is not the whole range, it ends with that unit
pub first_size-late : (unit off len : ℕ) → 0 < unit → first_size unit off len < len → off + first_size unit off len ≡ unit * (off / unit + 1)
first_size-late unit off len pos less = omega (arith, mod_below off unit pos, div-add-mod off unit)

-- the unit of an offset is its quotient
pub unit_is : (unit off k : ℕ) → unit * k ≤ off → off < unit * (k + 1) → k ≡ off / unit
unit_is unit off k low high =
    let pos : 0 < unit = omega arith
    in (same_from_place k (off - unit * k) (off / unit) (off % unit) unit (omega arith) (mod_below off unit pos) (omega (arith, div-add-mod off unit))).0

-- a later end of a unit that is not past the end of unit k is the end of unit k
end_is : (unit off end k j : ℕ) → unit * k ≤ off → off < end → end ≤ unit * (k + 1) → end ≡ unit * j → end ≡ unit * (k + 1)
end_is unit off end k j low some high late =
    let pos : 0 < unit = omega arith in
    let above : k < j = lt_of_mul-lt-mul_left unit (omega arith) in
    let below : j ≤ k + 1 = le_of_mul-le-mul_left (omega arith) pos in
    let same : j ≡ k + 1 = omega arith
    in omega (arith, ap (λ n. unit * n) same)

-- a size that stays within one unit, and ends before the range does only where a unit ends, is the first piece's
pub size_is : (unit off len size k : ℕ) → 0 < size → size ≤ len → unit * k ≤ off → off + size ≤ unit * (k + 1) → (size < len → (j : ℕ) × (off + size ≡ unit * j)) → size ≡ first_size unit off len
size_is unit off len size k some fits low high late =
    let pos : 0 < unit = omega arith in
    let rest : off % unit < unit = mod_below off unit pos in
    let parts : unit * (off / unit) + off % unit ≡ off = div-add-mod off unit in
    let products : unit * k ≡ unit * (off / unit) = ap (λ n. unit * n) (unit_is unit off k low (omega arith)) in
    elim (cases_lt size len) [
      | inl less ↦ let ends : off + size ≡ unit * (k + 1) = end_is unit off (off + size) k (late less).0 low (omega arith) high (late less).1 in omega arith
      | inr whole ↦ omega arith
    ]

-- what lies behind a unit begins a unit
pub end-mod : (unit off : ℕ) → 0 < unit → (off + (unit - off % unit)) % unit ≡ 0
end-mod unit off pos =
    let ends : off + (unit - off % unit) ≡ (off / unit + 1) * unit + 0 = omega (arith, mod_below off unit pos, div-add-mod off unit)
    in ap (λ n. n % unit) ends ∙ mod-mul-add (off / unit + 1) unit 0 pos
