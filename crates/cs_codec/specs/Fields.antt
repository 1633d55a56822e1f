-- Fields: how a value is spelled, and what reading it from the left gives: the value and the bytes behind it, or None.
use Rattle.std.specs.Prelude.{◌≡◌, ℕ, zero, suc, ◌==◌, ◌&&◌, nat_le, Bool, true, List, [], ◌∷◌, ◌++◌, length, take, drop, Option, Some, None, if◌then◌else◌, Result, Ok, Err}
use Rattle.std.specs.List.{list_all, flat_map}
use Rattle.cs_ids.specs.Names.{is_name}
use Rattle.byteorder.specs.Endian.{little_bytes, little_number}

abbrev pub Reading : Type 0 → Type 0
Reading X = List ℕ → Option (X × List ℕ)

infixl 10 ◌>>=◌
abbrev pub ◌>>=◌ : {A B : Type 0} → Option A → (A → Option B) → Option B
None >>= f = None
(Some x) >>= f = f x

-- what a call answered, with the bytes that it left, is what reading gives
abbrev pub Reads : {X : Type 0} → Option X → List ℕ → Option (X × List ℕ) → Type 0
Reads None left read = read ≡ None
Reads (Some x) left read = read ≡ Some (x, left)

-- the same, unless memory runs out
abbrev pub GivesField : {X E : Type 0} → Result (Option X) E → List ℕ → Option (X × List ℕ) → Type 0
GivesField (Ok o) left read = Reads o left read
GivesField (Err e) left read = Unit {0}

-- a value that is made of what was read
abbrev pub made : {X Y : Type 0} → (X → Y) → Option (X × List ℕ) → Option (Y × List ℕ)
made f read = read >>= λ p. Some (f p.0, p.1)

-- a value that passes a test
abbrev pub tested : {X : Type 0} → (X → Bool) → Reading X → Reading X
tested test read xs = read xs >>= λ p. (if test p.0 then Some p else None)

-- two fields, one behind the other
abbrev pub both : {X Y : Type 0} → Reading X → Reading Y → Reading (X × Y)
both a b xs = a xs >>= λ p. (b p.1 >>= λ q. Some ((p.0, q.0), q.1))

-- what was read, where no byte is left
abbrev pub whole : {X : Type 0} → Option (X × List ℕ) → Option X
whole read = read >>= λ p. (if length p.1 == 0 then Some p.0 else None)

-- Numbers: this many bytes, the lowest first, of one that is in a range.

abbrev pub is_in : ℕ → ℕ → ℕ → Bool
is_in low high n = nat_le low n && nat_le n high

unfoldable pub number_bytes : ℕ → ℕ → List ℕ
number_bytes width n = little_bytes width n

abbrev pub number_at : ℕ → ℕ → ℕ → Reading ℕ
number_at width low high xs =
    if nat_le width (length xs) && is_in low high (little_number width xs) then Some (little_number width xs, drop width xs) else None

-- Flags: 1 or 0.

abbrev pub flag_bytes : Bool → List ℕ
flag_bytes b = number_bytes 1 (if b then 1 else 0)

abbrev pub flag_at : Reading Bool
flag_at xs = made (λ n. n == 1) (number_at 1 0 1 xs)

-- Inodes that may be missing: 0 stands for none.

abbrev pub optional_bytes : Option ℕ → List ℕ
optional_bytes None = number_bytes 8 0
optional_bytes (Some n) = number_bytes 8 n

abbrev pub optional_fits : Option ℕ → Bool
optional_fits None = true
optional_fits (Some n) = is_in 1 99999 n

abbrev pub some_above_0 : ℕ → Option ℕ
some_above_0 zero = None
some_above_0 (suc n) = Some (suc n)

abbrev pub optional_at : Reading (Option ℕ)
optional_at xs = made some_above_0 (number_at 8 0 99999 xs)

-- Names: one byte of length, and that many bytes.

abbrev pub name_bytes : List ℕ → List ℕ
name_bytes name = number_bytes 1 (length name) ++ name

abbrev pub text_at : ℕ → Reading (List ℕ)
text_at n xs = if nat_le n (length xs) && is_name (take n xs) then Some (take n xs, drop n xs) else None

unfoldable pub name_at : Reading (List ℕ)
name_at xs = number_at 1 1 32 xs >>= λ n. text_at n.0 n.1

-- Lists: two bytes of count, and that many items.

abbrev pub list_bytes : {X : Type 0} → (X → List ℕ) → List X → List ℕ
list_bytes bytes items = number_bytes 2 (length items) ++ flat_map bytes items

abbrev pub list_fits : {X : Type 0} → (X → Bool) → List X → Bool
list_fits fits items = nat_le (length items) 65535 && list_all fits items

unfoldable pub items_at : {X : Type 0} → Reading X → ℕ → Reading (List X)
items_at item zero xs = Some ([], xs)
items_at item (suc n) xs = item xs >>= λ x. (items_at item n x.1 >>= λ r. Some (x.0 ∷ r.0, r.1))

unfoldable pub list_at : {X : Type 0} → Reading X → Reading (List X)
list_at item xs = number_at 2 0 65535 xs >>= λ n. items_at item n.0 n.1

-- One of several kinds, behind a byte that tells it.

abbrev pub tagged : {Y : Type 0} → ℕ → ℕ → (ℕ → Reading Y) → Reading Y
tagged low high choose xs = number_at 1 low high xs >>= λ n. choose n.0 n.1
