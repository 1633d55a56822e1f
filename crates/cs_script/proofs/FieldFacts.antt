-- What a reading that succeeds tells: its steps, its words, that no word follows, and where the bytes end.
use Rattle.std.proofs.Common.{◌≡◌, ◌+◌, ℕ, Bool, true, false, ◌&&◌, nat_le, List, [], ◌∷◌, length, Option, Some, None, Result, Ok, Err, refl, sym, arith, if◌then◌else◌}
use Rattle.std.proofs.lemmas.Bool.Decides.{nat_tests}
use Rattle.cs_bits.specs.declared.Caps.{Caps}
use Rattle.cs_text.specs.Decimal.{is_decimal, value}
use Rattle.cs_laws.specs.declared.events.Event.{Event}
use Rattle.cs_laws.specs.declared.faults.Kind.{Kind}
use Rattle.cs_laws.specs.declared.faults.Kind.TheVariants as kinds
use Rattle.cs_laws.specs.Fits.{is_built, greatest_end, most_written}
use Rattle.cs_laws.specs.Grammar.{Words, ◌>>=◌, word_in, number_in, set_of, bytes_of, only, ends_in_file}

-- a test that was passed
pub record Passes {A : Type 0} (b : Bool) (x y : A) : Type 0 where
  pub test : b ≡ true
  pub same : y ≡ x

pub passed : {A : Type 0} (b : Bool) (x y : A) (k : Kind) → (if b then Ok x else Err k) ≡ Ok y → Passes b x y
passed true x y k h = record { test = refl; same = cc h }
passed false x y k h = cc h

-- a value that was read, and what follows
pub record Binds {A B : Type 0} (r : Result A Kind) (next : A → Result B Kind) (y : B) : Type 0 where
  pub value : A
  pub is : r ≡ Ok value
  pub rest : next value ≡ Ok y

pub binds : {A B : Type 0} (r : Result A Kind) (next : A → Result B Kind) (y : B) → (r >>= next) ≡ Ok y → Binds r next y
binds (Ok x) next y h = record { value = x; is = refl; rest = h }
binds (Err k) next y h = cc h

-- the word at a place, and what is read from it
pub record HasWord {A : Type 0} (read : List ℕ → Result A Kind) (o : Option (List ℕ)) (x : A) : Type 0 where
  pub word : List ℕ
  pub is : o ≡ Some word
  pub reads : read word ≡ Ok x

pub word_is : {A : Type 0} (read : List ℕ → Result A Kind) (o : Option (List ℕ)) (x : A) → word_in read o ≡ Ok x → HasWord read o x
word_is read None x h = cc h
word_is read (Some w) x h = record { word = w; is = refl; reads = h }

-- a word that is a number in a range
pub record IsNumber (low high : ℕ) (w : List ℕ) (n : ℕ) : Type 0 where
  pub decimal : is_decimal w ≡ true
  pub same : value w ≡ n
  pub range : (nat_le low n && nat_le n high) ≡ true

number_by : (d : Bool) (low high v n : ℕ) → (if d then (if nat_le low v && nat_le v high then Ok v else Err kinds.Range) else Err kinds.Number) ≡ Ok n
    → (d ≡ true) × (v ≡ n) × ((nat_le low n && nat_le n high) ≡ true)
number_by true low high v n h =
    let p = passed (nat_le low v && nat_le v high) v n kinds.Range h in
    (refl, sym p.same, rw p.same p.test)
number_by false low high v n h = cc h

pub number_is : (low high : ℕ) (w : List ℕ) (n : ℕ) → number_in low high w ≡ Ok n → IsNumber low high w n
number_is low high w n h =
    let p = number_by (is_decimal w) low high (value w) n h in
    record { decimal = p.0; same = p.1; range = p.2 }

-- a set that was read
pub set_is : (o : Option Caps) (c : Caps) → set_of o ≡ Ok c → (o ≡ Some c) × (is_built c ≡ true)
set_is None c h = cc h
set_is (Some d) c h =
    let p = passed (is_built d) d c kinds.NotBuilt h in
    (rw p.same refl, rw p.same p.test)

-- the bytes of a write that were read
pub record IsWritten (o : Option (List ℕ)) (bs : List ℕ) : Type 0 where
  pub is : o ≡ Some bs
  pub count : (nat_le 1 (length bs) && nat_le (length bs) most_written) ≡ true

pub bytes_are : (o : Option (List ℕ)) (bs : List ℕ) → bytes_of o ≡ Ok bs → IsWritten o bs
bytes_are None bs h = cc h
bytes_are (Some []) bs h = cc h
bytes_are (Some (c ∷ cs)) bs h =
    let p = passed (nat_le (length (c ∷ cs)) most_written) (c ∷ cs) bs kinds.Range h in
    rw p.same (record { is = refl; count = grind (arith, nat_tests, p.test) })

-- no word follows
pub only_is : (n : ℕ) (e d : Event) (ws : Words) → only n e ws ≡ Ok d → Passes (nat_le (length ws) n) e d
only_is n e d ws h = passed (nat_le (length ws) n) e d kinds.Extra h

-- the bytes end where a file may end
pub ends_is : (off count : ℕ) (e d : Event) → ends_in_file off count e ≡ Ok d → Passes (nat_le (off + count) greatest_end) e d
ends_is off count e d h = passed (nat_le (off + count) greatest_end) e d kinds.Range h
