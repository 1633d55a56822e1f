-- A word that is read is the one text of its value.
use Rattle.std.proofs.Common.{◌≡◌, ◌∙◌, sym, ap, ℕ, ◌+◌, ◌*◌, ◌^◌, ◌<◌, ◌==◌, Bool, true, false, cond, ◌&&◌, nat_le, List, [], ◌∷◌, length, codes, decimal, arith, refl, Option, Some, None, Ok, if◌then◌else◌}
use Rattle.std.specs.Prelude.{option_map}
use Rattle.std.specs.Str.{bytes_eq}
use Rattle.std.proofs.lemmas.Bool.{and_parts, leb-true, eqb-true}
use Rattle.std.proofs.lemmas.Bool.Decides.{nat_tests}
use Rattle.std.proofs.lemmas.List.Elements.{All-nil, All-cons}
use Rattle.std.proofs.lemmas.Slice.Eq.{bytes_eq-Decides}
use Rattle.cs_ids.specs.Names.{is_name}
use Rattle.cs_ids.specs.Ranges.{IsIn}
use Rattle.cs_bits.specs.declared.Caps.{Caps}
use Rattle.cs_bits.specs.Bits.{caps_text, caps_of}
use Rattle.cs_bits.proofs.Reading.{read_is_text}
use Rattle.cs_text.specs.declared.numbers.Dec.TheVariants as dec
use Rattle.cs_text.specs.Hex.{hex_text, hex_value, is_hex_digit, bytes_of_hex}
use Rattle.cs_text.proofs.Decimals.{dec_of-small, decimal-read}
use Rattle.cs_text.proofs.HexPairs.{hex_text-bytes}
use Rattle.cs_laws.specs.declared.events.RefName.{RefName}
use Rattle.cs_laws.specs.declared.events.RefName.TheVariants as names
use Rattle.cs_laws.specs.declared.objects.At.{At}
use Rattle.cs_laws.specs.declared.objects.At.TheVariants as at
use Rattle.cs_laws.specs.declared.faults.Kind.TheVariants as kinds
use Rattle.cs_laws.specs.Fits.{is_built, is_state, most_written}
use Rattle.cs_laws.specs.Grammar.{◌>>=◌, number_in, set_of, name_of, name_in, bytes_of, at_in}
use Rattle.cs_laws.specs.Texts.{name_text, at_text}
use Rattle.cs_script.specs.Spelling.{IsBytes, IsName, IsAt}
use Rattle.cs_script.proofs.FieldFacts.{passed, binds, number_is, set_is, bytes_are}

pub number_is_text : (low high : ℕ) (w : List ℕ) (n : ℕ) → high < 2 ^ 64 → number_in low high w ≡ Ok n → (decimal n ≡ w) × IsIn low high n
number_is_text low high w n small h =
    let i = number_is low high w n h in
    let range = and_parts (nat_le low n) (nat_le n high) i.range in
    let above = leb-true low n range.0 in
    let below = leb-true n high range.1 in
    let same = i.same in
    (decimal-read w n (dec_of-small w i.decimal (omega arith) ∙ ap dec.Value same), (above, below))

pub set_is_text : (w : List ℕ) (c : Caps) → set_of (caps_of w) ≡ Ok c → (caps_text c ≡ w) × (is_built c ≡ true)
set_is_text w c h =
    let s = set_is (caps_of w) c h in
    ((read_is_text w c s.0).0, s.1)

-- a name, by whether it begins with a `g`
name_by : (b : Bool) (c : ℕ) (cs : List ℕ) (r : RefName) → (c == 103) ≡ b
    → (if b then (number_in 0 99999 cs >>= λ n. Ok (names.Kept n)) else (number_in 0 99999 (c ∷ cs) >>= λ n. Ok (names.Own n))) ≡ Ok r
    → (name_text r ≡ c ∷ cs) × IsName r
name_by true c cs r g h =
    let n = binds (number_in 0 99999 cs) (λ (n : ℕ). Ok (names.Kept n)) r h in
    let t = number_is_text 0 99999 cs n.value (omega arith) n.is in
    let e : r ≡ names.Kept n.value = cc n.rest in
    let c_is : c ≡ 103 = eqb-true c 103 g in
    rw e (rw c_is (ap (λ x. 103 ∷ x) t.0), t.1)
name_by false c cs r g h =
    let n = binds (number_in 0 99999 (c ∷ cs)) (λ (n : ℕ). Ok (names.Own n)) r h in
    let t = number_is_text 0 99999 (c ∷ cs) n.value (omega arith) n.is in
    let e : r ≡ names.Own n.value = cc n.rest in
    rw e t

pub name_is_text : (w : List ℕ) (r : RefName) → name_of w ≡ Ok r → (name_text r ≡ w) × IsName r
name_is_text [] r h = cc h
name_is_text (c ∷ cs) r h = name_by (c == 103) c cs r refl h

pub entry_name_is_text : (w n : List ℕ) → name_in w ≡ Ok n → (n ≡ w) × (is_name n ≡ true)
entry_name_is_text w n h =
    let p = passed (is_name w) w n kinds.Word h in
    (p.same, rw p.same p.test)

-- a snapshot's number, which counts from 1, or the present, by whether it is the word `head`
at_by : (b : Bool) (w : List ℕ) (a : At) → (b ≡ true → w ≡ codes "head")
    → (if b then Ok at.Head else (number_in 1 99999 w >>= λ s. Ok (at.Snap s))) ≡ Ok a → (at_text a ≡ w) × (IsAt a × (is_state a ≡ true))
at_by true w a head h =
    let e : a ≡ at.Head = cc h in
    rw e (sym (head refl), (tt, refl))
at_by false w a head h =
    let s = binds (number_in 1 99999 w) (λ (s : ℕ). Ok (at.Snap s)) a h in
    let t = number_is_text 1 99999 w s.value (omega arith) s.is in
    let e : a ≡ at.Snap s.value = cc s.rest in
    let from_1 = (and_parts (nat_le 1 s.value) (nat_le s.value 99999) (number_is 1 99999 w s.value s.is).range).0 in
    rw e (t.0, ((omega arith, t.1.1), from_1))

pub at_is_text : (w : List ℕ) (a : At) → at_in w ≡ Ok a → (at_text a ≡ w) × (IsAt a × (is_state a ≡ true))
at_is_text w a h = at_by (bytes_eq w (codes "head")) w a (bytes_eq-Decides w (codes "head")).0 h

hex_value_small : (c : ℕ) → is_hex_digit c ≡ true → hex_value c < 16
hex_value_small c h = grind (arith, nat_tests)

-- two digits make a byte
pair_small : (c d : ℕ) → (is_hex_digit c && is_hex_digit d) ≡ true → hex_value c * 16 + hex_value d < 256
pair_small c d h =
    let parts = and_parts (is_hex_digit c) (is_hex_digit d) h in
    let high = hex_value_small c parts.0 in
    let low = hex_value_small d parts.1 in
    omega arith

bytes_by : (b : Bool) (v : ℕ) (o : Option (List ℕ)) (bs : List ℕ) → (b ≡ true → v < 256) → ((cs : List ℕ) → o ≡ Some cs → IsBytes cs)
    → cond b (option_map (λ cs. v ∷ cs) o) None ≡ Some bs → IsBytes bs
bytes_by false v o bs small more h = cc h
bytes_by true v None bs small more h = cc h
bytes_by true v (Some cs) bs small more h =
    let e : bs ≡ v ∷ cs = cc (sym h) in
    rw e (All-cons (λ b. b < 256) v cs (small refl) (more cs refl))

bytes_small : (w bs : List ℕ) → bytes_of_hex w ≡ Some bs → IsBytes bs
bytes_small [] bs h = let e : bs ≡ [] = cc (sym h) in rw e (All-nil (λ b. b < 256))
bytes_small (c ∷ []) bs h = cc h
bytes_small (c ∷ d ∷ cs) bs h =
    bytes_by (is_hex_digit c && is_hex_digit d) (hex_value c * 16 + hex_value d) (bytes_of_hex cs) bs (pair_small c d) (λ rest e. bytes_small cs rest e) h

pub bytes_is_text : (w bs : List ℕ) → bytes_of (bytes_of_hex w) ≡ Ok bs
    → (hex_text bs ≡ w) × (IsBytes bs × ((nat_le 1 (length bs) && nat_le (length bs) most_written) ≡ true))
bytes_is_text w bs h =
    let t = bytes_are (bytes_of_hex w) bs h in
    (hex_text-bytes w bs t.is, (bytes_small w bs t.is, t.count))
