-- Each byte of a word is above the space, so that splitting a line at its spaces gives its words.
use Rattle.std.proofs.Common.{◌≡◌, ◌∙◌, ap, refl, ℕ, ◌/◌, ◌%◌, ◌^◌, ◌<◌, ◌==◌, Bool, true, false, cond, ◌&&◌, List, [], ◌∷◌, ◌++◌, length, map, filter, codes, decimal, arith, nat_lt, nat_le, lit<, ◌≢◌}
use Rattle.std.specs.Prelude.{All}
use Rattle.std.specs.List.{join_with_byte, list_all}
use Rattle.std.specs.Str.{all_ascii_digits}
use Rattle.std.proofs.lemmas.Bool.{and_parts, ltb-true}
use Rattle.std.proofs.lemmas.Bool.Decides.{nat_tests}
use Rattle.std.proofs.lemmas.Fmt.{digits_decimal}
use Rattle.std.proofs.lemmas.List.Elements.{All-nil, All-cons, All-append, All-weaker}
use Rattle.std.proofs.lemmas.List.Splits.{slice_split_none, slice_split_at}
use Rattle.cs_ids.specs.Names.{is_letter_or_digit, is_name_byte, is_name}
use Rattle.cs_bits.specs.declared.Caps.{Caps}
use Rattle.cs_bits.specs.Bits.{Letters, covers, letters_of, behind, or_dash, spelled, caps_text, pin_letters, auth_letters, link_letters, xattr_letters, file_letters}
use Rattle.cs_text.specs.Hex.{hex_text, hex_digit}
use Rattle.cs_text.proofs.Decimals.{own}
use Rattle.cs_laws.specs.declared.events.RefName.{RefName}
use Rattle.cs_laws.specs.declared.events.RefName.TheVariants as names
use Rattle.cs_laws.specs.declared.objects.At.{At}
use Rattle.cs_laws.specs.declared.objects.At.TheVariants as at
use Rattle.cs_laws.specs.Grammar.{Words, words_in}
use Rattle.cs_laws.specs.Texts.{name_text, at_text}
use Rattle.cs_script.specs.Spelling.{IsName, IsAt}

-- each byte of the word is above the space
pub record IsVisible (w : List ℕ) : Type 0 where
  pub at : All (λ b. 32 < b) w

pub visible-nil : IsVisible []
visible-nil = record { at = All-nil (λ b. 32 < b) }

pub visible-cons : (b : ℕ) (bs : List ℕ) → 32 < b → IsVisible bs → IsVisible (b ∷ bs)
visible-cons b bs h more = record { at = All-cons (λ b. 32 < b) b bs h more.at }

pub word_visible : (w : List ℕ) → list_all (λ b. nat_lt 32 b) w ≡ true → IsVisible w
word_visible [] h = visible-nil
word_visible (b ∷ bs) h =
    let parts = and_parts (nat_lt 32 b) (list_all (λ x. nat_lt 32 x) bs) h in
    visible-cons b bs (ltb-true 32 b parts.0) (word_visible bs parts.1)

-- ---- splitting

not_equal : (a b : ℕ) → a ≢ b → (a == b) ≡ false
not_equal a b h = grind (arith, nat_tests)

abbrev pub AreVisible : Words → Type 0
AreVisible [] = Unit {0}
AreVisible (w ∷ ws) = IsVisible w × AreVisible ws

-- a word has no space
no_space : (w : List ℕ) → IsVisible w → All (λ b. (b == 32) ≡ false) w
no_space w h = All-weaker (λ b. 32 < b) (λ b. (b == 32) ≡ false) (λ b above. not_equal b 32 (omega arith)) w h.at

-- words with single spaces between them are split into these words
pub words_joined : (w : List ℕ) (ws : Words) → AreVisible (w ∷ ws) → words_in (join_with_byte 32 (w ∷ ws)) ≡ w ∷ ws
words_joined w [] h = slice_split_none (λ b. b == 32) w (no_space w h.0)
words_joined w (v ∷ vs) h =
    slice_split_at (λ b. b == 32) w 32 (join_with_byte 32 (v ∷ vs)) (no_space w h.0) refl ∙ ap (λ x. w ∷ x) (words_joined v vs h.1)

-- words with single spaces between them have no newline
no_newline : (w : List ℕ) → IsVisible w → All (λ b. (b == 10) ≡ false) w
no_newline w h = All-weaker (λ b. 32 < b) (λ b. (b == 10) ≡ false) (λ b above. not_equal b 10 (omega arith)) w h.at

pub one_line : (w : List ℕ) (ws : Words) → AreVisible (w ∷ ws) → All (λ b. (b == 10) ≡ false) (join_with_byte 32 (w ∷ ws))
one_line w [] h = no_newline w h.0
one_line w (v ∷ vs) h =
    All-append (λ b. (b == 10) ≡ false) w (32 ∷ join_with_byte 32 (v ∷ vs)) (no_newline w h.0)
    (All-cons (λ b. (b == 10) ≡ false) 32 (join_with_byte 32 (v ∷ vs)) refl (one_line v vs h.1))

-- ---- numbers

digits_visible : (w : List ℕ) → all_ascii_digits w ≡ true → IsVisible w
digits_visible [] h = visible-nil
digits_visible (c ∷ cs) h = visible-cons c cs (grind (arith, nat_tests)) (digits_visible cs (grind arith))

pub decimal_visible : (n : ℕ) → n < 2 ^ 64 → IsVisible (decimal n)
decimal_visible n small = digits_visible (decimal n) (digits_decimal own n small)

pub name_visible : (r : RefName) → IsName r → IsVisible (name_text r)
name_visible (names.Own n) h = decimal_visible n (omega arith)
name_visible (names.Kept n) h = visible-cons 103 (decimal n) (omega arith) (decimal_visible n (omega arith))

pub at_visible : (a : At) → IsAt a → IsVisible (at_text a)
at_visible at.Head h = word_visible (codes "head") refl
at_visible (at.Snap s) h = decimal_visible s (omega arith)

-- ---- names of snapshots and of entries

letter_visible : (c : ℕ) → is_letter_or_digit c ≡ true → 32 < c
letter_visible c h = grind (arith, nat_tests)

name_byte_visible : (c : ℕ) → is_name_byte c ≡ true → 32 < c
name_byte_visible c h = grind (arith, nat_tests)

name_bytes_visible : (cs : List ℕ) → list_all is_name_byte cs ≡ true → IsVisible cs
name_bytes_visible [] h = visible-nil
name_bytes_visible (c ∷ cs) h =
    let parts = and_parts (is_name_byte c) (list_all is_name_byte cs) h in
    visible-cons c cs (name_byte_visible c parts.0) (name_bytes_visible cs parts.1)

pub entry_name_visible : (n : List ℕ) → is_name n ≡ true → IsVisible n
entry_name_visible [] h = visible-nil
entry_name_visible (c ∷ cs) h =
    let parts = and_parts (is_letter_or_digit c) (nat_le (length cs) 31 && list_all is_name_byte cs) h in
    visible-cons c cs (letter_visible c parts.0) (name_bytes_visible cs (and_parts (nat_le (length cs) 31) (list_all is_name_byte cs) parts.1).1)

-- ---- bytes

digit_visible : (n : ℕ) → 32 < hex_digit n
digit_visible n = grind (arith, nat_tests)

pub hex_visible : (bs : List ℕ) → IsVisible (hex_text bs)
hex_visible [] = visible-nil
hex_visible (b ∷ bs) =
    visible-cons _ _ (digit_visible (b / 16)) (visible-cons _ _ (digit_visible (b % 16)) (hex_visible bs))

-- ---- sets

pub visible-append : (v w : List ℕ) → IsVisible v → IsVisible w → IsVisible (v ++ w)
visible-append v w h k = record { at = All-append (λ b. 32 < b) v w h.at k.at }

-- each letter is above the space
abbrev AreVisibleLetters : Letters → Type 0
AreVisibleLetters [] = Unit {0}
AreVisibleLetters (l ∷ ls) = (32 < l.0) × AreVisibleLetters ls

-- a letter that may be kept, in front of those that were
kept_visible : (p : ℕ × Caps → Bool) (l : ℕ × Caps) (ls : Letters) (b : Bool) → 32 < l.0 → IsVisible (map (λ (m : ℕ × Caps). m.0) (filter p ls))
    → IsVisible (map (λ (m : ℕ × Caps). m.0) (cond b (l ∷ filter p ls) (filter p ls)))
kept_visible p l ls true here more = visible-cons l.0 _ here more
kept_visible p l ls false here more = more

letters_visible : (c : Caps) (ls : Letters) → AreVisibleLetters ls → IsVisible (letters_of c ls)
letters_visible c [] h = visible-nil
letters_visible c (l ∷ ls) h = kept_visible (λ m. covers c m.1) l ls (covers c l.1) h.0 (letters_visible c ls h.1)

behind_visible : (capital : ℕ) (ls : List ℕ) → 32 < capital → IsVisible ls → IsVisible (behind (capital ∷ []) ls)
behind_visible capital [] here more = visible-nil
behind_visible capital (l ∷ ls) here more = visible-cons capital (l ∷ ls) here more

dash_visible : (w : List ℕ) → IsVisible w → IsVisible (or_dash w)
dash_visible [] h = visible-cons 45 [] (omega arith) visible-nil
dash_visible (b ∷ bs) h = h

spelled_visible : (c : Caps) → IsVisible (spelled c)
spelled_visible c =
    let two : AreVisibleLetters auth_letters = (lit< tt, (lit< tt, tt)) in
    let eight : AreVisibleLetters file_letters = (lit< tt, (lit< tt, (lit< tt, (lit< tt, (lit< tt, (lit< tt, (lit< tt, (lit< tt, tt)))))))) in
    visible-append _ _
    (visible-append _ _
    (visible-append _ _
    (visible-append _ _ (letters_visible c pin_letters (lit< tt, tt))
    (behind_visible 65 (letters_of c auth_letters) (lit< tt) (letters_visible c auth_letters two)))
    (behind_visible 76 (letters_of c link_letters) (lit< tt) (letters_visible c link_letters two)))
    (behind_visible 88 (letters_of c xattr_letters) (lit< tt) (letters_visible c xattr_letters two)))
    (behind_visible 70 (letters_of c file_letters) (lit< tt) (letters_visible c file_letters eight))

pub caps_visible : (c : Caps) → IsVisible (caps_text c)
unfolding caps_text
caps_visible c = dash_visible (spelled c) (spelled_visible c)
