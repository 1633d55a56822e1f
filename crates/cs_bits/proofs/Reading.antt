-- Each set is read from its text, and no other text is read.
use Rattle.std.proofs.Common.{◌≡◌, ◌≢◌, ℕ, ◌^◌, ◌<◌, Bool, true, false, cond, List, [], ◌∷◌, ◌++◌, Option, Some, None, map, filter, find, ◌==◌, codes, refl, sym, ap, subst, ◌∙◌, bytes_eq, append_assoc, append-nil, lit<, IsAscii, IsUtf8, length, get_or, drop, suc, ◌+◌, ◌≤◌, drop-cons, add-one}
use Rattle.std.specs.Option.{option_map_or}
use Rattle.std.proofs.lemmas.List.{drop_all}
use Rattle.std.proofs.lemmas.Slice.Eq.{bytes_eq-Decides}
use Rattle.std.proofs.lemmas.Str.{IsAscii-append, IsUtf8-from_ascii}
use Rattle.std.proofs.lemmas.Str.Ascii.{IsAscii-nil, IsAscii-cons}
use Rattle.cs_bits.specs.declared.Caps.{Caps}
use Rattle.cs_bits.specs.Bits.{Letters, union, meet, covers, no_caps, every_cap, fits, pin_letters, auth_letters, link_letters, xattr_letters, file_letters, letters_of, group_text, behind, or_dash, spelled, caps_text, group_of, cap_of, named, caps_of}
use Rattle.cs_bits.proofs.Members.{covers-meet}
use Rattle.cs_bits.proofs.Algebra.{union_none_left, union_none, union_assoc, meet-union, meet_none, meet_comm, meet_one}

-- ---- a letter

-- a letter is no capital and names one bit in its group, and is ASCII
pub record IsLetter (letters : Letters) (l : ℕ × Caps) : Type 0 where
  pub small : group_of l.0 ≡ None
  pub own : cap_of letters l.0 ≡ l.1
  pub place : ℕ
  pub bit : l.1.0 ≡ 2 ^ place
  pub ascii : l.0 < 128

abbrev pub AreLetters : Letters → Letters → Type 0
AreLetters letters [] = Unit {0}
AreLetters letters (l ∷ ls) = IsLetter letters l × AreLetters letters ls

pub named_letter : (letters : Letters) (byte : ℕ) (rest : List ℕ) → group_of byte ≡ None → named letters (byte ∷ rest) ≡ union (cap_of letters byte) (named letters rest)
named_letter letters byte rest small =
    let P : Option Letters → Type 0 = λ g. elim g as (λ _. Caps) [ Some group ↦ named group rest | None ↦ union (cap_of letters byte) (named letters rest) ] ≡ union (cap_of letters byte) (named letters rest)
    in subst P (sym small) refl

pub named_capital : (letters group : Letters) (byte : ℕ) (rest : List ℕ) → group_of byte ≡ Some group → named letters (byte ∷ rest) ≡ named group rest
named_capital letters group byte rest is =
    let P : Option Letters → Type 0 = λ g. elim g as (λ _. Caps) [ Some group ↦ named group rest | None ↦ union (cap_of letters byte) (named letters rest) ] ≡ named group rest
    in subst P (sym is) refl

-- a step of the reader at a capital, which goes on in its group
pub named_on_capital : (text : List ℕ) (i : ℕ) (so_far after : Caps) (letters next group : Letters) (whole : Caps) → i < length text → group_of (get_or text i 0) ≡ Some group → after ≡ so_far → next ≡ group → union so_far (named letters (drop i text)) ≡ whole → union after (named next (drop (i + 1) text)) ≡ whole
named_on_capital text i so_far after letters next group whole within is after_is next_is same =
    rw (add-one, after_is, next_is)
    (ap (λ s. union so_far s)
    (sym (ap (λ t. named letters t) (drop-cons text i 0 within) ∙ named_capital letters group (get_or text i 0) (drop (suc i) text) is))
    ∙ same)

-- a step at a letter, which adds its capability
pub named_on_letter : (text : List ℕ) (i : ℕ) (so_far after cap : Caps) (letters next : Letters) (whole : Caps) → i < length text → group_of (get_or text i 0) ≡ None → cap ≡ cap_of letters (get_or text i 0) → after ≡ union so_far cap → next ≡ letters → union so_far (named letters (drop i text)) ≡ whole → union after (named next (drop (i + 1) text)) ≡ whole
named_on_letter text i so_far after cap letters next whole within small cap_is after_is next_is same =
    rw (add-one, after_is, next_is, cap_is)
    (union_assoc so_far (cap_of letters (get_or text i 0)) (named letters (drop (suc i) text))
    ∙ ap (λ s. union so_far s)
    (sym (ap (λ t. named letters t) (drop-cons text i 0 within) ∙ named_letter letters (get_or text i 0) (drop (suc i) text) small))
    ∙ same)

-- the end of the text
pub named_at_end : (text : List ℕ) (i : ℕ) (so_far : Caps) (letters : Letters) (whole : Caps) → length text ≤ i → union so_far (named letters (drop i text)) ≡ whole → so_far ≡ whole
named_at_end text i so_far letters whole past same =
    sym (union_none so_far) ∙ ap (λ t. union so_far (named letters t)) (sym (drop_all i text past)) ∙ same

-- ---- a group

-- the capabilities of a group
abbrev pub all_of : Letters → Caps
all_of [] = no_caps
all_of (l ∷ ls) = union l.1 (all_of ls)

read_letter : (c : Caps) (letters : Letters) (l : ℕ × Caps) (ls : Letters) → IsLetter letters l → (rest : List ℕ) → named letters (letters_of c ls ++ rest) ≡ union (meet c (all_of ls)) (named letters rest) → (b : Bool) → covers c l.1 ≡ b → named letters (map (λ (m : ℕ × Caps). m.0) (cond b (l ∷ filter (λ (m : ℕ × Caps). covers c m.1) ls) (filter (λ (m : ℕ × Caps). covers c m.1) ls)) ++ rest) ≡ union (union (meet c l.1) (meet c (all_of ls))) (named letters rest)
read_letter c letters l ls is rest more true held =
    named_letter letters l.0 (letters_of c ls ++ rest) is.small
    ∙ ap (λ x. union x (named letters (letters_of c ls ++ rest))) (is.own ∙ sym ((covers-meet c l.1).0 held))
    ∙ ap (λ s. union (meet c l.1) s) more
    ∙ sym (union_assoc (meet c l.1) (meet c (all_of ls)) (named letters rest))
read_letter c letters l ls is rest more false lacking =
    more
    ∙ ap (λ s. union s (named letters rest))
    (sym (ap (λ s. union s (meet c (all_of ls))) (meet_one c l.1 is.place is.bit lacking) ∙ union_none_left (meet c (all_of ls))))

-- the letters that a set has in a group name what it has of the group
pub read_letters : (c : Caps) (letters ls : Letters) → AreLetters letters ls → (rest : List ℕ) → named letters (letters_of c ls ++ rest) ≡ union (meet c (all_of ls)) (named letters rest)
read_letters c letters [] are rest = sym (union_none_left (named letters rest)) ∙ ap (λ s. union s (named letters rest)) (sym (meet_none c))
read_letters c letters (l ∷ ls) are rest =
    read_letter c letters l ls are.0 rest (read_letters c letters ls are.1 rest) (covers c l.1) refl
    ∙ ap (λ s. union s (named letters rest)) (sym (meet-union c l.1 (all_of ls)))

-- what is read does not depend on the group before
abbrev pub IsFresh : List ℕ → Type 0
IsFresh rest = (one other : Letters) → named one rest ≡ named other rest

no_letters : (c : Caps) (letters : Letters) → AreLetters letters letters → letters_of c letters ≡ [] → meet c (all_of letters) ≡ no_caps
no_letters c letters are none = sym (union_none (meet c (all_of letters))) ∙ sym (read_letters c letters letters are []) ∙ ap (λ t. named letters (t ++ [])) none

pub read_group : (c : Caps) (capital : ℕ) (letters : Letters) → group_of capital ≡ Some letters → AreLetters letters letters → (rest : List ℕ) → IsFresh rest → (before : Letters) → named before (group_text c (capital ∷ []) letters ++ rest) ≡ union (meet c (all_of letters)) (named before rest)
read_group c capital letters is are rest fresh before = go (letters_of c letters) refl
  where
    go : (ls : List ℕ) → letters_of c letters ≡ ls → named before (behind (capital ∷ []) ls ++ rest) ≡ union (meet c (all_of letters)) (named before rest)
    go [] none = sym (union_none_left (named before rest)) ∙ ap (λ s. union s (named before rest)) (sym (no_letters c letters are none))
    go (x ∷ xs) some = named_capital before letters capital (x ∷ xs ++ rest) is
        ∙ ap (λ t. named letters (t ++ rest)) (sym some) ∙ read_letters c letters letters are rest
        ∙ ap (λ s. union (meet c (all_of letters)) s) (fresh letters before)

fresh_group : (c : Caps) (capital : ℕ) (letters : Letters) → group_of capital ≡ Some letters → AreLetters letters letters → (rest : List ℕ) → IsFresh rest → IsFresh (group_text c (capital ∷ []) letters ++ rest)
fresh_group c capital letters is are rest fresh one other =
    read_group c capital letters is are rest fresh one ∙ ap (λ s. union (meet c (all_of letters)) s) (fresh one other)
    ∙ sym (read_group c capital letters is are rest fresh other)

-- ---- the table

pin_are : AreLetters pin_letters pin_letters
pin_are = (record { small = refl; own = refl; place = 0; bit = refl; ascii = lit< tt }, tt)

auth_are : AreLetters auth_letters auth_letters
auth_are = (
  record { small = refl; own = refl; place = 2; bit = refl; ascii = lit< tt },
  (record { small = refl; own = refl; place = 3; bit = refl; ascii = lit< tt }, tt),
)

link_are : AreLetters link_letters link_letters
link_are = (
  record { small = refl; own = refl; place = 4; bit = refl; ascii = lit< tt },
  (record { small = refl; own = refl; place = 5; bit = refl; ascii = lit< tt }, tt),
)

xattr_are : AreLetters xattr_letters xattr_letters
xattr_are = (
  record { small = refl; own = refl; place = 6; bit = refl; ascii = lit< tt },
  (record { small = refl; own = refl; place = 7; bit = refl; ascii = lit< tt }, tt),
)

file_are : AreLetters file_letters file_letters
file_are = (
  record { small = refl; own = refl; place = 8; bit = refl; ascii = lit< tt },
  (
    record { small = refl; own = refl; place = 9; bit = refl; ascii = lit< tt },
    (
      record { small = refl; own = refl; place = 10; bit = refl; ascii = lit< tt },
      (
        record { small = refl; own = refl; place = 11; bit = refl; ascii = lit< tt },
        (
          record { small = refl; own = refl; place = 12; bit = refl; ascii = lit< tt },
          (
            record { small = refl; own = refl; place = 13; bit = refl; ascii = lit< tt },
            (
              record { small = refl; own = refl; place = 14; bit = refl; ascii = lit< tt },
              (record { small = refl; own = refl; place = 15; bit = refl; ascii = lit< tt }, tt),
            ),
          ),
        ),
      ),
    ),
  ),
)

-- ---- a whole text

regroup : (p a l x f : List ℕ) → (((p ++ a) ++ l) ++ x) ++ f ≡ p ++ (a ++ (l ++ (x ++ (f ++ []))))
regroup p a l x f = simp (append_assoc, append-nil)

gather : (c p a l x f : Caps) → union (meet c p) (union (meet c a) (union (meet c l) (union (meet c x) (union (meet c f) no_caps)))) ≡ meet c (union p (union a (union l (union x f))))
gather c p a l x f =
    ap (λ s. union (meet c p) (union (meet c a) (union (meet c l) (union (meet c x) s)))) (union_none (meet c f))
    ∙ ap (λ s. union (meet c p) (union (meet c a) (union (meet c l) s))) (sym (meet-union c x f))
    ∙ ap (λ s. union (meet c p) (union (meet c a) s)) (sym (meet-union c l (union x f)))
    ∙ ap (λ s. union (meet c p) s) (sym (meet-union c a (union l (union x f))))
    ∙ sym (meet-union c p (union a (union l (union x f))))

-- what the letters of a whole text name, without the dash
named_spelled : (c : Caps) → named pin_letters (spelled c) ≡ meet c every_cap
named_spelled c =
    let f : List ℕ = group_text c (codes "F") file_letters ++ []
    in let x : List ℕ = group_text c (codes "X") xattr_letters ++ f
    in let l : List ℕ = group_text c (codes "L") link_letters ++ x
    in let a : List ℕ = group_text c (codes "A") auth_letters ++ l
    in let f_fresh : IsFresh f = fresh_group c 70 file_letters refl file_are [] (λ _ _. refl)
    in let x_fresh : IsFresh x = fresh_group c 88 xattr_letters refl xattr_are f f_fresh
    in let l_fresh : IsFresh l = fresh_group c 76 link_letters refl link_are x x_fresh
    in ap (λ t. named pin_letters t)
    (regroup (letters_of c pin_letters) (group_text c (codes "A") auth_letters) (group_text c (codes "L") link_letters)
    (group_text c (codes "X") xattr_letters)
    (group_text c (codes "F") file_letters))
    ∙ read_letters c pin_letters pin_letters pin_are a
    ∙ ap (λ s. union (meet c (all_of pin_letters)) s) (read_group c 65 auth_letters refl auth_are l l_fresh pin_letters)
    ∙ ap (λ s. union (meet c (all_of pin_letters)) (union (meet c (all_of auth_letters)) s))
    (read_group c 76 link_letters refl link_are x x_fresh pin_letters)
    ∙ ap (λ s. union (meet c (all_of pin_letters)) (union (meet c (all_of auth_letters)) (union (meet c (all_of link_letters)) s)))
    (read_group c 88 xattr_letters refl xattr_are f f_fresh pin_letters)
    ∙ ap (λ s. union (meet c (all_of pin_letters)) (union (meet c (all_of auth_letters)) (union (meet c (all_of link_letters)) (union (meet c (all_of xattr_letters)) s))))
    (read_group c 70 file_letters refl file_are [] (λ _ _. refl) pin_letters)
    ∙ gather c (all_of pin_letters) (all_of auth_letters) (all_of link_letters) (all_of xattr_letters) (all_of file_letters)

-- a dash names nothing
named_dash : (t : List ℕ) → named pin_letters (or_dash t) ≡ named pin_letters t
named_dash [] = refl
named_dash (b ∷ bs) = refl

named_text : (c : Caps) → fits c ≡ true → named pin_letters (caps_text c) ≡ c
unfolding caps_text
named_text c fit = named_dash (spelled c) ∙ named_spelled c ∙ meet_comm c every_cap ∙ (covers-meet every_cap c).0 fit

read_back : (t : List ℕ) (read c : Caps) → read ≡ c → caps_text c ≡ t → cond (bytes_eq (caps_text read) t) (Some read) None ≡ Some c
read_back t read c same e = ap (λ b. cond b (Some read) None) ((bytes_eq-Decides (caps_text read) t).1 (ap caps_text same ∙ e)) ∙ ap Some same

-- each set is read from its text
pub text_is_read : (c : Caps) → fits c ≡ true → caps_of (caps_text c) ≡ Some c
unfolding caps_of
text_is_read c fit = read_back (caps_text c) (named pin_letters (caps_text c)) c (named_text c fit) refl

-- ---- nothing else is read

abbrev pub AreFit : Letters → Type 0
AreFit [] = Unit {0}
AreFit (l ∷ ls) = (fits l.1 ≡ true) × AreFit ls

abbrev pub GroupFits : Option Letters → Type 0
GroupFits None = Unit {0}
GroupFits (Some letters) = AreFit letters

fits-union : (a b : Caps) → fits a ≡ true → fits b ≡ true → fits (union a b) ≡ true
fits-union a b a_fits b_fits =
    (covers-meet every_cap (union a b)).1
    (meet-union every_cap a b ∙ ap (λ s. union s (meet every_cap b)) ((covers-meet every_cap a).0 a_fits)
    ∙ ap (λ s. union a s) ((covers-meet every_cap b).0 b_fits))

found_fits : (l : ℕ × Caps) (found : Option (ℕ × Caps)) (b : Bool) → fits l.1 ≡ true → fits (option_map_or (λ (m : ℕ × Caps). m.1) found no_caps) ≡ true → fits (option_map_or (λ (m : ℕ × Caps). m.1) (cond b (Some l) found) no_caps) ≡ true
found_fits l found true here more = here
found_fits l found false here more = more

cap_fits : (letters : Letters) → AreFit letters → (byte : ℕ) → fits (cap_of letters byte) ≡ true
cap_fits [] are byte = refl
cap_fits (l ∷ ls) are byte = found_fits l (find (λ (m : ℕ × Caps). m.0 == byte) ls) (l.0 == byte) are.0 (cap_fits ls are.1 byte)

choose : (b : Bool) (x y : Option Letters) → GroupFits x → GroupFits y → GroupFits (cond b x y)
choose true x y x_fits y_fits = x_fits
choose false x y x_fits y_fits = y_fits

group_fits : (byte : ℕ) → GroupFits (group_of byte)
group_fits byte =
    choose (byte == 65) _ _ (refl, (refl, tt))
    (choose (byte == 76) _ _ (refl, (refl, tt))
    (choose (byte == 88) _ _ (refl, (refl, tt))
    (choose (byte == 70) _ _ (refl, (refl, (refl, (refl, (refl, (refl, (refl, (refl, tt)))))))) tt)))

step_fits : (letters : Letters) → AreFit letters → (byte : ℕ) (rest : List ℕ) → ((ls : Letters) → AreFit ls → fits (named ls rest) ≡ true) → (group : Option Letters) → GroupFits group → fits (elim group as (λ _. Caps) [ Some group ↦ named group rest | None ↦ union (cap_of letters byte) (named letters rest) ]) ≡ true
step_fits letters are byte rest more None group_are = fits-union (cap_of letters byte) (named letters rest) (cap_fits letters are byte) (more letters are)
step_fits letters are byte rest more (Some group) group_are = more group group_are

named_fits : (text : List ℕ) (letters : Letters) → AreFit letters → fits (named letters text) ≡ true
named_fits [] letters are = refl
named_fits (byte ∷ rest) letters are = step_fits letters are byte rest (λ ls fit. named_fits rest ls fit) (group_of byte) (group_fits byte)

from_read : (text : List ℕ) (read c : Caps) → fits read ≡ true → (b : Bool) → bytes_eq (caps_text read) text ≡ b → cond b (Some read) None ≡ Some c → (caps_text c ≡ text) × (fits c ≡ true)
from_read text read c fit true equal e =
    let same : read ≡ c = cc in (ap caps_text (sym same) ∙ (bytes_eq-Decides (caps_text read) text).0 equal, ap fits (sym same) ∙ fit)
from_read text read c fit false different e = absurd (cc)

-- the reader's test is that of the definition
tested : (text own : List ℕ) (read : Caps) (b : Bool) → read ≡ named pin_letters text → own ≡ caps_text read → b ≡ bytes_eq own text → bytes_eq (caps_text (named pin_letters text)) text ≡ b
tested text own read b read_is own_is test =
    ap (λ c. bytes_eq (caps_text c) text) (sym read_is) ∙ ap (λ t. bytes_eq t text) (sym own_is) ∙ sym test

pub accepted : (text own : List ℕ) (read : Caps) (b : Bool) → read ≡ named pin_letters text → own ≡ caps_text read → b ≡ bytes_eq own text → b ≡ true → Some read ≡ caps_of text
unfolding caps_of
accepted text own read b read_is own_is test equal =
    ap Some read_is ∙ sym (ap (λ v. cond v (Some (named pin_letters text)) None) (tested text own read b read_is own_is test ∙ equal))

pub rejected : (text own : List ℕ) (read : Caps) (b : Bool) → read ≡ named pin_letters text → own ≡ caps_text read → b ≡ bytes_eq own text → b ≡ false → None ≡ caps_of text
unfolding caps_of
rejected text own read b read_is own_is test different =
    sym (ap (λ v. cond v (Some (named pin_letters text)) None) (tested text own read b read_is own_is test ∙ different))

-- what is read is a set of capabilities with this text
pub read_is_text : (text : List ℕ) (c : Caps) → caps_of text ≡ Some c → (caps_text c ≡ text) × (fits c ≡ true)
unfolding caps_of
read_is_text text c is = from_read text (named pin_letters text) c (named_fits text pin_letters (refl, tt)) _ refl is

-- where nothing is read, the text is no set's
pub unread_is_no_text : (text : List ℕ) → caps_of text ≡ None → (c : Caps) → fits c ≡ true → caps_text c ≢ text
unread_is_no_text text none c fit e = let is : caps_of text ≡ Some c = ap caps_of (sym e) ∙ text_is_read c fit in cc

-- ---- a text is ASCII

letter_ascii : (c : Caps) (l : ℕ × Caps) (ls : Letters) → l.0 < 128 → IsAscii (letters_of c ls) → (b : Bool) → IsAscii (map (λ (m : ℕ × Caps). m.0) (cond b (l ∷ filter (λ (m : ℕ × Caps). covers c m.1) ls) (filter (λ (m : ℕ × Caps). covers c m.1) ls)))
letter_ascii c l ls small more true = IsAscii-cons l.0 (letters_of c ls) small more
letter_ascii c l ls small more false = more

letters_ascii : (c : Caps) (letters ls : Letters) → AreLetters letters ls → IsAscii (letters_of c ls)
letters_ascii c letters [] are = IsAscii-nil
letters_ascii c letters (l ∷ ls) are = letter_ascii c l ls are.0.ascii (letters_ascii c letters ls are.1) (covers c l.1)

behind_ascii : (capital : ℕ) (ls : List ℕ) → capital < 128 → IsAscii ls → IsAscii (behind (capital ∷ []) ls)
behind_ascii capital [] small are = IsAscii-nil
behind_ascii capital (x ∷ xs) small are = IsAscii-cons capital (x ∷ xs) small are

dash_ascii : (ls : List ℕ) → IsAscii ls → IsAscii (or_dash ls)
dash_ascii [] are = IsAscii-cons 45 [] (lit< tt) IsAscii-nil
dash_ascii (x ∷ xs) are = are

pub text_is_ascii : (c : Caps) → IsAscii (caps_text c)
unfolding caps_text
text_is_ascii c =
    dash_ascii (spelled c)
    (IsAscii-append _ _
    (IsAscii-append _ _
    (IsAscii-append _ _
    (IsAscii-append _ _ (letters_ascii c pin_letters pin_letters pin_are)
    (behind_ascii 65 (letters_of c auth_letters) (lit< tt) (letters_ascii c auth_letters auth_letters auth_are)))
    (behind_ascii 76 (letters_of c link_letters) (lit< tt) (letters_ascii c link_letters link_letters link_are)))
    (behind_ascii 88 (letters_of c xattr_letters) (lit< tt) (letters_ascii c xattr_letters xattr_letters xattr_are)))
    (behind_ascii 70 (letters_of c file_letters) (lit< tt) (letters_ascii c file_letters file_letters file_are)))

pub text_is_utf8 : (c : Caps) → IsUtf8 (caps_text c)
text_is_utf8 c = IsUtf8-from_ascii (caps_text c) (text_is_ascii c)
