-- Sets of CephFS capabilities: their bits, the operations on them, and their one text.
use Rattle.std.specs.Prelude.{ℕ, ◌-◌, ◌==◌, ◌++◌, Bool, List, [], ◌∷◌, Option, Some, None, codes, find, filter, map, if◌then◌else◌, IsBitSet}
use Rattle.std.specs.List.{zip}
use Rattle.std.specs.Option.{option_map_or}
use Rattle.std.specs.Str.{bytes_eq}
use Rattle.std.specs.Int.RustNames.{bit_and, bit_or}
use Rattle.cs_bits.specs.declared.Caps.{Caps}

-- ---- sets

-- the set holds the bit at this place, whose value is 2 ^ place
abbrev pub Has : Caps → ℕ → Type 0
Has c place = IsBitSet c.0 place

abbrev pub no_caps : Caps
no_caps = record { 0 = 0 }

abbrev pub is_empty : Caps → Bool
is_empty c = c.0 == 0

-- the bits of either
abbrev pub union : Caps → Caps → Caps
union a b = record { 0 = bit_or a.0 b.0 }

-- the bits of both
abbrev pub meet : Caps → Caps → Caps
meet a b = record { 0 = bit_and a.0 b.0 }

-- the bits of a without those of b
abbrev pub minus : Caps → Caps → Caps
minus a b = record { 0 = bit_and a.0 (65535 - b.0) }

-- whether a has each bit of b
abbrev pub covers : Caps → Caps → Bool
covers a b = bit_and a.0 b.0 == b.0

-- ---- the capabilities, each as the set of its one bit

abbrev pub pin : Caps
pin = record { 0 = 1 }

abbrev pub auth_shared : Caps
auth_shared = record { 0 = 4 }

abbrev pub auth_excl : Caps
auth_excl = record { 0 = 8 }

abbrev pub link_shared : Caps
link_shared = record { 0 = 16 }

abbrev pub link_excl : Caps
link_excl = record { 0 = 32 }

abbrev pub xattr_shared : Caps
xattr_shared = record { 0 = 64 }

abbrev pub xattr_excl : Caps
xattr_excl = record { 0 = 128 }

abbrev pub file_shared : Caps
file_shared = record { 0 = 256 }

abbrev pub file_excl : Caps
file_excl = record { 0 = 512 }

abbrev pub file_cache : Caps
file_cache = record { 0 = 1024 }

abbrev pub file_read : Caps
file_read = record { 0 = 2048 }

abbrev pub file_write : Caps
file_write = record { 0 = 4096 }

abbrev pub file_buffer : Caps
file_buffer = record { 0 = 8192 }

abbrev pub file_wrextend : Caps
file_wrextend = record { 0 = 16384 }

abbrev pub file_lazyio : Caps
file_lazyio = record { 0 = 32768 }

-- all fifteen; no capability has the value 2
abbrev pub every_cap : Caps
every_cap = record { 0 = 65533 }

-- whether each bit of the set is a capability
abbrev pub fits : Caps → Bool
fits c = covers every_cap c

-- ---- texts

-- the letters of a group, each beside its capability, in the order in which they are written
abbrev pub Letters : Type 0
Letters = List (ℕ × Caps)

-- the pin's letter stands before the groups, behind no capital
abbrev pub pin_letters : Letters
pin_letters = zip (codes "p") (pin ∷ [])

abbrev pub auth_letters : Letters
auth_letters = zip (codes "sx") (auth_shared ∷ auth_excl ∷ [])

abbrev pub link_letters : Letters
link_letters = zip (codes "sx") (link_shared ∷ link_excl ∷ [])

abbrev pub xattr_letters : Letters
xattr_letters = zip (codes "sx") (xattr_shared ∷ xattr_excl ∷ [])

abbrev pub file_letters : Letters
file_letters =
    zip (codes "sxcrwbal")
    (file_shared ∷ file_excl ∷ file_cache ∷ file_read ∷ file_write ∷ file_buffer ∷ file_wrextend ∷ file_lazyio ∷ [])

-- the letters of the capabilities that the set holds
abbrev pub letters_of : Caps → Letters → List ℕ
letters_of c letters = map (λ l. l.0) (filter (λ l. covers c l.1) letters)

-- a group's capital and letters, or nothing where it has no letter
abbrev pub behind : List ℕ → List ℕ → List ℕ
behind capital [] = []
behind capital (l ∷ ls) = capital ++ l ∷ ls

abbrev pub group_text : Caps → List ℕ → Letters → List ℕ
group_text c capital letters = behind capital (letters_of c letters)

abbrev pub or_dash : List ℕ → List ℕ
or_dash [] = codes "-"
or_dash (l ∷ ls) = l ∷ ls

-- the pin and the four groups
abbrev pub spelled : Caps → List ℕ
spelled c =
    letters_of c pin_letters ++ group_text c (codes "A") auth_letters ++ group_text c (codes "L") link_letters
    ++ group_text c (codes "X") xattr_letters
    ++ group_text c (codes "F") file_letters

-- the one text of a set; the empty set's is a dash
unfoldable pub caps_text : Caps → List ℕ
caps_text c = or_dash (spelled c)

-- the group that a capital begins
abbrev pub group_of : ℕ → Option Letters
group_of byte =
    if byte == 65 then Some auth_letters
    else if byte == 76 then Some link_letters
    else if byte == 88 then Some xattr_letters
    else if byte == 70 then Some file_letters
    else None

-- the capability of a letter of a group, or none
abbrev pub cap_of : Letters → ℕ → Caps
cap_of letters byte = option_map_or (λ l. l.1) (find (λ l. l.0 == byte) letters) no_caps

-- the capabilities that a text's letters name, each in the group of the last capital before it
abbrev pub named : Letters → List ℕ → Caps
named letters [] = no_caps
named letters (byte ∷ rest) =
    elim (group_of byte) [ Some group ↦ named group rest | None ↦ union (cap_of letters byte) (named letters rest) ]

-- the set whose one text this is
unfoldable pub caps_of : List ℕ → Option Caps
caps_of text = let c = named pin_letters text in if bytes_eq (caps_text c) text then Some c else None
