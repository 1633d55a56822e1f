-- What each step makes of the parts of a gate's word.
use Rattle.std.proofs.Common.{◌≡◌, ℕ, ◌+◌, ◌-◌, ◌*◌, ◌%◌, ◌^◌, ◌<◌, true, false, arith}
use Rattle.std.specs.Prelude.{bit_or}
use Rattle.std.proofs.lemmas.Bool.Decides.{nat_tests}
use Rattle.std.specs.Int.Bits.{or_shifted_r}
use Rattle.cs_gate.specs.Gate.{is_closed, generation_of, count_of, reopening}

pub entered_word : (w : ℕ) → w < 2 ^ 64 → count_of w + 1 < 2 ^ 32
    → (is_closed ((w + 1) % 2 ^ 64) ≡ is_closed w) × (generation_of ((w + 1) % 2 ^ 64) ≡ generation_of w) × (count_of ((w + 1) % 2 ^ 64) ≡ count_of w + 1)
entered_word w fits room = (grind (arith, nat_tests), omega arith, omega arith)

pub left_word : (w : ℕ) → w < 2 ^ 64 → 0 < count_of w
    → (is_closed ((w + (2 ^ 64 - 1)) % 2 ^ 64) ≡ is_closed w) × (generation_of ((w + (2 ^ 64 - 1)) % 2 ^ 64) ≡ generation_of w) × (count_of ((w + (2 ^ 64 - 1)) % 2 ^ 64) + 1 ≡ count_of w)
left_word w fits some = (grind (arith, nat_tests), omega arith, omega arith)

pub shut_word : (w : ℕ) → w < 2 ^ 64 → is_closed w ≡ false
    → (is_closed (bit_or w (2 ^ 63)) ≡ true) × (generation_of (bit_or w (2 ^ 63)) ≡ generation_of w) × (count_of (bit_or w (2 ^ 63)) ≡ count_of w) × (bit_or w (2 ^ 63) < 2 ^ 64)
shut_word w fits unclosed =
    let low : w < 2 ^ 63 = grind (arith, nat_tests) in
    let sum : bit_or w (2 ^ 63) ≡ 2 ^ 63 + w = or_shifted_r 1 63 w low in
    rw sum (grind (arith, nat_tests), omega arith, omega arith, omega arith)

pub reopened_word : (w old new : ℕ) → w < 2 ^ 64 → is_closed w ≡ true → generation_of w ≡ old → old < new → new < 2 ^ 31
    → (is_closed ((w + reopening old new) % 2 ^ 64) ≡ false) × (generation_of ((w + reopening old new) % 2 ^ 64) ≡ new) × (count_of ((w + reopening old new) % 2 ^ 64) ≡ count_of w)
reopened_word w old new fits closed is above range = (grind (arith, nat_tests), omega arith, omega arith)

pub begun_word : (g : ℕ) → g < 2 ^ 31 → (is_closed (2 ^ 63 + g * 2 ^ 32) ≡ true) × (generation_of (2 ^ 63 + g * 2 ^ 32) ≡ g) × (count_of (2 ^ 63 + g * 2 ^ 32) ≡ 0)
begun_word g range = (grind (arith, nat_tests), omega arith, omega arith)
