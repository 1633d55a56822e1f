-- The first line of a text.
use Rattle.std.proofs.Common.{◌≡◌, ◌∙◌, sym, ℕ, ◌+◌, ◌<◌, ◌≤◌, ◌==◌, Bool, List, [], ◌∷◌, length, take, drop, Some, None, inl, inr, arith}
use Rattle.std.proofs.lemmas.Bool.{cases_lt}
use Rattle.std.proofs.lemmas.Bool.Decides.{nat_tests}
use Rattle.std.proofs.lemmas.Grind.{common_steps}
use Rattle.std.specs.List.{position, position_or_len}
use Rattle.cs_text.specs.Lines.{lines_in}

abbrev pub is_newline : ℕ → Bool
is_newline c = c == 10

-- where there is a newline, the first line ends at the first
pub lines_in-first : (bs : List ℕ) → position_or_len is_newline bs < length bs
    → lines_in bs ≡ take (position_or_len is_newline bs) bs ∷ lines_in (drop (position_or_len is_newline bs + 1) bs)
lines_in-first [] h = absurd (omega arith)
lines_in-first (c ∷ cs) h = grind (arith, common_steps, lines_in-first cs)

-- where there is none, the text is one line
pub lines_in-last : (bs : List ℕ) → 0 < length bs → length bs ≤ position_or_len is_newline bs → lines_in bs ≡ bs ∷ []
lines_in-last [] some h = absurd (omega arith)
lines_in-last (c ∷ cs) some h = grind (arith, common_steps, lines_in-last cs)

position_small : (bs : List ℕ) → position_or_len is_newline bs < length bs
    → position is_newline bs ≡ Some (position_or_len is_newline bs)
position_small bs h = grind (arith, nat_tests)

position_none : (bs : List ℕ) → length bs ≤ position_or_len is_newline bs → position is_newline bs ≡ None
position_none bs h = grind (arith, nat_tests)

-- the first line, where `position` found its end
pub lines_in-Some : (bs : List ℕ) (end : ℕ) → position is_newline bs ≡ Some end
    → lines_in bs ≡ take end bs ∷ lines_in (drop (end + 1) bs)
lines_in-Some bs end h =
    elim (cases_lt (position_or_len is_newline bs) (length bs)) [
      | inl inside ↦
          let same : end ≡ position_or_len is_newline bs = cc (sym h ∙ position_small bs inside) in
          rw same (lines_in-first bs inside)
      | inr none ↦ cc (sym h ∙ position_none bs none)
    ]

-- the only line, where `position` found none
pub lines_in-None : (bs : List ℕ) → 0 < length bs → position is_newline bs ≡ None → lines_in bs ≡ bs ∷ []
lines_in-None bs some h =
    elim (cases_lt (position_or_len is_newline bs) (length bs)) [
      | inl inside ↦ cc (sym h ∙ position_small bs inside)
      | inr none ↦ lines_in-last bs some none
    ]
