-- The fields of a line behind its first word, read and printed.
use Rattle.std.proofs.Common.{◌≡◌, ◌∙◌, sym, ap, refl, ℕ, suc, ◌+◌, ◌≤◌, false, List, [], ◌∷◌, length, arith, Some, Result, Ok, slice_get, length-append}
use Rattle.std.specs.List.{join_with_byte}
use Rattle.cs_laws.specs.declared.events.Event.{Event}
use Rattle.cs_laws.specs.declared.faults.Kind.{Kind}
use Rattle.cs_laws.specs.Grammar.{Words, ◌>>=◌, word_in, is_skipped}
use Rattle.cs_script.proofs.FieldFacts.{binds, word_is}
use Rattle.cs_script.proofs.FieldKinds.{Field, Value, value_of, text_of, IsGood, text_is_read, word_is_text, text_visible, most_bytes, text_few}
use Rattle.cs_script.proofs.Visible.{AreVisible}

abbrev pub Values : List Field → Type 0
Values [] = Unit {0}
Values (f ∷ fs) = Value f × Values fs

abbrev pub texts_of : (fs : List Field) → Values fs → Words
texts_of [] v = []
texts_of (f ∷ fs) v = text_of f v.0 ∷ texts_of fs v.1

abbrev pub AreGood : (fs : List Field) → Values fs → Type 0
AreGood [] v = Unit {0}
AreGood (f ∷ fs) v = IsGood f v.0 × AreGood fs v.1

-- reads the words from the i-th on, a field each, and goes on with the values
abbrev pub read_fields : (fs : List Field) → ℕ → (Values fs → Result Event Kind) → Words → Result Event Kind
read_fields [] i next ws = next tt
read_fields (f ∷ fs) i next ws = word_in (value_of f) (slice_get ws i) >>= λ x. read_fields fs (suc i) (λ v. next (x, v)) ws

-- ---- words one by one

-- the words from the i-th on begin with these
abbrev pub Begins : ℕ → Words → Words → Type 0
Begins i ws [] = Unit {0}
Begins i ws (v ∷ vs) = (slice_get ws i ≡ Some v) × Begins (suc i) ws vs

behind_first : (i : ℕ) (w : List ℕ) (ws vs : Words) → Begins (suc i) (w ∷ ws) vs → Begins i ws vs
behind_first i w ws [] h = tt
behind_first i w ws (v ∷ vs) h = (h.0, behind_first (suc i) w ws vs h.1)

pub with_first : (i : ℕ) (w : List ℕ) (ws vs : Words) → Begins i ws vs → Begins (suc i) (w ∷ ws) vs
with_first i w ws [] h = tt
with_first i w ws (v ∷ vs) h = (h.0, with_first (suc i) w ws vs h.1)

pub begin_themselves : (ws : Words) → Begins 0 ws ws
begin_themselves [] = tt
begin_themselves (w ∷ ws) = (refl, with_first 0 w ws ws (begin_themselves ws))

-- as many words as these, and each of them, are these
pub same_words : (vs ws : Words) → length ws ≤ length vs → Begins 0 ws vs → ws ≡ vs
same_words [] [] few h = refl
same_words [] (w ∷ ws) few h = absurd (omega arith)
same_words (v ∷ vs) [] few h = cc h.0
same_words (v ∷ vs) (w ∷ ws) few h =
    let first : w ≡ v = cc h.0 in
    rw first (ap (λ x. v ∷ x) (same_words vs ws (omega arith) (behind_first 0 w ws vs h.1)))

-- ---- all fields

pub length-texts : (fs : List Field) (v : Values fs) → length (texts_of fs v) ≡ length fs
length-texts [] v = refl
length-texts (f ∷ fs) v = ap suc (length-texts fs v.1)

-- the texts are read as their values
pub texts_are_read : (fs : List Field) (i : ℕ) (next : Values fs → Result Event Kind) (ws : Words) (v : Values fs)
    → AreGood fs v → Begins i ws (texts_of fs v) → read_fields fs i next ws ≡ next v
texts_are_read [] i next ws v good begins = refl
texts_are_read (f ∷ fs) i next ws v good begins =
    rw (begins.0, text_is_read f v.0 good.0) (texts_are_read fs (suc i) (λ u. next (v.0, u)) ws v.1 good.1 begins.1)

-- the words that are read are the texts of their values
pub record AreTexts (fs : List Field) (i : ℕ) (next : Values fs → Result Event Kind) (ws : Words) (e : Event) : Type 0 where
  pub values : Values fs
  pub good : AreGood fs values
  pub words : Begins i ws (texts_of fs values)
  pub rest : next values ≡ Ok e

pub words_are_texts : (fs : List Field) (i : ℕ) (next : Values fs → Result Event Kind) (ws : Words) (e : Event)
    → read_fields fs i next ws ≡ Ok e → AreTexts fs i next ws e
words_are_texts [] i next ws e h = record { values = tt; good = tt; words = tt; rest = h }
words_are_texts (f ∷ fs) i next ws e h =
    let x = binds (word_in (value_of f) (slice_get ws i)) (λ x. read_fields fs (suc i) (λ v. next (x, v)) ws) e h in
    let w = word_is (value_of f) (slice_get ws i) x.value x.is in
    let t = word_is_text f w.word x.value w.reads in
    let more = words_are_texts fs (suc i) (λ v. next (x.value, v)) ws e x.rest in
    record {
      values = (x.value, more.values);
      good = (t.1, more.good);
      words = (w.is ∙ ap Some (sym t.0), more.words);
      rest = more.rest;
    }

pub texts_visible : (fs : List Field) (v : Values fs) → AreGood fs v → AreVisible (texts_of fs v)
texts_visible [] v good = tt
texts_visible (f ∷ fs) v good = (text_visible f v.0 good.0, texts_visible fs v.1 good.1)

-- the most bytes of the fields' texts, with a space before each
abbrev pub most_of_all : List Field → ℕ
most_of_all [] = 0
most_of_all (f ∷ fs) = 1 + most_bytes f + most_of_all fs

pub line_few : (w : List ℕ) (fs : List Field) (v : Values fs) → AreGood fs v → length (join_with_byte 32 (w ∷ texts_of fs v)) ≤ length w + most_of_all fs
line_few w [] v good = omega arith
line_few w (f ∷ fs) v good = simp length-append (omega (arith, text_few f v.0 good.0, line_few (text_of f v.0) fs v.1 good.1))

-- a line is passed over by its first word
pub line_skipped : (w : List ℕ) (ws : Words) → is_skipped w ≡ false → is_skipped (join_with_byte 32 (w ∷ ws)) ≡ false
line_skipped [] ws h = cc h
line_skipped (c ∷ cs) [] h = h
line_skipped (c ∷ cs) (v ∷ vs) h = h
