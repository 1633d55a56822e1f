use Rattle.std.proofs.Common.{◌≡◌, ◌∙◌, ℕ, Bool, true, false, cond, List, [], ◌∷◌, Some, None, String, codes, refl, string_bytes, subst}
use Rattle.std.proofs.lemmas.Slice.Eq.{bytes_eq-Decides}
use Rattle.std.specs.Prelude.{slice_get}
use Rattle.std.specs.Str.{bytes_eq}
use Rattle.std.specs.declared.alloc.Global.{Global}
use Rattle.cs_command.specs.Words.{asked, run_asked, texts_of, trim_asked}
use Rattle.cs_command.proofs.command.read_command.Goals as goal

-- words whose first is no command's ask for nothing
none_asked : (words : List (String Global)) (word : String Global) → Some word ≡ slice_get words 0
    → (string_bytes word ≡ codes "run" → ⊥) → (string_bytes word ≡ codes "trim" → ⊥) → asked (texts_of words) ≡ None
unfolding asked
none_asked [] word first not_run not_trim = cc
none_asked (x ∷ rest) word first not_run not_trim =
    let same : x ≡ word = cc in
    let differs : (text : List ℕ) → (string_bytes word ≡ text → ⊥) → bytes_eq (string_bytes x) text ≡ true → ⊥ =
    λ text not is. not (subst (λ w. string_bytes w ≡ text) same ((bytes_eq-Decides (string_bytes x) text).0 is)) in
    go (bytes_eq (string_bytes x) (codes "run")) (bytes_eq (string_bytes x) (codes "trim"))
    (differs (codes "run") not_run) (differs (codes "trim") not_trim)
  where
    go : (b c : Bool) → (b ≡ true → ⊥) → (c ≡ true → ⊥)
        → cond b (run_asked (texts_of (x ∷ rest))) (cond c (trim_asked (texts_of (x ∷ rest))) None) ≡ None
    go true c not_run not_trim = absurd (not_run refl)
    go false true not_run not_trim = absurd (not_trim refl)
    go false false not_run not_trim = refl

pub returns-in_default-as_str-clause-usage : goal.returns-in_default-as_str-clause-usage
returns-in_default-as_str-clause-usage c = λ _.
    none_asked c.args.words.now c.in-Some.word.now c.in-Some.ensures.value
    (λ is_run. c.in_default-as_str.not-run (c.as_str.ensures.value ∙ is_run))
    (λ is_trim. c.in_default-as_str.not-trim (c.as_str.ensures.value ∙ is_trim))
