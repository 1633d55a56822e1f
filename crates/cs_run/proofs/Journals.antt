-- A journal that grows, entry by entry, and what is written of it.
use Rattle.std.proofs.Common.{◌≡◌, ◌∙◌, sym, ap, ℕ, ◌+◌, List, [], ◌∷◌, ◌++◌, length, Option, append_assoc, subst}
use Rattle.std.proofs.lemmas.List.{append-nil}
use Rattle.std.specs.Io.KnownBytes.{Appends}
use Rattle.cs_io.proofs.Known.{appends_more}
use Rattle.cs_laws.specs.declared.events.Event.{Event}
use Rattle.cs_laws.specs.declared.answers.Entry.{Entry}
use Rattle.cs_laws.specs.Journal.{history, entry, header, lines, line, text, end_line}

-- What was written

-- the line of an entry stands behind the lines before it
pub line_step : (taken mid new : Option (List ℕ)) (h more : List Entry) (x : Entry) (n : ℕ) → more ≡ x ∷ h → n ≡ length h + 1
    → Appends taken mid (header ++ lines h) → Appends mid new (line n x) → Appends taken new (header ++ lines more)
line_step taken mid new h more x n grown count before now =
    let next : Appends mid new (line (length h + 1) x) = rw count at now in
    let all = appends_more taken mid new (header ++ lines h) (line (length h + 1) x) before next in
    rw grown (rw (append_assoc header (lines h) (line (length h + 1) x)) at all)

-- all the lines and the end line make the text
pub text_step : (taken mid new : Option (List ℕ)) (h all : List Entry) (n : ℕ) → h ≡ all → n ≡ length h
    → Appends taken mid (header ++ lines h) → Appends mid new (end_line n) → Appends taken new (text all)
text_step taken mid new h all n same count before now =
    let written = appends_more taken mid new (header ++ lines h) (end_line n) before now in
    let P : List Entry → Type 0 = λ x. Appends taken new (text x) in
    subst P same (rw count at written)

-- What is written at last

lines_history : (pages : ℕ) (h : List Entry) (es : List Event) → (more : List ℕ) × (lines (history pages h es) ≡ lines h ++ more)
lines_history pages h [] = ([], sym (append-nil (lines h)))
lines_history pages h (e ∷ es) =
    let x : Entry = entry pages h e in
    let rest = lines_history pages (x ∷ h) es in
    (line (length h + 1) x ++ rest.0, rest.1 ∙ append_assoc (lines h) (line (length h + 1) x) rest.0)

-- the text begins with the header and the lines so far
pub text_history : (pages : ℕ) (h : List Entry) (es : List Event) (all : List Entry) → history pages h es ≡ all
    → (behind : List ℕ) × (text all ≡ (header ++ lines h) ++ behind)
text_history pages h es all so_far =
    let more = lines_history pages h es in
    let end : List ℕ = end_line (length (history pages h es)) in (
      more.0 ++ end,
      sym (ap text so_far)
          ∙ (ap (λ xs. (header ++ xs) ++ end) more.1
          ∙ (ap (λ xs. xs ++ end) (sym (append_assoc header (lines h) more.0))
          ∙ append_assoc (header ++ lines h) more.0 end)),
    )
