-- Laws of references.
use Rattle.std.specs.Prelude.{◌==◌, ℕ, List, [], ◌∷◌, if◌then◌else◌}
use Rattle.cs_laws.specs.declared.events.Event.{Event}
use Rattle.cs_laws.specs.declared.events.Event.TheVariants as events
use Rattle.cs_laws.specs.declared.answers.Answer.{Answer}
use Rattle.cs_laws.specs.declared.answers.Answer.TheVariants as answers
use Rattle.cs_laws.specs.declared.answers.Entry.{Entry}
use Rattle.cs_laws.specs.History.{live}
use Rattle.cs_laws.specs.Laws.{WasIssued}
use Rattle.cs_laws.specs.Lists.{Each, Member}

abbrev pub LiveWereIssued : List Entry → Type 0
LiveWereIssued h = Each (WasIssued h) (live h)

abbrev pub drawn_then : Event → Answer → ℕ → List ℕ → List ℕ
drawn_then (events.Begin caller file bits end) (answers.Ref number) c ns = if caller == c then number ∷ ns else ns
drawn_then _ _ c ns = ns

-- the numbers that a caller drew, the last one first
abbrev pub drawn : List Entry → ℕ → List ℕ
drawn [] c = []
drawn (x ∷ h) c = drawn_then x.event x.answer c (drawn h c)

-- no number stands among those after it in the list
abbrev pub IsEachOnce : List ℕ → Type 0
IsEachOnce [] = Unit {0}
IsEachOnce (n ∷ ns) = (Member n ns → ⊥) × IsEachOnce ns

abbrev pub NumbersAreDrawnOnce : List Entry → Type 0
NumbersAreDrawnOnce h = (c : ℕ) → IsEachOnce (drawn h c)
