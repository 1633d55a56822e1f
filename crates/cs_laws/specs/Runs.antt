-- The histories that a run can have.
use Rattle.std.specs.Prelude.{◌≡◌, ℕ, ◌&&◌, Bool, true, List, [], ◌∷◌, Some, slice_get, take}
use Rattle.std.specs.List.{list_all, AllPass}
use Rattle.cs_laws.specs.declared.events.Event.{Event}
use Rattle.cs_laws.specs.declared.answers.Entry.{Entry}
use Rattle.cs_laws.specs.Answers.{answer}
use Rattle.cs_laws.specs.Events.{is_setup}
use Rattle.cs_laws.specs.Fits.{fits}

-- all events are setup lines
abbrev pub all_setup : List Entry → Bool
all_setup [] = true
all_setup (x ∷ h) = is_setup x.event && all_setup h

-- In a list of events each setup line stands before all other events.
abbrev pub SetupFirst : List Event → Type 0
SetupFirst es = (i : ℕ) (e : Event) → slice_get es i ≡ Some e → is_setup e ≡ true → list_all is_setup (take i es) ≡ true

-- The events of a script: a line spells each of them, and setup lines come first.
pub record IsScript (es : List Event) : Type 0 where
  pub spelled : AllPass fits es
  pub setup : SetupFirst es

-- What may come after a history: a line of a script spells the event, and a setup line stands before all other events.
pub record CanFollow (h : List Entry) (e : Event) : Type 0 where
  pub spelled : fits e ≡ true
  pub setup : is_setup e ≡ true → all_setup h ≡ true

-- each event may come after those before it, and has its answer
abbrev pub IsRun : ℕ → List Entry → Type 0
IsRun pages [] = Unit {0}
IsRun pages (x ∷ h) = (CanFollow h x.event × (x.answer ≡ answer pages h x.event)) × IsRun pages h
