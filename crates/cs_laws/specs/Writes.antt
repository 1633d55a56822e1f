-- What an entry writes to a file.
use Rattle.std.specs.Prelude.{ℕ, ◌==◌, List, ◌∷◌, Option, Some, None, if◌then◌else◌}
use Rattle.cs_parts.specs.declared.references.Live.{Live}
use Rattle.cs_laws.specs.declared.events.Event.{Event}
use Rattle.cs_laws.specs.declared.events.Event.TheVariants as events
use Rattle.cs_laws.specs.declared.answers.Answer.{Answer}
use Rattle.cs_laws.specs.declared.answers.Answer.TheVariants as answers
use Rattle.cs_laws.specs.Image.{Write}
use Rattle.cs_laws.specs.References.{named}

-- a write on a reference is one of the reference's file
abbrev pub with_write : Option Live → ℕ → List ℕ → ℕ → ℕ → List Write → List Write
with_write None off bytes time f ws = ws
with_write (Some r) off bytes time f ws = if r.file == f then record { off = off; bytes = bytes; time = time; tag = r.tag } ∷ ws else ws

-- rs: the live references before the entry; time: the clock then
abbrev pub writes_then : Event → Answer → List Live → ℕ → ℕ → List Write → List Write
writes_then (events.Write caller name off bytes) answers.Wrote rs time f ws = with_write (named caller name rs) off bytes time f ws
writes_then _ _ rs time f ws = ws
