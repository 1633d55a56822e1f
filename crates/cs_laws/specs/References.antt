-- What an entry does to the live references, to the modes of files, and to the metadata that is dirty.
use Rattle.std.specs.Prelude.{ℕ, ◌==◌, Bool, false, List, [], ◌∷◌, ◌++◌, Option, Some, None, if◌then◌else◌}
use Rattle.cs_bits.specs.declared.Caps.{Caps}
use Rattle.cs_bits.specs.Bits.{no_caps, union, auth_excl, file_write}
use Rattle.cs_parts.specs.declared.references.Live.{Live}
use Rattle.cs_parts.specs.References.{has_ref, ref_named, without_ref}
use Rattle.cs_laws.specs.declared.events.Event.{Event}
use Rattle.cs_laws.specs.declared.events.Event.TheVariants as events
use Rattle.cs_laws.specs.declared.events.RefName.{RefName}
use Rattle.cs_laws.specs.declared.events.RefName.TheVariants as names
use Rattle.cs_laws.specs.declared.answers.Answer.{Answer}
use Rattle.cs_laws.specs.declared.answers.Answer.TheVariants as answers

-- the live reference that a caller uses by this name: one of its own, or one of caller 0
abbrev pub named : ℕ → RefName → List Live → Option Live
named caller (names.Own number) rs = ref_named caller number rs
named caller (names.Kept number) rs = ref_named 0 number rs

-- a caller can end a live reference of its own by this name
abbrev pub can_end : ℕ → RefName → List Live → Bool
can_end caller (names.Own number) rs = has_ref caller number rs
can_end caller (names.Kept number) rs = false

abbrev pub without_named : ℕ → RefName → List Live → List Live
without_named caller (names.Own number) rs = without_ref caller number rs
without_named caller (names.Kept number) rs = rs

-- seq f: the seq of f's snapshot context before the entry
abbrev pub live_then : Event → Answer → (ℕ → ℕ) → List Live → List Live
live_then (events.Begin caller file bits end) (answers.Ref number) seq rs =
    rs ++ record { caller = caller; number = number; file = file; bits = bits; end = end; tag = seq file } ∷ []
live_then (events.End caller name) answers.Ended seq rs = without_named caller name rs
live_then _ _ seq rs = rs

-- the mode of a new file: 0644
abbrev pub first_mode : ℕ
first_mode = 420

-- a change of mode on a reference is one of the reference's file
abbrev pub with_mode : Option Live → ℕ → ℕ → ℕ → ℕ
with_mode None mode f was = was
with_mode (Some r) mode f was = if r.file == f then mode else was

-- rs: the live references before the entry
abbrev pub mode_then : Event → Answer → List Live → ℕ → ℕ → ℕ
mode_then (events.Chmod caller name mode) answers.Done rs f was = with_mode (named caller name rs) mode f was
mode_then _ _ rs f was = was

-- what is done on a reference makes metadata of its file dirty
abbrev pub with_dirty : Option Live → Caps → ℕ → Caps → Caps
with_dirty None bit f d = d
with_dirty (Some r) bit f d = if r.file == f then union d bit else d

-- Fw stands for the size and the times, which a write changes, and Ax for the mode. A flush sends them all.
abbrev pub dirty_then : Event → Answer → List Live → ℕ → Caps → Caps
dirty_then (events.Write caller name off bytes) answers.Wrote rs f d = with_dirty (named caller name rs) file_write f d
dirty_then (events.Chmod caller name mode) answers.Done rs f d = with_dirty (named caller name rs) auth_excl f d
dirty_then (events.Flush g) (answers.Flush tid) rs f d = if g == f then no_caps else d
dirty_then _ _ rs f d = d
