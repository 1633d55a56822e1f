-- The operations that writes bring to the object store.
use Rattle.std.specs.Prelude.{ℕ, ◌+◌, ◌==◌, ◌&&◌, List, [], ◌∷◌, ◌++◌, length, reverse, Option, Some, None, if◌then◌else◌}
use Rattle.cs_geom.specs.declared.places.Piece.{Piece}
use Rattle.cs_geom.specs.declared.places.TheConstants.{OBJECT_SIZE}
use Rattle.cs_geom.specs.Cuts.{pieces_of, part_of}
use Rattle.cs_parts.specs.declared.references.Live.{Live}
use Rattle.cs_snapctx.specs.Context.{Context, empty_context}
use Rattle.cs_laws.specs.declared.events.Event.{Event}
use Rattle.cs_laws.specs.declared.events.Event.TheVariants as events
use Rattle.cs_laws.specs.declared.answers.Answer.{Answer}
use Rattle.cs_laws.specs.declared.answers.Answer.TheVariants as answers
use Rattle.cs_laws.specs.declared.answers.Entry.{Entry}
use Rattle.cs_laws.specs.declared.objects.ObjOp.{ObjOp}
use Rattle.cs_laws.specs.History.{context, live}
use Rattle.cs_laws.specs.References.{named}

-- context f: the context of f before the entry
abbrev pub begun_under_then : Event → Answer → (ℕ → Context) → ℕ → ℕ → Context → Context
begun_under_then (events.Begin caller f bits end) (answers.Ref number) context c n was = if (caller == c) && (number == n) then context f else was
begun_under_then _ _ context c n was = was

-- the context of its file when a caller's reference of this number began
abbrev pub begun_under : List Entry → ℕ → ℕ → Context
begun_under [] c n = empty_context
begun_under (x ∷ h) c n = begun_under_then x.event x.answer (λ f. context h f) c n (begun_under h c n)

-- the operation of a piece of bytes that are written from an offset of a file on
abbrev pub operation : ℕ → ℕ → ℕ → List ℕ → Context → Piece → ObjOp
operation tid f off bytes ctx p = record { tid = tid; obj = record { ino = f; index = p.index }; off = p.obj_off; bytes = part_of off bytes p; ctx = ctx }

-- those of these pieces, in order, with numbers from `tid` on
abbrev pub operations : ℕ → ℕ → ℕ → List ℕ → Context → List Piece → List ObjOp
operations tid f off bytes ctx [] = []
operations tid f off bytes ctx (p ∷ ps) = operation tid f off bytes ctx p ∷ operations (tid + 1) f off bytes ctx ps

-- A write brings one operation for each object that it touches, in rising order, under the context of its reference's begin.
-- under r: the context when r began; n: how many operations were drawn before
abbrev pub written_on : Option Live → (Live → Context) → ℕ → ℕ → List ℕ → List ObjOp
written_on None under n off bytes = []
written_on (Some r) under n off bytes = operations (n + 1) r.file off bytes (under r) (pieces_of OBJECT_SIZE off (length bytes))

-- the operations that an entry brings, in order
abbrev pub brought : Event → Answer → List Entry → ℕ → List ObjOp
brought (events.Write caller name off bytes) answers.Wrote h n = written_on (named caller name (live h)) (λ r. begun_under h r.caller r.number) n off bytes
brought _ _ h n = []

abbrev pub drawn_then : Event → Answer → List Entry → ℕ → ℕ
drawn_then (events.Write caller name off bytes) answers.Wrote h n = n + length (brought (events.Write caller name off bytes) answers.Wrote h n)
drawn_then _ _ h n = n

-- how many operations were drawn
abbrev pub operations_drawn : List Entry → ℕ
operations_drawn [] = 0
operations_drawn (x ∷ h) = drawn_then x.event x.answer h (operations_drawn h)

-- the operations that were applied to the store, the newest first
abbrev pub applied : List Entry → List ObjOp
applied [] = []
applied (x ∷ h) = reverse (brought x.event x.answer h (operations_drawn h)) ++ applied h
