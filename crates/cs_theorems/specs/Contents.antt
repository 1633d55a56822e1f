-- What the objects of a file hold: the bytes of its writes.
use Rattle.std.specs.Prelude.{◌≡◌, ℕ, ◌≤◌, ◌/◌, ◌%◌, Bool, true, List, filter}
use Rattle.cs_geom.specs.declared.places.TheConstants.{OBJECT_SIZE}
use Rattle.cs_ids.specs.declared.objects.Obj.{Obj}
use Rattle.cs_laws.specs.declared.answers.Entry.{Entry}
use Rattle.cs_laws.specs.declared.objects.At.{At}
use Rattle.cs_laws.specs.History.{writes}
use Rattle.cs_laws.specs.Image.{image}
use Rattle.cs_laws.specs.Objects.{byte_of, object, object_byte}
use Rattle.cs_laws.specs.Operations.{applied}
use Rattle.cs_laws.specs.Shown.{writes_at}

-- the object of a file in which a place lies
abbrev pub object_at : ℕ → ℕ → Obj
object_at f i = record { ino = f; index = i / OBJECT_SIZE }

-- A state of a file, seen as a test of the seqs that belong to it: a number does where a greater one does. That of a snapshot
-- has the seqs below its number, and the head all.
abbrev pub IsState : (ℕ → Bool) → Type 0
IsState low = (q s : ℕ) → q ≤ s → low s ≡ true → low q ≡ true

-- the byte of a file at a place, by the operations on its object that belong to the state
abbrev pub stored_byte : (ℕ → Bool) → List Entry → ℕ → ℕ → ℕ
stored_byte low h f i = byte_of (filter (λ o. low o.ctx.seq) (object (object_at f i) (applied h))) (i % OBJECT_SIZE)

-- At each state each byte of a file's objects is that of the writes whose tags belong to the state.
abbrev pub ObjectsHoldWrites : List Entry → Type 0
ObjectsHoldWrites h = (low : ℕ → Bool) → IsState low → (f i : ℕ) → stored_byte low h f i ≡ image (filter (λ w. low w.tag) (writes h f)) i

-- So each byte that an object has at a snapshot, or at the head, is that of the writes that the file has there.
abbrev pub StatesHoldWrites : List Entry → Type 0
StatesHoldWrites h = (a : At) (f i : ℕ) → object_byte a (object_at f i) (applied h) (i % OBJECT_SIZE) ≡ image (writes_at a (writes h f)) i
