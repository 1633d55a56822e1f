-- Objects, as lists of the operations that were applied to them, the newest first. What was never written is zero.
use Rattle.std.specs.Prelude.{ℕ, ◌==◌, ◌&&◌, Bool, true, List, [], ◌∷◌, nat_lt, if◌then◌else◌}
use Rattle.cs_ids.specs.declared.objects.Obj.{Obj}
use Rattle.cs_laws.specs.declared.objects.At.{At}
use Rattle.cs_laws.specs.declared.objects.At.TheVariants as at
use Rattle.cs_laws.specs.declared.objects.ObjOp.{ObjOp}
use Rattle.cs_laws.specs.Image.{byte_over}

abbrev pub same_object : Obj → Obj → Bool
same_object a b = (a.ino == b.ino) && (a.index == b.index)

-- the operations on an object
abbrev pub object : Obj → List ObjOp → List ObjOp
object obj [] = []
object obj (o ∷ os) = if same_object o.obj obj then o ∷ object obj os else object obj os

abbrev pub all_below : ℕ → List ObjOp → Bool
all_below s [] = true
all_below s (o ∷ os) = nat_lt o.ctx.seq s && all_below s os

-- those before the first one whose context's seq is at least s
abbrev pub before : ℕ → List ObjOp → List ObjOp
before s [] = []
before s (o ∷ os) = if all_below s (o ∷ os) then o ∷ os else before s os

-- the byte at a place after these operations
abbrev pub byte_of : List ObjOp → ℕ → ℕ
byte_of [] i = 0
byte_of (o ∷ os) i = byte_over o.off o.bytes i (byte_of os i)

-- the operations that make the state of an object at a snapshot, or at the head
abbrev pub operations_at : At → Obj → List ObjOp → List ObjOp
operations_at at.Head obj os = object obj os
operations_at (at.Snap s) obj os = before s (object obj os)

-- the byte of an object at a place, at a snapshot or at the head
abbrev pub object_byte : At → Obj → List ObjOp → ℕ → ℕ
object_byte a obj os i = byte_of (operations_at a obj os) i
