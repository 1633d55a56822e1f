-- Operations that are applied in turn, and the bytes of files. A store's operations have the newest first, and those that are
-- applied to it the first one first.
use Rattle.std.specs.Prelude.{◌≡◌, ℕ, ◌+◌, ◌≤◌, ◌/◌, ◌%◌, List, [], ◌∷◌, ◌++◌, length, if◌then◌else◌}
use Rattle.cs_geom.specs.declared.places.TheConstants.{OBJECT_SIZE}
use Rattle.cs_laws.specs.declared.objects.At.{At}
use Rattle.cs_laws.specs.declared.objects.ObjOp.{ObjOp}
use Rattle.cs_laws.specs.Objects.{object_byte}
use Rattle.cs_objstore.specs.Stores.{has_tid}

-- the operation's bytes lie within its object
abbrev pub FitsObject : ObjOp → Type 0
FitsObject o = o.off + length o.bytes ≤ OBJECT_SIZE

-- an operation is applied unless one of its number was
abbrev pub with_op : ObjOp → List ObjOp → List ObjOp
with_op o old = if has_tid o.tid old then old else o ∷ old

-- these in turn, each whose number isn't there yet
abbrev pub with_new : List ObjOp → List ObjOp → List ObjOp
with_new [] old = old
with_new (o ∷ os) old = with_new os (with_op o old)

-- a front of these was applied
pub record AppliesNew (ops old new : List ObjOp) : Type 0 where
  pub front : List ObjOp
  pub rest : List ObjOp
  pub whole : ops ≡ front ++ rest
  pub applied : new ≡ with_new front old

-- the byte of a file at a place, by its objects
abbrev pub file_byte : At → ℕ → List ObjOp → ℕ → ℕ
file_byte a f ops i = object_byte a (record { ino = f; index = i / OBJECT_SIZE }) ops (i % OBJECT_SIZE)
