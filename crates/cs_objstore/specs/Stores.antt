-- What a store does with an operation, and what it reads. Lists of operations have the newest first, if nothing else is said.
use Rattle.std.specs.Prelude.{◌≡◌, ℕ, ◌+◌, ◌==◌, Bool, true, false, List, ◌∷◌, Result, Ok, Err, slice_index, EachIndex}
use Rattle.std.specs.List.{list_any}
use Rattle.cs_ids.specs.declared.objects.Obj.{Obj}
use Rattle.cs_faults.specs.Plans.{CallPlan}
use Rattle.cs_laws.specs.declared.objects.At.{At}
use Rattle.cs_laws.specs.declared.objects.ObjOp.{ObjOp}
use Rattle.cs_laws.specs.Objects.{object_byte}
use Rattle.cs_objstore.specs.declared.answers.Applied.{Applied}
use Rattle.cs_objstore.specs.declared.answers.Applied.TheVariants.{New, Dup}
use Rattle.cs_objstore.specs.declared.answers.StoreFault.{StoreFault}

-- an operation of this number is in the list
abbrev pub has_tid : ℕ → List ObjOp → Bool
has_tid tid ops = list_any (λ op. op.tid == tid) ops

-- an operation is applied where none of its number was before, and the list else stays as it is
abbrev pub Applies : List ObjOp → List ObjOp → ObjOp → Result Applied StoreFault → Type 0
Applies old new op (Ok New) = (has_tid op.tid old ≡ false) × (new ≡ op ∷ old)
Applies old new op (Ok Dup) = (has_tid op.tid old ≡ true) × (new ≡ old)
Applies old new op (Err fault) = new ≡ old

-- these are the object's bytes from a place on
abbrev pub ReadsObject : List ObjOp → Obj → At → ℕ → List ℕ → Type 0
ReadsObject ops obj at off out = EachIndex out (λ i. slice_index out i ≡ object_byte at obj ops (off + i))

-- a faulty store: the operations that were applied, the oldest first, and its calls
pub record FaultyState : Type 0 where
  pub ops : List ObjOp
  pub plan : CallPlan
