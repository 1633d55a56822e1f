-- How often an object was cloned. The operations stand the newest first.
use Rattle.std.specs.Prelude.{ℕ, ◌+◌, ◌&&◌, Bool, true, false, List, [], ◌∷◌, if◌then◌else◌}
use Rattle.cs_ids.specs.declared.objects.Obj.{Obj}
use Rattle.cs_laws.specs.declared.objects.ObjOp.{ObjOp}
use Rattle.cs_laws.specs.Objects.{all_below, object}

abbrev pub exists : List ObjOp → Bool
exists [] = false
exists (o ∷ os) = true

-- before each operation on an object that exists whose context's number is above those of all earlier ones
abbrev pub times_cloned : List ObjOp → ℕ
times_cloned [] = 0
times_cloned (o ∷ os) = if exists os && all_below o.ctx.seq os then times_cloned os + 1 else times_cloned os

-- the clones of an object after these operations
abbrev pub clones_of : Obj → List ObjOp → ℕ
clones_of obj ops = times_cloned (object obj ops)
