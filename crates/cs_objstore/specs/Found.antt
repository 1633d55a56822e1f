-- The objects of a store in memory. The operations stand the oldest first.
use Rattle.std.specs.Prelude.{◌≡◌, ℕ, ◌==◌, ◌&&◌, nat_eq, List, [], reverse, unwrap_or}
use Rattle.std.specs.HashMap.{HashMap, get_by}
use Rattle.std.specs.HashSet.{HashSet, contains}
use Rattle.cs_ids.specs.declared.objects.Obj.{Obj}
use Rattle.cs_laws.specs.declared.objects.ObjOp.{ObjOp}
use Rattle.cs_laws.specs.Objects.{object}
use Rattle.cs_objstore.specs.Kept.{Keeps, spans}
use Rattle.cs_objstore.specs.Stores.{has_tid}
use Rattle.cs_objstore.specs.declared.memory.Key.{Key}
use Rattle.cs_objstore.specs.declared.object.Version.{Version}

-- an object's versions: none where it isn't in the table
abbrev pub versions_of : {S : Type 0} → Obj → HashMap Key (List Version) S → List Version
versions_of obj objects = unwrap_or (get_by (λ k. (obj.ino == k.ino) && (obj.index == k.index)) objects) []

-- each object's versions have the bytes that its operations made, and the numbers are those of the operations
pub record Stands {S T : Type 0} (ops : List ObjOp) (objects : HashMap Key (List Version) S) (tids : HashSet ℕ T) : Type 0 where
  pub kept : (obj : Obj) → Keeps (versions_of obj objects) (spans (object obj (reverse ops)))
  pub numbers : (tid : ℕ) → contains nat_eq tids tid ≡ has_tid tid ops
