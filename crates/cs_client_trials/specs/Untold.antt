-- A client to which no snapshot was told yet, and the first that is.
use Rattle.std.specs.Prelude.{◌≡◌, ℕ, [], ◌∷◌, Some, None}
use Rattle.std.specs.BTreeMap.{get}
use Rattle.std.specs.Ordering.{nat_cmp}
use Rattle.cs_snapctx.specs.declared.realm.RealmRecord.{RealmRecord}
use Rattle.cs_snapctx.specs.Context.{empty_context}
use Rattle.cs_snapctx.specs.Records.{root_record}
use Rattle.cs_client.specs.declared.file.ClientFile.{ClientFile}
use Rattle.cs_client.specs.Views.{ClientView}

pub record IsUntold (v : ClientView) : Type 0 where
  pub realms : v.realms ≡ root_record ∷ []
  pub contexts : (f : ℕ) (r : ClientFile) → get nat_cmp v.files f ≡ Some r → r.inode.context ≡ empty_context

-- the root directory has snapshot 1
abbrev pub root_with_snap : RealmRecord
root_with_snap = record { realm = 1; parent = None; since = 1; own_seq = 1; own = 1 ∷ []; prior = [] }
