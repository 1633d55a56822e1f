-- When the object store and the server's log hold what a history says.
use Rattle.std.specs.Prelude.{◌≡◌, ℕ, ◌<◌, ◌/◌, ◌%◌, List, true, false}
use Rattle.cs_geom.specs.declared.places.TheConstants.{OBJECT_SIZE}
use Rattle.cs_ids.specs.declared.objects.FileMeta.{FileMeta}
use Rattle.cs_laws.specs.declared.answers.Entry.{Entry}
use Rattle.cs_laws.specs.declared.objects.At.{At}
use Rattle.cs_laws.specs.declared.objects.ObjOp.{ObjOp}
use Rattle.cs_laws.specs.Answers.{covers_file, is_gone, standing_context, stands}
use Rattle.cs_laws.specs.ServerKnows.{server_knows}
use Rattle.cs_laws.specs.History.{durable, fresh, stand, writes}
use Rattle.cs_laws.specs.Image.{Write, image}
use Rattle.cs_laws.specs.Image as images
use Rattle.cs_laws.specs.Logged.{LogIs}
use Rattle.cs_laws.specs.Metadata.{meta_at}
use Rattle.cs_laws.specs.Objects.{object_byte}
use Rattle.cs_laws.specs.Operations.{applied}
use Rattle.cs_laws.specs.Owed.{mode_at, owed}
use Rattle.cs_laws.specs.Shown.{writes_at}

-- the metadata is that of these writes, with this mode, and each byte that it counts is theirs; ops are applied to the store
pub record ReadsBack (f : ℕ) (a : At) (ops : List ObjOp) (meta : FileMeta) (ws : List Write) (bits : ℕ) : Type 0 where
  pub size : meta.size ≡ images.size ws
  pub mtime : meta.mtime ≡ images.mtime ws
  pub mode : meta.mode ≡ bits
  pub bytes : (i : ℕ) → i < meta.size → object_byte a (record { ino = f; index = i / OBJECT_SIZE }) ops (i % OBJECT_SIZE) ≡ image ws i

-- each file that the server knows, at each state that stands, isn't removed, covers it and isn't owed, reads back as exactly
-- its writes
abbrev pub StatesReadBack : List ObjOp → List Entry → Type 0
StatesReadBack ops h =
    (f : ℕ) (a : At) → server_knows h f ≡ true → stands a (stand h) ≡ true → is_gone a (stand h) ≡ false
    → covers_file a (standing_context h f) ≡ true → owed h f a ≡ false
    → ReadsBack f a ops (meta_at f a (stand h)) (writes_at a (writes h f)) (mode_at h f a)

-- the store lists exactly the operations that the history implies, the log its records, of which those are durable that the history
-- says, and the two read back; rs, n: the log's records, and how many of them are durable
pub record Agrees (ops : List ObjOp) (rs : List (List ℕ)) (n : ℕ) (h : List Entry) : Type 0 where
  pub operations : ops ≡ applied h
  pub log : LogIs rs n (durable h) (fresh h)
  pub states : StatesReadBack ops h
