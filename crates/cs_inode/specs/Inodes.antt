-- What the client keeps of one file, and what each call makes of it.
use Rattle.std.specs.Prelude.{◌≡◌, ℕ, ◌+◌, ◌-◌, ◌==◌, ◌&&◌, ◌||◌, not, Bool, true, false, List, [], ◌∷◌, ◌++◌, Option, Some, None, length, max, nat_lt, unwrap_or, All, if◌then◌else◌}
use Rattle.std.specs.List.{list_any}
use Rattle.cs_bits.specs.declared.Caps.{Caps}
use Rattle.cs_bits.specs.Bits.{auth_excl, file_write, is_empty, no_caps, union}
use Rattle.cs_ids.specs.declared.objects.FileMeta.{FileMeta}
use Rattle.cs_snapctx.specs.Context.{Context}
use Rattle.cs_parts.specs.declared.capabilities.ClientCaps.{ClientCaps}
use Rattle.cs_parts.specs.Capabilities.{no_client_caps}
use Rattle.cs_geom.specs.declared.places.TheConstants.{OBJECT_SIZE}
use Rattle.cs_geom.specs.Cuts.{pieces_of}
use Rattle.cs_capsnap.specs.declared.snap.CapSnap.{CapSnap}
use Rattle.cs_capsnap.specs.CapSnaps as snaps
use Rattle.cs_flush.specs.declared.sent.Sent.{Sent}
use Rattle.cs_flush.specs.Flushes as flushes
use Rattle.cs_flush.specs.Flushes.{FileFlushes}
use Rattle.cs_laws.specs.declared.objects.ObjOp.{ObjOp}
use Rattle.cs_laws.specs.Metadata.{no_meta}
use Rattle.cs_laws.specs.Operations.{operations}

-- what contracts see
pub record FileInode : Type 0 where
  pub ino : ℕ
  pub context : Context
  pub caps : ClientCaps
  pub snaps : List CapSnap
  pub flushes : FileFlushes
  -- as the client has written it
  pub meta : FileMeta
  -- how many references that may write live
  pub writers : ℕ

-- a file of which nothing was issued, and to which nothing was written
abbrev pub new_inode : ℕ → Context → FileInode
new_inode ino ctx = record {
  ino = ino;
  context = ctx;
  caps = no_client_caps;
  snaps = [];
  flushes = record { dirty = no_caps; unacked = [] };
  meta = no_meta;
  writers = 0;
}

abbrev pub has_writer : FileInode → Bool
has_writer i = nat_lt 0 i.writers

abbrev pub is_dirty : FileInode → Bool
is_dirty i = not (is_empty i.flushes.dirty)

abbrev pub with_dirty : Caps → FileInode → FileInode
with_dirty bits i = record i { flushes = record i.flushes { dirty = union i.flushes.dirty bits } }

-- the bits in use: those of the live references, and those that the dirty metadata needs
abbrev pub used : Caps → FileInode → Caps
used refs i = union refs i.flushes.dirty

-- the greatest number of a flush that isn't acknowledged, or 0 where there is none
abbrev pub greatest_tid : FileInode → ℕ
greatest_tid i = max (flushes.greatest_tid i.flushes.unacked) (snaps.greatest_tid i.snaps)

-- no unacknowledged flush of the file has the number of one of a cap snap
abbrev pub AreApart : List Sent → List CapSnap → Type 0
AreApart unacked xs = All (λ x. snaps.has_tid x.tid xs ≡ false) unacked

-- Writers

abbrev pub with_writer : FileInode → FileInode
with_writer i = record i { writers = i.writers + 1 }

-- where the last writer ends, a cap snap that is writing gets the file's size and mtime
abbrev pub without_writer : FileInode → FileInode
without_writer i = record i {
  snaps = if snaps.is_writing i.snaps && (i.writers == 1) then snaps.finished i.meta.size i.meta.mtime i.snaps else i.snaps;
  writers = i.writers - 1;
}

-- Writes

-- the context of a write: that of the cap snap that is writing, or else the file's own
abbrev pub context_under : FileInode → Context
context_under i = unwrap_or (snaps.writing_context i.snaps) i.context

-- the operations of a write, with numbers from `tid` on
abbrev pub write_operations : ℕ → ℕ → List ℕ → FileInode → List ObjOp
write_operations tid off bytes i = operations tid i.ino off bytes (context_under i) (pieces_of OBJECT_SIZE off (length bytes))

-- after a write up to an end, at a time
abbrev pub written : ℕ → ℕ → FileInode → FileInode
written end time i = with_dirty file_write (record i { meta = record i.meta { size = max end i.meta.size; mtime = time } })

-- Modes

abbrev pub with_mode : ℕ → FileInode → FileInode
with_mode mode i = with_dirty auth_excl (record i { meta = record i.meta { mode = mode } })

-- no mode is set while a cap snap is writing
abbrev pub after_chmod : ℕ → FileInode → FileInode
after_chmod mode i = if snaps.is_writing i.snaps then i else with_mode mode i

-- Snapshots

-- whether the file needs a cap snap where its context changes
abbrev pub needs_snap : FileInode → Bool
needs_snap i = not (snaps.is_writing i.snaps) && (has_writer i || is_dirty i)

-- the cap snap keeps the context so far and the metadata; it is writing where there is a writer
abbrev pub with_context : Context → FileInode → FileInode
with_context ctx i = record i {
  context = ctx;
  snaps = if needs_snap i then i.snaps ++ snaps.queued i.context (has_writer i) i.meta ∷ [] else i.snaps;
}

-- Flushes

-- the metadata is flushed, unless a cap snap is writing or nothing is dirty
abbrev pub after_flush : ℕ → FileInode → FileInode
after_flush tid i =
    if not (snaps.is_writing i.snaps) && is_dirty i then record i { flushes = flushes.started tid i.context.seq i.meta i.flushes } else i

-- the first unsent cap snap is sent, if there is one and it isn't writing
abbrev pub after_flush_snaps : ℕ → FileInode → FileInode
after_flush_snaps tid i = if snaps.can_send i.snaps then record i { snaps = snaps.with_first_sent tid i.snaps } else i

-- a flush is acknowledged: that of the file and those before it, or that of a cap snap
abbrev pub after_ack : ℕ → FileInode → FileInode
after_ack tid i = record i {
  flushes = record i.flushes { unacked = flushes.after_ack tid i.flushes.unacked };
  snaps = snaps.without_tid tid i.snaps;
}

-- What the server may not have yet

abbrev pub has_any : {A : Type 0} → List A → Bool
has_any [] = false
has_any (x ∷ xs) = true

-- a cap snap, sent or not, or a flush of the file isn't acknowledged
abbrev pub is_any_unacked : FileInode → Bool
is_any_unacked i = has_any i.snaps || has_any i.flushes.unacked

-- a flush of the file under a context whose number is below s isn't acknowledged
abbrev pub has_flush_below : ℕ → FileInode → Bool
has_flush_below s i = list_any (λ x. nat_lt x.follows s) i.flushes.unacked

-- what the file is at a snapshot, or at present
abbrev pub owed : Option ℕ → FileInode → Bool
owed None i = has_writer i || (is_dirty i || is_any_unacked i)
owed (Some s) i =
    nat_lt i.context.seq s || (snaps.has_unacked_below s i.snaps || has_flush_below s i)
