-- What the client makes of a file where a reference to it begins or ends, its bits change, or its context becomes another one.
use Rattle.std.specs.Prelude.{ℕ, ◌+◌, ◌&&◌, Bool, List, [], ◌∷◌, if◌then◌else◌}
use Rattle.cs_bits.specs.declared.Caps.{Caps}
use Rattle.cs_parts.specs.Capabilities.{acknowledged, delivered}
use Rattle.cs_snapctx.specs.Context.{Context}
use Rattle.cs_laws.specs.Answers.{may_write}
use Rattle.cs_laws.specs.Context.{differs}
use Rattle.cs_inode.specs.Inodes.{FileInode, needs_snap, with_context, with_writer, without_writer}

-- a reference with these bits begins, or ends
abbrev pub started : Caps → FileInode → FileInode
started bits i = if may_write bits then with_writer i else i

abbrev pub stopped : Caps → FileInode → FileInode
stopped bits i = if may_write bits then without_writer i else i

-- the client has only these bits from now on
abbrev pub acked : ℕ → Caps → FileInode → FileInode
acked seq bits i = record i { caps = acknowledged i.caps bits seq }

-- a message of the server is delivered: it gives these bits
abbrev pub with_caps : Caps → ℕ → ℕ → FileInode → FileInode
with_caps bits seq end i = record i { caps = delivered i.caps bits seq end }

-- the context becomes this one, or stays: whether the file gets a cap snap, and what is kept of it then
abbrev pub needs_snap_at : Context → FileInode → Bool
needs_snap_at new i = differs i.context new && needs_snap i

abbrev pub with_context_at : Context → FileInode → FileInode
with_context_at new i = if differs i.context new then with_context new i else i

-- how many of these files need a cap snap
abbrev pub count_needed : (ℕ → Bool) → List ℕ → ℕ
count_needed needs [] = 0
count_needed needs (f ∷ fs) = (if needs f then 1 else 0) + count_needed needs fs
