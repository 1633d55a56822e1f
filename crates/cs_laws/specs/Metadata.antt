-- A file's metadata at a state, by the records of the server's log.
use Rattle.std.specs.Prelude.{ℕ, ◌==◌, ◌&&◌, ◌||◌, Bool, List, [], ◌∷◌, Option, Some, None, nat_lt, if◌then◌else◌}
use Rattle.cs_ids.specs.declared.objects.FileMeta.{FileMeta}
use Rattle.cs_laws.specs.declared.objects.At.{At}
use Rattle.cs_laws.specs.declared.records.Record.{Record}
use Rattle.cs_laws.specs.Carried.{flush_in}
use Rattle.cs_laws.specs.Flushes.{Flush}
use Rattle.cs_laws.specs.References.{first_mode}
use Rattle.cs_laws.specs.Shown.{is_before}

-- y follows a greater number than x does, or the same under a greater tid
abbrev pub is_behind : Flush → Flush → Bool
is_behind x y = nat_lt x.follows y.follows || ((x.follows == y.follows) && nat_lt x.tid y.tid)

abbrev pub later_of : Flush → Option Flush → Option Flush
later_of x None = Some x
later_of x (Some y) = if is_behind x y then Some y else Some x

abbrev pub with_flush : ℕ → At → Option Flush → Option Flush → Option Flush
with_flush f a None best = best
with_flush f a (Some x) best = if (x.file == f) && is_before a x.follows then later_of x best else best

-- of the flushes of a file that are of the time before a state, the one that follows the greatest number, and of those the last
abbrev pub last_flush : ℕ → At → List Record → Option Flush
last_flush f a [] = None
last_flush f a (r ∷ rs) = with_flush f a (flush_in r.body) (last_flush f a rs)

-- the metadata of a file that was never flushed
abbrev pub no_meta : FileMeta
no_meta = record { size = 0; mtime = 0; mode = first_mode }

abbrev pub meta_of : Option Flush → FileMeta
meta_of None = no_meta
meta_of (Some x) = x.meta

abbrev pub meta_at : ℕ → At → List Record → FileMeta
meta_at f a rs = meta_of (last_flush f a rs)
