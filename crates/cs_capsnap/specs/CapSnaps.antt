-- A file's cap snaps, in the order in which they were queued.
use Rattle.std.specs.Prelude.{◌≡◌, ℕ, ◌==◌, Bool, false, true, not, nat_lt, List, [], ◌∷◌, Option, Some, None, is_none, unwrap_or, max, find, map, if◌then◌else◌}
use Rattle.std.specs.List.{list_any, filter_map}
use Rattle.std.specs.Option.{option_map, option_map_or}
use Rattle.cs_ids.specs.declared.objects.FileMeta.{FileMeta}
use Rattle.cs_snapctx.specs.Context.{Context}
use Rattle.cs_capsnap.specs.declared.snap.CapSnap.{CapSnap}
use Rattle.cs_capsnap.specs.declared.snap.Ready.{Ready}
use Rattle.cs_capsnap.specs.declared.snap.Ready.TheVariants as ready

-- the number of the context that the file had
abbrev pub follows : CapSnap → ℕ
follows x = x.context.seq

-- a cap snap as it is queued
abbrev pub queued : Context → Bool → FileMeta → CapSnap
queued old writing meta = record { context = old; meta = meta; writing = writing; tid = None }

-- the one that is writing
abbrev pub writing_snap : List CapSnap → Option CapSnap
writing_snap xs = find (λ x. x.writing) xs

abbrev pub is_writing : List CapSnap → Bool
is_writing xs = list_any (λ x. x.writing) xs

abbrev pub writing_context : List CapSnap → Option Context
writing_context xs = option_map (λ x. x.context) (writing_snap xs)

-- where it is writing, size and mtime are fixed, and the mode stays
abbrev pub fixed : ℕ → ℕ → CapSnap → CapSnap
fixed size mtime x =
    if x.writing then record x { meta = record x.meta { size = size; mtime = mtime }; writing = false } else x

abbrev pub finished : ℕ → ℕ → List CapSnap → List CapSnap
finished size mtime xs = map (fixed size mtime) xs

abbrev pub is_unsent : CapSnap → Bool
is_unsent x = is_none x.tid

abbrev pub first_unsent : List CapSnap → Option CapSnap
first_unsent xs = find is_unsent xs

abbrev pub first_follows : List CapSnap → Option ℕ
first_follows xs = option_map follows (first_unsent xs)

-- whether the first unsent one can be sent, where so many pages are owed under contexts up to its own
abbrev pub readiness : ℕ → Option CapSnap → Ready
readiness owed None = ready.NoneQueued
readiness owed (Some x) =
    if x.writing then ready.Writing else if owed == 0 then ready.Ready x.meta (follows x) else ready.PagesLeft owed

-- the first unsent one is there and isn't writing
abbrev pub can_send : List CapSnap → Bool
can_send xs = option_map_or (λ x. not x.writing) (first_unsent xs) false

-- only what can be sent is called ready
abbrev pub CallsReady : List CapSnap → Ready → Type 0
CallsReady xs (ready.Ready meta follows) = can_send xs ≡ true
CallsReady xs ready.Writing = Unit {0}
CallsReady xs (ready.PagesLeft count) = Unit {0}
CallsReady xs ready.NoneQueued = Unit {0}

-- it is sent in the flush of this number
abbrev pub sent_as : ℕ → CapSnap → CapSnap
sent_as tid x = record x { tid = Some tid }

-- the first unsent one is sent
abbrev pub with_first_sent : ℕ → List CapSnap → List CapSnap
with_first_sent tid [] = []
with_first_sent tid (x ∷ xs) = if is_unsent x then sent_as tid x ∷ xs else x ∷ with_first_sent tid xs

-- the greatest number of a flush, or 0 where none is sent
abbrev pub greatest_tid : List CapSnap → ℕ
greatest_tid [] = 0
greatest_tid (x ∷ xs) = max (unwrap_or x.tid 0) (greatest_tid xs)

abbrev pub is_sent_as : ℕ → CapSnap → Bool
is_sent_as tid x = option_map_or (λ t. t == tid) x.tid false

abbrev pub has_tid : ℕ → List CapSnap → Bool
has_tid tid xs = list_any (is_sent_as tid) xs

-- the one of this number leaves
abbrev pub without_tid : ℕ → List CapSnap → List CapSnap
without_tid tid [] = []
without_tid tid (x ∷ xs) = if is_sent_as tid x then xs else x ∷ without_tid tid xs

-- some context's number is below s
abbrev pub has_unacked_below : ℕ → List CapSnap → Bool
has_unacked_below s xs = list_any (λ x. nat_lt (follows x) s) xs

-- the flush of one that was sent: its number, what it follows and its metadata
abbrev pub flush : CapSnap → Option (ℕ × ℕ × FileMeta)
flush x = option_map (λ tid. (tid, follows x, x.meta)) x.tid

-- those that were sent and aren't acked, and the numbers of their flushes
abbrev pub unacked : List CapSnap → List (ℕ × ℕ × FileMeta)
unacked xs = filter_map flush xs

abbrev pub unacked_tids : List CapSnap → List ℕ
unacked_tids xs = map (λ u. u.0) (unacked xs)
