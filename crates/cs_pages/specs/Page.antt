-- One page: its bytes, what is owed of it, and the steps that change it. None is a page that isn't
-- cached.
use Rattle.std.specs.Prelude.{ℕ, ◌+◌, ◌==◌, Bool, List, ◌++◌, Option, Some, None, is_some, take, drop, length, if◌then◌else◌}
use Rattle.std.specs.Option.{option_map}
use Rattle.cs_snapctx.specs.Context.{Context}
use Rattle.cs_states.specs.declared.page.PageState.{PageState}
use Rattle.cs_states.specs.declared.page.PageState.TheVariants as states
use Rattle.cs_states.specs.PageState.{is_in}
use Rattle.cs_pages.specs.declared.page.Filled.{Filled}
use Rattle.cs_pages.specs.declared.page.Filled.TheVariants as fills
use Rattle.cs_pages.specs.declared.page.Owed.{Owed}
use Rattle.cs_pages.specs.declared.page.Page.{Page}

-- bytes written over others from a place on
abbrev pub overwritten : ℕ → List ℕ → List ℕ → List ℕ
overwritten at bytes old = take at old ++ (bytes ++ drop (at + length bytes) old)

-- what it is to the client
abbrev pub sent_state : ℕ → Option ℕ → PageState
sent_state q None = states.Dirty q
sent_state q (Some t) = states.Sent q t

abbrev pub owed_state : Option Owed → PageState
owed_state None = states.Clean
owed_state (Some o) = sent_state o.context.seq o.tid

abbrev pub page_state : Page → PageState
page_state x = owed_state x.owed

abbrev pub state_of : Option Page → PageState
state_of None = states.Absent
state_of (Some x) = page_state x

-- the context under which it is owed
abbrev pub context_of : Option Page → Option Context
context_of None = None
context_of (Some x) = option_map (λ o. o.context) x.owed

-- a page of the store is put into the cache, where so many more may be
abbrev pub fill_answer : ℕ → Filled
fill_answer free = if free == 0 then fills.Room else fills.Filled

abbrev pub filled : List ℕ → Page
filled bytes = record { bytes = bytes; owed = None }

-- bytes are written into it from a place on, under a context; one that isn't cached is covered whole
abbrev pub bytes_after : ℕ → List ℕ → Option Page → List ℕ
bytes_after at bytes None = bytes
bytes_after at bytes (Some x) = overwritten at bytes x.bytes

abbrev pub dirtied : Context → ℕ → List ℕ → Option Page → Page
dirtied ctx at bytes x =
    record { bytes = bytes_after at bytes x; owed = Some (record { context = ctx; tid = None }) }

-- it is sent in an operation
abbrev pub sent_as : ℕ → Page → Page
sent_as tid x = record x { owed = option_map {T = Owed} (λ o. record o { tid = Some tid }) x.owed }

-- the operation is acknowledged in which it is sent, and it is kept or dropped
abbrev pub cleaned : Page → Page
cleaned x = record x { owed = None }

abbrev pub after_ack : Bool → ℕ → Option Page → Option Page
after_ack keep tid None = None
after_ack keep tid (Some x) =
    if is_in tid (page_state x) then (if keep then Some (cleaned x) else None) else Some x

-- it is dropped where it is clean
abbrev pub after_drop : Option Page → Option Page
after_drop None = None
after_drop (Some x) = if is_some x.owed then Some x else None
