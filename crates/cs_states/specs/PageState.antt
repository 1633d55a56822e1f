-- What a page of a file is to the client, and the steps that change it.
use Rattle.std.specs.Prelude.{ℕ, ◌==◌, Bool, true, false, nat_lt, nat_le, Option, Some, None, if◌then◌else◌}
use Rattle.std.specs.Option.{option_map_or}
use Rattle.cs_states.specs.declared.page.PageState.{PageState}
use Rattle.cs_states.specs.declared.page.PageState.TheVariants as states
use Rattle.cs_states.specs.declared.page.PageWrite.{PageWrite}
use Rattle.cs_states.specs.declared.page.PageWrite.TheVariants as writes

-- the number of the context under which it is owed
abbrev pub owed_seq : PageState → Option ℕ
owed_seq states.Absent = None
owed_seq states.Clean = None
owed_seq (states.Dirty q) = Some q
owed_seq (states.Sent q t) = Some q

-- owed under this context, or under one up to it
abbrev pub is_under : ℕ → PageState → Bool
is_under q s = option_map_or (λ r. r == q) (owed_seq s) false

abbrev pub is_up_to : ℕ → PageState → Bool
is_up_to q s = option_map_or (λ r. nat_le r q) (owed_seq s) false

-- owed under this context, and not sent
abbrev pub is_waiting : ℕ → PageState → Bool
is_waiting q states.Absent = false
is_waiting q states.Clean = false
is_waiting q (states.Dirty r) = r == q
is_waiting q (states.Sent r t) = false

-- sent in the operation of this number
abbrev pub is_in : ℕ → PageState → Bool
is_in t states.Absent = false
is_in t states.Clean = false
is_in t (states.Dirty r) = false
is_in t (states.Sent r u) = u == t

abbrev pub is_clean : PageState → Bool
is_clean states.Absent = false
is_clean states.Clean = true
is_clean (states.Dirty r) = false
is_clean (states.Sent r t) = false

-- what becomes of a write under the context of number q, of the whole page or of a part, where so many
-- pages are free
abbrev pub write_answer : ℕ → Bool → ℕ → PageState → PageWrite
write_answer q whole free states.Absent =
    if free == 0 then writes.Room else if whole then writes.Written else writes.NeedFill
write_answer q whole free states.Clean = writes.Written
write_answer q whole free (states.Dirty r) = if nat_lt r q then writes.Older r else writes.Written
write_answer q whole free (states.Sent r t) = if nat_lt r q then writes.Older r else writes.InFlight t

-- a page of the store is put into the cache
abbrev pub after_fill : PageState → PageState
after_fill states.Absent = states.Clean
after_fill states.Clean = states.Clean
after_fill (states.Dirty q) = states.Dirty q
after_fill (states.Sent q t) = states.Sent q t

-- an owed page is sent in the operation of number t
abbrev pub after_send : ℕ → PageState → PageState
after_send t states.Absent = states.Absent
after_send t states.Clean = states.Clean
after_send t (states.Dirty q) = states.Sent q t
after_send t (states.Sent q u) = states.Sent q t

-- the operation of number t is acknowledged: its page is kept, and clean, or dropped
abbrev pub kept : Bool → PageState
kept keep = if keep then states.Clean else states.Absent

abbrev pub after_ack : Bool → ℕ → PageState → PageState
after_ack keep t states.Absent = states.Absent
after_ack keep t states.Clean = states.Clean
after_ack keep t (states.Dirty q) = states.Dirty q
after_ack keep t (states.Sent q u) = if u == t then kept keep else states.Sent q u

-- it is dropped where it is clean
abbrev pub after_drop : PageState → PageState
after_drop states.Absent = states.Absent
after_drop states.Clean = states.Absent
after_drop (states.Dirty q) = states.Dirty q
after_drop (states.Sent q t) = states.Sent q t
