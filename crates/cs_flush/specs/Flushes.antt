-- A file's dirty metadata and its unacknowledged flushes, in the order in which they were sent.
use Rattle.std.specs.Prelude.{ℕ, ◌<◌, ◌==◌, Bool, nat_le, nat_lt, List, [], ◌∷◌, ◌++◌, max, count_by, filter, AllPairs, if◌then◌else◌}
use Rattle.std.specs.List.{list_any}
use Rattle.cs_bits.specs.declared.Caps.{Caps}
use Rattle.cs_bits.specs.Bits.{no_caps}
use Rattle.cs_ids.specs.declared.objects.FileMeta.{FileMeta}
use Rattle.cs_flush.specs.declared.sent.Sent.{Sent}
use Rattle.cs_flush.specs.declared.sent.FlushAck.{FlushAck}
use Rattle.cs_flush.specs.declared.sent.FlushAck.TheVariants.{Retired, Unknown}

-- what contracts see of them
pub record FileFlushes : Type 0 where
  pub dirty : Caps
  pub unacked : List Sent

-- each number is less than all behind it
abbrev pub IsRising : List Sent → Type 0
IsRising xs = AllPairs (λ x y. x.tid < y.tid) xs

-- the greatest number, or 0 where no flush is unacknowledged
abbrev pub greatest_tid : List Sent → ℕ
greatest_tid [] = 0
greatest_tid (x ∷ xs) = max x.tid (greatest_tid xs)

abbrev pub has_tid : ℕ → List Sent → Bool
has_tid tid xs = list_any (λ x. x.tid == tid) xs

-- a flush goes to the end, and nothing is dirty
abbrev pub started : ℕ → ℕ → FileMeta → FileFlushes → FileFlushes
started tid follows meta f =
    record { dirty = no_caps; unacked = f.unacked ++ record { tid = tid; follows = follows; meta = meta } ∷ [] }

-- the flushes that stay where those up to a number are retired
abbrev pub retired : ℕ → List Sent → List Sent
retired tid xs = filter (λ x. nat_lt tid x.tid) xs

-- and how many are retired
abbrev pub retired_count : ℕ → List Sent → ℕ
retired_count tid xs = count_by (λ x. nat_le x.tid tid) xs

-- an acknowledgement of the number of an unacknowledged flush retires those up to it, and no other does
abbrev pub after_ack : ℕ → List Sent → List Sent
after_ack tid xs = if has_tid tid xs then retired tid xs else xs

abbrev pub answer : ℕ → List Sent → FlushAck
answer tid xs = if has_tid tid xs then Retired (retired_count tid xs) else Unknown

-- a fact of the count, where flushes were retired
abbrev pub IfRetired : FlushAck → (ℕ → Type 0) → Type 0
IfRetired (Retired count) P = P count
IfRetired Unknown P = Unit {0}
