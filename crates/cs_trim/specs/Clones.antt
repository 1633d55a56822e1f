-- Which clones of an object are kept, the oldest first.
use Rattle.std.specs.Prelude.{ℕ, zero, suc, ◌+◌, ◌-◌, ◌==◌, ◌&&◌, ◌||◌, max, Bool, true, false, not, nat_lt, nat_le, List, [], ◌∷◌, ◌++◌, filter, length, if◌then◌else◌}
use Rattle.cs_trim.specs.declared.numbers.SnapStatus.{SnapStatus}
use Rattle.cs_trim.specs.declared.numbers.SnapStatus.TheVariants.{NoSnap, Gone, Standing}
use Rattle.cs_trim.specs.declared.object.Span.{Span}
use Rattle.cs_trim.specs.Objects.{Write, writes}
use Rattle.cs_trim.specs.Steps.{Step, taken, removed, wrote, trimmed, drawn, status}

-- the number is in the span
abbrev pub has : ℕ → Span → Bool
has n k = nat_lt k.above n && nat_le n k.upto

-- the greatest seq of a write
abbrev pub greatest : List Write → ℕ
greatest [] = 0
greatest (w ∷ ws) = max w.seq (greatest ws)

-- a write with the seq q to an object with these writes makes a clone, where there are some and all their seqs are below q
abbrev pub made : ℕ → List Write → List Span
made q [] = []
made q (w ∷ ws) = if nat_lt (greatest (w ∷ ws)) q then record { above = greatest (w ∷ ws); upto = q } ∷ [] else []

abbrev pub is_standing : SnapStatus → Bool
is_standing Standing = true
is_standing Gone = false
is_standing NoSnap = false

-- one of the count numbers above a number is that of a standing snapshot
abbrev pub any_standing : (ℕ → SnapStatus) → ℕ → ℕ → Bool
any_standing statuses above zero = false
any_standing statuses above (suc count) = is_standing (statuses (above + 1)) || any_standing statuses (above + 1) count

-- a standing snapshot lies in the span
abbrev pub serves : List Step → Span → Bool
serves h k = any_standing (status h) k.above (k.upto - k.above)

-- the spans of the clones of an object that are kept: a clone is, until a trim at which no standing snapshot lies in its span
abbrev pub kept : ℕ → List Step → List Span
kept b [] = []
kept b (wrote c off bytes ∷ h) = if c == b then kept b h ++ made (drawn h) (writes b h) else kept b h
kept b (trimmed ∷ h) = filter (serves h) (kept b h)
kept b (taken ∷ h) = kept b h
kept b (removed s ∷ h) = kept b h

-- how many clones of the objects below a number a trim gives up
abbrev pub given_up : ℕ → List Step → ℕ
given_up zero h = 0
given_up (suc b) h = given_up b h + length (filter (λ k. not (serves h k)) (kept b h))
