use Rattle.std.proofs.Common.{rules}
use Rattle.std.proofs.lemmas.List.Filters.{dedup_is}
use Rattle.std.proofs.lemmas.List.Kept.{Contains-dedup_nat, Contains-from_dedup}
use Rattle.std.proofs.lemmas.List.Sorted.{Contains-permutation, IsPermutation-sym}
use Rattle.std.proofs.lemmas.Map.Keys.{IsStrictlyIncreasing-dedup}
use Rattle.cs_snapctx.proofs.Descending.{IsDescending-reversed}
use Rattle.cs_snapctx.proofs.context.newest_first.Goals as goal

-- sorted without doubles, and then turned round
pub returns-clause-order : goal.returns-clause-order
returns-clause-order c =
    let is = dedup_is _ _ _ c.dedup.ensures.filtered in
    IsDescending-reversed c.dedup.new.self.items c.reverse.new.self.items c.dedup.new.self.len (rw is (IsStrictlyIncreasing-dedup _ c.sort_unstable.ensures.sorted)) c.reverse.ensures.by_index (search rules) (search rules)

pub returns-clause-members : goal.returns-clause-members
returns-clause-members c =
    let is = dedup_is _ _ _ c.dedup.ensures.filtered in
    let sorted = c.sort_unstable.ensures.permutation in
    let turned = c.reverse.ensures.permutation in
    λ s. (
      λ h. Contains-permutation _ _ s (IsPermutation-sym _ _ sorted)
          (Contains-from_dedup _ _ s (rw is at (Contains-permutation _ _ s (IsPermutation-sym _ _ turned) h))),
      λ h. Contains-permutation _ _ s turned (rw is (Contains-dedup_nat _ s (Contains-permutation _ _ s sorted h))),
    )
