use Rattle.std.proofs.Common.{◌≡◌, ◌++◌, nat_le, filter, take}
use Rattle.cs_snapctx.proofs.context.gathered.Given as goal

abbrev pub invariant-loop-s : goal.invariant-loop-s
invariant-loop-s l = l.all.items ≡ (l.own ++ l.prior) ++ filter (nat_le l.since) (take l.s-index l.parent)
