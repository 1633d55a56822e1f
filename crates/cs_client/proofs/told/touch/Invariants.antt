use Rattle.std.proofs.Common.{◌≡◌, ◌++◌, map, take}
use Rattle.cs_client.proofs.told.touch.Given as goal

abbrev pub invariant-loop-change : goal.invariant-loop-change
invariant-loop-change l = l.touched.items ≡ l.fn.touched.items ++ map (λ c. c.realm) (take l.change-index l.changed)
