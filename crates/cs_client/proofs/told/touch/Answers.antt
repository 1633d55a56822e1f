use Rattle.std.proofs.Common.{◌≡◌, ◌<◌, length, get_or}
use Rattle.cs_client.proofs.Touched.{touched_next}
use Rattle.cs_client.proofs.told.touch.Goals as goal

pub loop-change-preserved : goal.loop-change-preserved
loop-change-preserved c =
    let same = c.as_slice-change-items.ensures in
    let i = c.loop-change.change-index in
    let within : i < length c.args.changed.now = rw same at c.loop-change-test.true in
    let is : c.change-item.result ≡ get_or c.args.changed.now i c.change-item.result = rw same at c.change-item.is in
    touched_next c.args.changed.now i c.change-item.result c.args.touched.now.items c.loop-change.touched.items c.push.new.self.items
    within is c.loop-change.invariant c.in_ok-push.ensures.items
