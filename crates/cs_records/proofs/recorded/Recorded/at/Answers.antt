use Rattle.std.proofs.Common.{◌≡◌, ◌∙◌, sym}
use Rattle.cs_records.proofs.RecordedAt.{last_recorded_some, last_recorded_none}
use Rattle.cs_records.proofs.recorded.Recorded.at.Goals as goal

pub returns-in-Some : goal.returns-in-Some
returns-in-Some c =
    let is : c.deref.result.now ≡ c.args.self.now = c.deref.ensures.value ∙ c.self.view_is in
    let count = c.count_before-count in
    last_recorded_some c.args.at count.result c.args.self.now c.in-Some.field-0.now count.ensures.bound count.ensures.point
    (rw is at (sym c.in-Some.ensures.value))

pub returns-in-None : goal.returns-in-None
returns-in-None c =
    let is : c.deref.result.now ≡ c.args.self.now = c.deref.ensures.value ∙ c.self.view_is in
    let count = c.count_before-count in
    c.unflushed.ensures
    ∙ last_recorded_none c.args.at count.result c.args.self.now count.ensures.bound count.ensures.point (rw is at (sym c.in-None.ensures.value))
