use Rattle.cs_records.proofs.Changed.{snap_records}
use Rattle.cs_records.proofs.laws.a_snapshot_tells_its_realm_and_those_now_below.Goals as goal

pub returns : goal.returns
returns c = snap_records
