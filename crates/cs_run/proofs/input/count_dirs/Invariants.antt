use Rattle.std.proofs.Common.{◌≡◌, count_by, take}
use Rattle.cs_run.specs.Inputs.{is_dir}
use Rattle.cs_run.proofs.input.count_dirs.Given as goal

-- so many of those so far
abbrev pub invariant-loop-event : goal.invariant-loop-event
invariant-loop-event l = l.count ≡ count_by is_dir (take l.event-index l.fn.events)
