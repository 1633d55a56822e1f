-- What the outcome of a step says of a device.
use Rattle.std.specs.Prelude.{◌≡◌, ℕ, ◌≤◌, Bool, true, Result, IsErrOf}
use Rattle.cs_ids.specs.Devices.{Rose}
use Rattle.cs_laws.specs.declared.faults.StepFault.{StepFault}

-- kind: the fault that the device may bring; calls: whether the step calls it; before, now: its count of faults
pub record FaultsOf {T : Type 0} (kind : StepFault) (calls : Bool) (before now : ℕ) (result : Result T StepFault) : Type 0 where
  -- the count never falls
  pub later : before ≤ now
  -- the fault comes only where the count rose in this step
  pub cause : IsErrOf result kind → Rose before now
  -- and only where the device is called
  pub called : IsErrOf result kind → calls ≡ true
