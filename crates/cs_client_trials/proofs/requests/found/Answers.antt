use Rattle.cs_client_trials.proofs.Made.{found_none, none_new}
use Rattle.cs_client_trials.proofs.requests.found.Goals as goal

pub delivered-requires : goal.delivered-requires
delivered-requires c = none_new _ _ _ (found_none _ _)
