use Rattle.cs_client_trials.proofs.Made.{gone_none, none_new}
use Rattle.cs_client_trials.proofs.requests.gone.Goals as goal

pub delivered-requires : goal.delivered-requires
delivered-requires c = none_new _ _ _ (gone_none _)
