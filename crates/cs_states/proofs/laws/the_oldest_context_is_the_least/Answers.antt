use Rattle.cs_states.proofs.Picks.{oldest_is, some_under, none_owed, nothing_oldest}
use Rattle.cs_states.proofs.laws.the_oldest_context_is_the_least.Goals as goal

pub returns-clause-some : goal.returns-clause-some
returns-clause-some c = some_under

pub returns-clause-least : goal.returns-clause-least
returns-clause-least c = oldest_is

pub returns-clause-none : goal.returns-clause-none
returns-clause-none c = λ es. (none_owed es, nothing_oldest es)
