use Rattle.std.proofs.Common.{ap}
use Rattle.cs_states.specs.PageLists.{pick_under}
use Rattle.cs_states.proofs.Picks.{pick_is_lowest, pick_waits, pick_is_clean, nothing_oldest}
use Rattle.cs_states.proofs.laws.pick_names_the_lowest_page_of_the_oldest_context.Goals as goal

pub returns-clause-page : goal.returns-clause-page
returns-clause-page c = pick_is_lowest

pub returns-clause-waiting : goal.returns-clause-waiting
returns-clause-waiting c = pick_waits

pub returns-clause-clean : goal.returns-clause-clean
returns-clause-clean c = λ es. (pick_is_clean es, λ none. ap (λ o. pick_under o es) (nothing_oldest es none))
