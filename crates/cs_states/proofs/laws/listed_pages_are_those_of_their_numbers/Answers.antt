use Rattle.cs_states.proofs.Listed.{listed_same, listed_ascends}
use Rattle.cs_states.proofs.laws.listed_pages_are_those_of_their_numbers.Goals as goal

pub returns-clause-same : goal.returns-clause-same
returns-clause-same c = listed_same

pub returns-clause-order : goal.returns-clause-order
returns-clause-order c = listed_ascends
