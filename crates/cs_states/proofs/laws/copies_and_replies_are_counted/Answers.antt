use Rattle.cs_states.proofs.Counts.{copies_counted, replies_counted, acked_by_a_reply}
use Rattle.cs_states.proofs.laws.copies_and_replies_are_counted.Goals as goal

pub returns-clause-copies : goal.returns-clause-copies
returns-clause-copies c = copies_counted

pub returns-clause-replies : goal.returns-clause-replies
returns-clause-replies c = replies_counted

pub returns-clause-acked : goal.returns-clause-acked
returns-clause-acked c = acked_by_a_reply
