use Rattle.cs_laws.proofs.answers.Answer.TheSendSync as answer
use Rattle.cs_laws.proofs.answers.Entry.TheSendSync as entry
use Rattle.cs_laws.proofs.events.Event.TheSendSync as event
use Rattle.cs_laws.proofs.messages.Message.TheSendSync as message
use Rattle.cs_laws.proofs.records.Record.TheSendSync as log_record
use Rattle.cs_laws.proofs.objects.ObjOp.TheSendSync as obj_op
use Rattle.cs_laws.proofs.laws.values_may_cross_threads.Goals as goal

pub returns-clause-entries : goal.returns-clause-entries
returns-clause-entries c = (answer.the_send, entry.the_send, event.the_send)

pub returns-clause-messages : goal.returns-clause-messages
returns-clause-messages c = (message.the_send, log_record.the_send)

pub returns-clause-objects : goal.returns-clause-objects
returns-clause-objects c = obj_op.the_send
