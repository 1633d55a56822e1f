use Rattle.cs_flush.proofs.flushes.Flushes.TheSendSync as flushes
use Rattle.cs_flush.proofs.report.FlushReport.TheSendSync as flush_report
use Rattle.cs_flush.proofs.sent.FlushAck.TheSendSync as flush_ack
use Rattle.cs_flush.proofs.sent.Sent.TheSendSync as sent
use Rattle.cs_flush.proofs.laws.values_may_cross_threads.Goals as goal

pub returns-clause-flushes : goal.returns-clause-flushes
returns-clause-flushes c = (flushes.the_send, sent.the_send, flush_ack.the_send)

pub returns-clause-reports : goal.returns-clause-reports
returns-clause-reports c = flush_report.the_send
