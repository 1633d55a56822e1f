use Rattle.cs_codec.proofs.reader.Reader.TheSendSync as reader
use Rattle.cs_codec.proofs.laws.values_may_cross_threads.Goals as goal

pub returns : goal.returns
returns c = reader.the_send
