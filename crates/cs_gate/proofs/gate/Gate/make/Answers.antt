use Rattle.cs_gate.proofs.MovesKept.{opened}
use Rattle.cs_gate.proofs.gate.Gate.make.Goals as goal

pub of_words-requires : goal.of_words-requires
of_words-requires c = opened _ _ (c.requires.few, c.requires.range) c.first_word-first.ensures
