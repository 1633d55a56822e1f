use Rattle.std.proofs.Common.{sym, ap, ◌∙◌, arith}
use Rattle.cs_gate.proofs.MovesKept.{split_allowed}
use Rattle.cs_gate.proofs.pass.Pass.split_off.Goals as goal

pub split_seat-seat-requires : goal.split_seat-seat-requires
split_seat-seat-requires c = (
  c.requires.seat ∙ sym (ap (λ g. g.word.shared.table_id) (c.deref.ensures ∙ c.in_ok-gate.ensures)),
  (let words = c.deref.result.now.one_word in omega arith),
  split_allowed _ _ _ c.requires.spare,
)
