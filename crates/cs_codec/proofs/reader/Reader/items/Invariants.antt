use Rattle.std.proofs.Common.{◌≡◌, ◌-◌}
use Rattle.cs_codec.specs.Fields.{items_at}
use Rattle.cs_codec.proofs.Items.{with_front}
use Rattle.cs_codec.proofs.reader.Reader.items.Given as goal

abbrev pub invariant-loop-i : goal.invariant-loop-i
invariant-loop-i g l = with_front l.items (items_at g.T.Field.read (l.count - l._i) l.self) ≡ items_at g.T.Field.read l.count l.fn.self
