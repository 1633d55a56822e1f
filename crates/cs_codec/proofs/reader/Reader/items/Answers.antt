use Rattle.std.proofs.Common.{◌≡◌, subst, sym, arith, rules, ◌-◌, ◌+◌}
use Rattle.cs_codec.specs.Fields.{items_at}
use Rattle.cs_codec.proofs.Items.{ends, goes_on, is_done, with_front}
use Rattle.cs_codec.proofs.reader.Reader.items.Goals as goal

pub returns-in_default : goal.returns-in_default
returns-in_default g c = ends g.T.Field.read c.loop-i.items c.args.count c.loop-i._i c.loop-i.self _ (omega arith) (search rules) c.loop-i.invariant

pub loop-i-preserved : goal.loop-i-preserved
loop-i-preserved g c =
    subst
    (λ xs. with_front xs (items_at g.T.Field.read (c.args.count - (c.loop-i._i + 1)) c.read_from.new.reader)
    ≡ items_at g.T.Field.read c.args.count c.args.self.now)
    (sym c.in_ok-push.ensures.ok)
    (goes_on g.T.Field.read c.loop-i.items c.args.count c.loop-i._i c.loop-i.self c.in-Some.item c.read_from.new.reader
    _ (omega arith) (search rules) c.loop-i.invariant)

pub returns : goal.returns
returns g c = is_done g.T.Field.read c.loop-i.items c.args.count c.loop-i._i c.loop-i.self _ (omega arith) c.loop-i.invariant
