use Rattle.std.proofs.Common.{◌∙◌, refl, sym, ap, arith}
use Rattle.cs_client.specs.Contexts.{nearest_context}
use Rattle.cs_client.proofs.Nearest.{found_here, not_here}
use Rattle.cs_client.proofs.Nearest.{none_left}
use Rattle.cs_client.proofs.contexts.nearest_context.Goals as goal

pub loop-directory-init : goal.loop-directory-init
loop-directory-init c = refl

pub returns-then-is_some : goal.returns-then-is_some
returns-then-is_some c =
    c.context-found.ensures.value
    ∙ found_here c.args.path.now c.args.realms.now c.loop-directory.directory-index c.directory-item.result c.is_some.result
    c.loop-directory-test.true c.directory-item.is
    c.loop-directory.invariant (rw c.is_some.ensures c.context-found.ensures.unknown) c.if-is_some.true

pub loop-directory-preserved : goal.loop-directory-preserved
loop-directory-preserved c =
    not_here c.args.path.now c.args.realms.now c.loop-directory.directory-index c.directory-item.result c.loop-directory-test.true c.directory-item.is
    c.loop-directory.invariant (c.context-found.ensures.unknown.0 (sym c.is_some.ensures ∙ c.if-is_some.false))

pub returns : goal.returns
returns c =
    let path = c.args.path.now in
    let none = none_left path c.loop-directory.directory-index (omega (arith, c.loop-directory-test.false)) in
    ap (λ ds. nearest_context ds c.args.realms.now) (sym none) ∙ c.loop-directory.invariant
