use Rattle.std.proofs.Common.{sym, subst}
use Rattle.cs_snapctx.specs.Records.{with_records}
use Rattle.cs_tree.specs.Directories.{path_of}
use Rattle.cs_client.specs.Told.{ContextsRise}
use Rattle.cs_client.specs.Views.{ClientView}
use Rattle.cs_client.proofs.client.Client.deliver_realms.Goals as goal

pub deliver_realms-requires-clause-rises : goal.deliver_realms-requires-clause-rises
deliver_realms-requires-clause-rises c =
    let i = c.self.inside in
    let rises : ContextsRise (path_of i.tree) (with_records c.args.told.now i.realms) i.files =
    subst (λ (v : ClientView). ContextsRise (path_of v.tree) (with_records c.args.told.now v.realms) v.files) (sym c.self.view_is) c.requires.rises in
    subst (λ ts. ContextsRise (path_of i.tree) (with_records ts i.realms) i.files) (sym c.as_slice-2.ensures) rises
