use Rattle.std.proofs.Common.{◌≡◌, ◌∙◌, ap, is_some}
use Rattle.cs_parts.specs.References.{ref_named}
use Rattle.cs_refs.proofs.Entries.{lookup-named, is_some-ref_named}
use Rattle.cs_refs.proofs.table.Refs.find.Goals as goal

found_one : (c : goal.After-copied) → c.copied.result ≡ ref_named c.args.caller c.args.number c.args.self.now.live
found_one c =
    rw (← c.self.view_is) (c.copied.ensures ∙ c.get.ensures.value ∙ lookup-named _ c.args.caller c.args.number _ c.self.invariant.each)

pub returns-clause-found : goal.returns-clause-found
returns-clause-found c = found_one c

pub returns-clause-lives : goal.returns-clause-lives
returns-clause-lives c = ap is_some (found_one c) ∙ is_some-ref_named c.args.caller c.args.number c.args.self.now.live
