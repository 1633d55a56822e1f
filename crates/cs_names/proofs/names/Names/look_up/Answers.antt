use Rattle.std.proofs.Common.{◌∙◌, ap, sym}
use Rattle.std.specs.Option.{option_copied, option_map}
use Rattle.cs_laws.specs.Namespace.{found}
use Rattle.cs_names.proofs.Entries.{named_at}
use Rattle.cs_names.proofs.Steps.{entry_at-lookup, within-none}
use Rattle.cs_names.proofs.names.Names.look_up.Goals as goal
use Rattle.cs_names.proofs.names.Names.look_up.Goals.{in-Some-get, in-None}

pub returns : goal.returns
returns c =
    let none = sym c.refusal.ensures ∙ c.in_default.is in
    let entry = entry_at-lookup _ _ _ c.args.self.now c.self.view_is c.in_ok-key.key c.in_ok-key.ensures.dir c.in_ok-key.ensures.name in
    let told = within-none c.args.self.now c.args.dir _ none ∙ ap found (entry
    ∙ ap (option_map (named_at c.in_ok-key.key)) (sym c.get.ensures.value)) in
    elim c.match-get.branch [
      | in-Some-get w ↦ w.result-is ∙ sym (told ∙ ap (λ o. found (option_map (named_at c.in_ok-key.key)
          (option_copied o))) w.in-Some-get.is)
      | in-None w ↦ w.result-is ∙ sym (told ∙ ap (λ o. found (option_map (named_at c.in_ok-key.key) (option_copied o))) w.in-None.is)
    ]
