use Rattle.std.proofs.Common.{◌≡◌, ◌+◌, ◌<◌, ◌∙◌, None, ap, subst, sym, arith}
use Rattle.std.specs.BTreeMap.{is_at}
use Rattle.std.specs.List.Sorted.{IsStrictlySortedBy}
use Rattle.std.specs.Map.{keys_of, lookup}
use Rattle.cs_laws.specs.Namespace.{first_made}
use Rattle.cs_names.specs.declared.table.EntryKey.{EntryKey}
use Rattle.cs_names.specs.declared.setup.SetupStep.TheVariants as steps
use Rattle.cs_names.specs.Setup.{after_step, setup_step}
use Rattle.cs_names.specs.Table.{key_cmp}
use Rattle.cs_names.proofs.Setups.{after-setup, free-name, made-step, setup_name-spelled, still-setup, unused-dir}
use Rattle.cs_names.proofs.Tables.{entered}
use Rattle.cs_names.proofs.names.Names.setup.Goals as goal

-- the key of the entry that is made
abbrev key_of : goal.In_ok-enter → EntryKey
key_of c = record { dir = c.get.result; name = c.in_ok-setup_name.field-0 }

free : (c : goal.In_ok-enter) → lookup (is_at (key_cmp (key_of c))) c.self.inside.entries.entries ≡ None
free c = free-name _ _ _ c.args.self.now c.self.view_is c.requires.first
    (key_of c) c.args.is_dir c.args.ino c.requires.greatest c.in_ok-setup_name.ensures (sym c.is_in_use.ensures ∙ c.if-is_in_use.false)

pub enter-requires-clause-new_dir : goal.enter-requires-clause-new_dir
enter-requires-clause-new_dir c = unused-dir c.self.invariant c.args.self.now c.self.view_is c.args.ino (sym c.is_in_use.ensures
    ∙ c.if-is_in_use.false)

pub invariant_of-self-2 : goal.invariant_of-self-2
invariant_of-self-2 c =
    let small : c.args.ino < first_made + c.self.inside.made = omega (arith, c.requires.greatest) in
    rw (c.in_ok-enter.ensures.entries, c.in_ok-enter.ensures.dirs, c.in_ok-enter.ensures.files)
    (entered c.self.invariant (key_of c) _ c.self.inside.made (free c) (rw c.in_ok-setup_name.ensures
    (setup_name-spelled c.args.is_dir c.args.ino c.requires.greatest))
    (unused-dir c.self.invariant c.args.self.now c.self.view_is c.args.ino (sym c.is_in_use.ensures
    ∙ c.if-is_in_use.false)) small (omega arith)
    (subst (λ es. IsStrictlySortedBy key_cmp (keys_of es)) c.in_ok-enter.ensures.entries c.in_ok-enter.ensures.ordered))

made : (c : goal.In_ok-enter) → setup_step c.args.ino c.args.dir c.args.self.now ≡ steps.Made
made c = made-step c.args.self.now c.args.ino c.args.dir (sym c.is_in_use.ensures ∙ c.if-is_in_use.false) (sym c.has_dir.ensures
    ∙ c.if-not-has_dir.false)

pub returns-clause-step : goal.returns-clause-step
returns-clause-step c = sym (made c)

pub returns-clause-names : goal.returns-clause-names
returns-clause-names c =
    rw (c.in_ok-enter.ensures.entries, c.in_ok-enter.ensures.files)
    (after-setup _ _ _ c.args.self.now c.self.view_is (key_of c) c.args.ino c.get.ensures.value
    (free c) c.args.is_dir c.in_ok-setup_name.ensures
    ∙ ap (λ s. after_step s c.args.is_dir c.args.ino c.args.dir c.args.self.now) (sym (made c)))

pub returns-clause-first : goal.returns-clause-first
returns-clause-first c =
    rw (c.in_ok-enter.ensures.entries, c.in_ok-enter.ensures.files)
    (still-setup _ _ _ c.args.self.now c.self.view_is (key_of c) c.args.ino c.get.ensures.value
    (free c) c.args.is_dir c.requires.first c.requires.greatest c.in_ok-setup_name.ensures)
