use Rattle.std.proofs.Common.{◌≡◌, ◌+◌, ◌∙◌, None, false, subst, sym, arith}
use Rattle.std.specs.BTreeMap.{is_at}
use Rattle.std.specs.List.Sorted.{IsStrictlySortedBy}
use Rattle.std.specs.Map.{keys_of, lookup}
use Rattle.cs_laws.specs.Namespace.{first_made, has_entry, next_ino}
use Rattle.cs_names.specs.Table.{key_cmp}
use Rattle.cs_names.proofs.Entries.{none_from_some}
use Rattle.cs_names.proofs.Tables.{entered}
use Rattle.cs_names.proofs.Steps.{after-made, after-unmade, has_entry-lookup, made-is}
use Rattle.cs_names.proofs.names.Names.make.Goals as goal

pub returns-in_default-clause-names : goal.returns-in_default-clause-names
returns-in_default-clause-names c =
    after-unmade c.args.self.now c.args.dir c.args.name.now c.args.is_dir c.in_ok-answer.answer c.in_default.not-Made

told : (c : goal.After-self-1) → (has_entry c.args.self.now c.args.dir c.args.name.now ≡ false) × (c.in-Made.ino ≡ next_ino c.args.self.now)
told c = made-is c.args.self.now c.args.dir c.args.name.now c.in-Made.ino (sym c.in_ok-answer.ensures ∙ c.in-Made.is)

free_key : (c : goal.After-self-1) → lookup (is_at (key_cmp c.in_ok-key.key)) c.self.inside.entries.entries ≡ None
free_key c =
    none_from_some _ (sym (has_entry-lookup _ _ _ c.args.self.now c.self.view_is c.in_ok-key.key c.in_ok-key.ensures.dir
    c.in_ok-key.ensures.name) ∙ (told c).0)

number_is : (c : goal.After-self-1) → c.in-Made.ino ≡ first_made + c.self.inside.made
number_is c = (told c).1 ∙ (λ j. next_ino (sym c.self.view_is j))

pub invariant_of-self-2 : goal.invariant_of-self-2
invariant_of-self-2 c =
    rw (c.in_ok-enter.ensures.entries, c.in_ok-enter.ensures.dirs, c.in_ok-enter.ensures.files)
    (entered c.self.invariant c.in_ok-key.key _ (c.self.inside.made + 1) (free_key c) c.in_ok-key.ensures.spelled
    (c.self.invariant.new_dir c.in-Made.ino (omega (arith, number_is c))) (omega (arith, number_is c)) (omega arith)
    (subst (λ es. IsStrictlySortedBy key_cmp (keys_of es)) c.in_ok-enter.ensures.entries c.in_ok-enter.ensures.ordered))

pub returns-clause-names : goal.returns-clause-names
returns-clause-names c =
    rw (c.in_ok-enter.ensures.entries, c.in_ok-enter.ensures.files)
    (after-made _ _ _ c.args.self.now c.self.view_is c.in_ok-key.key c.in_ok-key.ensures.dir c.in_ok-key.ensures.name c.in-Made.ino
    c.args.is_dir (free_key c))
