use Rattle.std.proofs.Common.{◌≡◌, ◌∙◌, Some, subst, sym}
use Rattle.std.specs.BTreeMap.{is_at}
use Rattle.std.specs.List.Sorted.{IsStrictlySortedBy}
use Rattle.std.specs.Map.{keys_of, lookup}
use Rattle.cs_names.specs.Table.{key_cmp}
use Rattle.cs_names.proofs.Steps.{after-gone, gone-there}
use Rattle.cs_names.proofs.Tables.{left}
use Rattle.cs_names.proofs.names.Names.unlink.Goals as goal

pub unreachable-requires : goal.unreachable-requires
unreachable-requires c =
    gone-there _ _ _ c.args.self.now c.self.view_is c.in_ok-key.key c.in_ok-key.ensures.dir c.in_ok-key.ensures.name
    (sym c.in_ok-answer.ensures ∙ c.in-Gone.is) (sym c.get.ensures.value ∙ (sym c.copied.ensures ∙ c.in_default-copied.is))

found : (c : goal.After-drop-key) → lookup (is_at (key_cmp c.in_ok-key.key)) c.self.inside.entries.entries
    ≡ Some c.in-Some.entry
found c = sym c.get.ensures.value ∙ (sym c.copied.ensures ∙ c.in-Some.is)

pub invariant_of-self : goal.invariant_of-self
invariant_of-self c =
    rw c.leave.ensures.entries
    (left c.self.invariant c.in_ok-key.key c.in-Some.entry c.leave.new.dirs.keys (found c) c.leave.ensures.dirs
    (subst (λ es. IsStrictlySortedBy key_cmp (keys_of es)) c.leave.ensures.entries c.leave.ensures.ordered))

pub returns-clause-names : goal.returns-clause-names
returns-clause-names c =
    rw c.leave.ensures.entries
    (after-gone _ _ _ c.args.self.now c.self.view_is c.in_ok-key.key c.in_ok-key.ensures.dir c.in_ok-key.ensures.name
    c.self.invariant.ordered)
