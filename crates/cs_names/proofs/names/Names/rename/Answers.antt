use Rattle.std.proofs.Common.{◌≡◌, ◌∙◌, None, Some, subst, sym}
use Rattle.std.specs.BTreeMap.{insert_entry, is_at}
use Rattle.std.specs.List.Sorted.{IsStrictlySortedBy}
use Rattle.std.specs.Map.{keys_of, lookup}
use Rattle.cs_names.specs.Table.{key_cmp}
use Rattle.cs_names.proofs.Entries.{none_from_some}
use Rattle.cs_names.proofs.Steps.{after-moved, has_entry-lookup, moved-is, moved-there, still_there}
use Rattle.cs_names.proofs.Tables.{renamed}
use Rattle.cs_names.proofs.names.Names.rename.Goals as goal

pub unreachable-requires : goal.unreachable-requires
unreachable-requires c =
    moved-there _ _ _ c.args.self.now c.self.view_is c.in_ok-key.key c.in_ok-key.ensures.dir c.in_ok-key.ensures.name
    c.args.new_name.now (sym c.in_ok-answer.ensures ∙ c.in-Moved.is)
    (sym c.get.ensures.value ∙ (sym c.copied.ensures ∙ c.in_default-copied.is))

found : (c : goal.After-drop-key-2) → lookup (is_at (key_cmp c.in_ok-key.key)) c.self.inside.entries.entries
    ≡ Some c.in-Some.entry
found c = sym c.get.ensures.value ∙ (sym c.copied.ensures ∙ c.in-Some.is)

free : (c : goal.After-drop-key-2) → lookup (is_at (key_cmp c.in_ok-new_key.new_key)) c.self.inside.entries.entries ≡ None
free c =
    none_from_some _ (sym (has_entry-lookup _ _ _ c.args.self.now c.self.view_is c.in_ok-new_key.new_key c.in_ok-new_key.ensures.dir
    c.in_ok-new_key.ensures.name) ∙ (moved-is c.args.self.now c.args.dir c.args.name.now c.args.new_name.now (sym c.in_ok-answer.ensures
    ∙ c.in-Moved.is)).1)

found_still : (c : goal.After-drop-key-2) → lookup (is_at (key_cmp c.in_ok-key.key))
    (insert_entry key_cmp c.self.inside.entries.entries c.in_ok-new_key.new_key c.in-Some.entry)
    ≡ Some c.in-Some.entry
found_still c =
    subst (λ es. lookup (is_at (key_cmp c.in_ok-key.key)) es ≡ Some c.in-Some.entry) c.in_ok-insert.ensures.entries
    (still_there _ _ _ (found c) (c.in_ok-insert.ensures.updates.0 c.in_ok-key.key))

sorted_with : (c : goal.After-drop-key-2) → IsStrictlySortedBy key_cmp (keys_of
    (insert_entry key_cmp c.self.inside.entries.entries c.in_ok-new_key.new_key c.in-Some.entry))
sorted_with c = subst (λ es. IsStrictlySortedBy key_cmp (keys_of es)) c.in_ok-insert.ensures.entries c.in_ok-insert.ensures.ordered

pub invariant_of-self-2 : goal.invariant_of-self-2
invariant_of-self-2 c =
    rw (c.remove.ensures.entries, c.in_ok-insert.ensures.entries)
    (renamed c.self.invariant c.in_ok-key.key c.in_ok-new_key.new_key c.in-Some.entry (free c) c.in_ok-new_key.ensures.spelled
    (found_still c)
    (rw (← c.in_ok-insert.ensures.entries, ← c.remove.ensures.entries) c.remove.ensures.ordered))

pub returns-clause-names : goal.returns-clause-names
returns-clause-names c =
    rw (c.remove.ensures.entries, c.in_ok-insert.ensures.entries)
    (after-moved _ _ _ c.args.self.now c.self.view_is c.in_ok-key.key c.in_ok-key.ensures.dir c.in_ok-key.ensures.name
    c.in_ok-new_key.new_key c.in-Some.entry c.args.new_name.now
    c.in_ok-new_key.ensures.dir c.in_ok-new_key.ensures.name (found c) (free c) c.self.invariant.ordered (sorted_with c))
