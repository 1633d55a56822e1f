use Rattle.std.proofs.Common.{◌≡◌, ◌∙◌, ap, map, true}
use Rattle.std.proofs.lemmas.List.Elements.{recursion_from_All}
use Rattle.std.specs.Map.{keys_of}
use Rattle.cs_ids.specs.Names.{is_name}
use Rattle.cs_laws.specs.Names.{item_of, listed}
use Rattle.cs_names.specs.declared.table.EntryKey.{EntryKey}
use Rattle.cs_names.specs.Table.{named_all}
use Rattle.cs_names.proofs.Entries.{each-in, named-in}
use Rattle.cs_names.proofs.names.Names.list.Goals as goal

pub loop-key-init : goal.loop-key-init
loop-key-init c =
    let items = c.into_iter-key-iterator.ensures.into_iter_gives ∙ c.entries_of-key-items.ensures in
    let entries = ap named_all items ∙ named-in c.args.dir c.self.inside.entries.entries in
    record {
      so_far = rw c.new-list.ensures (ap (map item_of) entries ∙ ap (listed c.args.dir) c.self.view_is);
      named = rw items
          (each-in (λ (k : EntryKey). is_name k.name.items ≡ true) c.args.dir c.self.inside.entries.entries
          (recursion_from_All (λ (k : EntryKey). is_name k.name.items
          ≡ true) (keys_of c.self.inside.entries.entries) c.self.invariant.named));
    }
