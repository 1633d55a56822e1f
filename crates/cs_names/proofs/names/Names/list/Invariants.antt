use Rattle.std.proofs.Common.{◌≡◌, ◌++◌, map, true}
use Rattle.std.specs.List.{AllByRecursion}
use Rattle.cs_ids.specs.Names.{is_name}
use Rattle.cs_laws.specs.Names.{item_of, listed}
use Rattle.cs_names.specs.Table.{named_all}
use Rattle.cs_names.proofs.names.Names.list.Given as goal

abbrev pub invariant-loop-key : goal.invariant-loop-key
invariant-loop-key l = record {
  so_far : l.list ++ map item_of (named_all l.key-iterator) ≡ listed l.fn.dir l.self;
  named : AllByRecursion (λ e. is_name e.0.name.items ≡ true) l.key-iterator;
}
