-- The namespace after a history: that of the setup lines, and then of the standing requests in their order.
use Rattle.std.specs.Prelude.{ℕ, List, [], ◌∷◌, ◌++◌, codes, decimal, map}
use Rattle.cs_laws.specs.declared.events.Event.{Event}
use Rattle.cs_laws.specs.declared.events.Event.TheVariants as events
use Rattle.cs_laws.specs.declared.answers.Answer.{Answer}
use Rattle.cs_laws.specs.declared.answers.Answer.TheVariants as answers
use Rattle.cs_laws.specs.declared.answers.Entry.{Entry}
use Rattle.cs_laws.specs.declared.names.NameItem.{NameItem}
use Rattle.cs_laws.specs.declared.records.Record.{Record}
use Rattle.cs_laws.specs.declared.records.RecordBody.{RecordBody}
use Rattle.cs_laws.specs.declared.records.RecordBody.TheVariants as bodies
use Rattle.cs_laws.specs.History.{stand}
use Rattle.cs_laws.specs.Namespace.{Named, Names, after, entries_of, no_names, with_setup_dir, with_setup_file}

abbrev pub setup_names_then : Event → Answer → Names → Names
setup_names_then (events.Dir d p) answers.Made ns = with_setup_dir p (codes "d" ++ decimal d) d ns
setup_names_then (events.File f p) answers.Made ns = with_setup_file p (codes "f" ++ decimal f) f ns
setup_names_then _ _ ns = ns

-- that of the setup lines
abbrev pub setup_names : List Entry → Names
setup_names [] = no_names
setup_names (x ∷ h) = setup_names_then x.event x.answer (setup_names h)

abbrev pub after_record : RecordBody → Names → Names
after_record (bodies.Request tid op answer) ns = after ns op
after_record _ ns = ns

abbrev pub names_after : Names → List Record → Names
names_after ns [] = ns
names_after ns (r ∷ rs) = names_after (after_record r.body ns) rs

abbrev pub names : List Entry → Names
names h = names_after (setup_names h) (stand h)

-- Lists of names

abbrev pub item_of : Named → NameItem
item_of e = record { name = e.name; ino = e.ino }

-- the names in a directory, in the order of bytes, with the inode of each
abbrev pub listed : ℕ → Names → List NameItem
listed d ns = map item_of (entries_of d ns)
