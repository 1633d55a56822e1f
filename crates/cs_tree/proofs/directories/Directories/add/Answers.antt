use Rattle.std.proofs.Common.{◌≡◌, ◌∙◌, sym, ap, [], ◌∷◌, ◌==◌, cond, Some, insert, false}
use Rattle.std.specs.Option.{option_map_or}
use Rattle.cs_tree.specs.declared.directories.Directory.{Directory}
use Rattle.cs_tree.specs.Directories.{directory_of, has_directory, path_of, with_added}
use Rattle.cs_tree.proofs.Added.{added_distinct, added_members, added_order, added_paths}
use Rattle.cs_tree.proofs.directories.Directories.add.Goals as goal

added : goal.In_ok-insert → Directory
added c = record { ino = c.args.directory; path = c.in_ok-below.field-0 }

grown : (c : goal.In_ok-insert) → c.insert.new.self.items ≡ with_added (added c) c.self.inside.items.items
unfolding added
grown c =
    c.in_ok-insert.ensures.items
    ∙ (ap (λ ds. insert ds c.place_of-place.result (added c)) (sym c.as_slice.ensures.value)
    ∙ (c.place_of-place.ensures.put ∙ ap (λ ds. with_added (added c) ds) c.as_slice.ensures.value))

new : (c : goal.In_ok-insert) → has_directory c.args.directory c.self.inside.items.items ≡ false
new c = ap (λ ds. has_directory c.args.directory ds) c.self.view_is ∙ c.requires.new

pub invariant_of-self-2 : goal.invariant_of-self-2
unfolding added
invariant_of-self-2 c = rw (grown c) (added_distinct (added c) c.self.inside.items.items (new c) c.self.invariant)

pub returns-clause-members : goal.returns-clause-members
unfolding added
returns-clause-members c = λ d. rw (grown c, ← c.self.view_is) (added_members (added c) c.self.inside.items.items d (new c))

pub returns-clause-order : goal.returns-clause-order
unfolding added
returns-clause-order c = rw (grown c, ← c.self.view_is) (added_order (added c) c.self.inside.items.items (new c) c.self.invariant)

pub returns-clause-paths : goal.returns-clause-paths
unfolding added
returns-clause-paths c =
    let ds = c.self.inside.items.items in
    let is : Some c.in-Some.above.now ≡ directory_of c.args.parent ds = c.in-Some.ensures ∙ ap (λ xs. directory_of c.args.parent xs) (sym c.self.view_is) in
    let below = c.in_ok-below.ensures ∙ ap (λ o. c.args.directory ∷ option_map_or (λ x. x.path) o (1 ∷ [])) is in
    λ d. rw (grown c, ← c.self.view_is) (added_paths (added c) ds d (new c) ∙ ap (λ p. cond (c.args.directory == d) p (path_of ds d)) below)
