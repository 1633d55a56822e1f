-- Writes and cap snaps in order, and the writers that a cap snap waits for.
use Rattle.std.specs.Prelude.{◌≡◌, ℕ, ◌<◌, ◌≤◌, List, [], ◌∷◌, true}
use Rattle.cs_parts.specs.declared.references.Live.{Live}
use Rattle.cs_parts.specs.References.{is_writer_of}
use Rattle.cs_laws.specs.CapSnaps.{CapSnap}
use Rattle.cs_laws.specs.Image.{Write}
use Rattle.cs_laws.specs.Lists.{Member, Each}

-- newest first, the tags never rise towards the older ones
abbrev pub TagsFall : List Write → Type 0
TagsFall [] = Unit {0}
TagsFall (w ∷ ws) = Each (λ v. v.tag ≤ w.tag) ws × TagsFall ws

-- oldest first, the numbers that the cap snaps follow rise strictly
abbrev pub FollowsRise : List CapSnap → Type 0
FollowsRise [] = Unit {0}
FollowsRise (x ∷ xs) = Each (λ y. x.follows < y.follows) xs × FollowsRise xs

-- a writer of the file lives with a tag of at most q
abbrev pub HasOlder : ℕ → ℕ → List Live → Type 0
HasOlder f q rs = (r : Live) × Member r rs × (is_writer_of f r ≡ true) × (r.tag ≤ q)
