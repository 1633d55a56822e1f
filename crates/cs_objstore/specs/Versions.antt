-- The versions of an object that a store keeps, the newest first.
use Rattle.std.specs.Prelude.{◌≡◌, ℕ, suc, ◌<◌, Bool, true, List, [], ◌∷◌, drop, nat_lt, if◌then◌else◌}
use Rattle.cs_laws.specs.declared.objects.At.{At}
use Rattle.cs_laws.specs.declared.objects.At.TheVariants as at
use Rattle.cs_objstore.specs.Blocks.{BlockState, HasAllBytesOf}
use Rattle.cs_objstore.specs.declared.object.Version.{Version}

-- each began with a greater number than the one before it
abbrev pub Falls : List Version → Type 0
Falls [] = Unit {0}
Falls (v ∷ []) = Unit {0}
Falls (v ∷ w ∷ vs) = (w.since < v.since) × Falls (w ∷ vs)

-- the versions of two lists have the same numbers and bytes, however they share them
abbrev pub AreSame : List Version → List Version → Type 0
AreSame [] [] = Unit {0}
AreSame [] (w ∷ ws) = ⊥
AreSame (v ∷ vs) [] = ⊥
AreSame (v ∷ vs) (w ∷ ws) = (w.since ≡ v.since) × HasAllBytesOf v.image w.image × AreSame vs ws

-- the number is above those of all versions
abbrev pub is_newer : ℕ → List Version → Bool
is_newer seq [] = true
is_newer seq (v ∷ vs) = nat_lt v.since seq

-- the head's blocks, and the number that it began with
abbrev pub image_of : List Version → List BlockState
image_of [] = []
image_of (v ∷ vs) = v.image

abbrev pub since_of : List Version → ℕ
since_of [] = 0
since_of (v ∷ vs) = v.since

-- the head's number after an operation, and what stands behind the head then
abbrev pub since_after : ℕ → List Version → ℕ
since_after seq vs = if is_newer seq vs then seq else since_of vs

abbrev pub clones_after : ℕ → List Version → List Version
clones_after seq vs = if is_newer seq vs then vs else drop 1 vs

-- how many of the newest versions didn't begin below a number
abbrev pub newer : ℕ → List Version → ℕ
newer s [] = 0
newer s (v ∷ vs) = if nat_lt v.since s then 0 else suc (newer s vs)

-- where the version of a state stands
abbrev pub place : At → List Version → ℕ
place at.Head vs = 0
place (at.Snap s) vs = newer s vs

-- its blocks: none where the object wasn't written by then
abbrev pub image_at : At → List Version → List BlockState
image_at a vs = image_of (drop (place a vs) vs)
