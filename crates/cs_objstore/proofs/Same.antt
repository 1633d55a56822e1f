-- Versions that have the numbers and the bytes of others.
use Rattle.std.proofs.Common.{◌≡◌, ◌∙◌, refl, List, [], ◌∷◌, drop, get_or, set}
use Rattle.cs_objstore.specs.Blocks.{HasAllBytesOf}
use Rattle.cs_objstore.specs.Kept.{Keeps, Span}
use Rattle.cs_objstore.specs.Versions.{AreSame}
use Rattle.cs_objstore.specs.declared.object.Version.{Version}

pub same_itself : (vs : List Version) → AreSame vs vs
same_itself [] = tt
same_itself (v ∷ vs) = (refl, λ i. refl, same_itself vs)

-- another head
head_by : (u v w : Version) (us : List Version) → v ≡ u → w.since ≡ v.since → HasAllBytesOf v.image w.image → AreSame (u ∷ us) (w ∷ us)
head_by u v w us is since bytes = rw (← is) (since, bytes, same_itself us)

pub same_head : (vs : List Version) (v w : Version) → v ≡ get_or vs 0 v → w.since ≡ v.since → HasAllBytesOf v.image w.image → AreSame vs (set vs 0 w)
same_head [] v w is since bytes = tt
same_head (u ∷ us) v w is since bytes = head_by u v w us is since bytes

pub same_behind : (vs : List Version) (w : Version) → AreSame (drop 1 vs) (drop 1 (set vs 0 w))
same_behind [] w = tt
same_behind (u ∷ us) w = same_itself us

pub keeps_same : (vs ws : List Version) (ss : List Span) → AreSame vs ws → Keeps vs ss → Keeps ws ss
keeps_same [] [] ss same k = k
keeps_same [] (w ∷ ws) ss same k = absurd same
keeps_same (v ∷ vs) [] ss same k = absurd same
keeps_same (v ∷ vs) (w ∷ ws) [] same k = absurd k
keeps_same (v ∷ vs) (w ∷ ws) (s ∷ ss) same k = (same.0 ∙ k.0, λ i. same.1 i ∙ k.1 i, keeps_same vs ws ss same.2 k.2)
