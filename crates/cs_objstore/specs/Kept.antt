-- What the versions of an object have in them, by the operations on it. All lists have the newest first.
use Rattle.std.specs.Prelude.{◌≡◌, ℕ, List, [], ◌∷◌, if◌then◌else◌}
use Rattle.cs_laws.specs.declared.objects.ObjOp.{ObjOp}
use Rattle.cs_laws.specs.Objects.{all_below, byte_of}
use Rattle.cs_objstore.specs.Blocks.{byte_in}
use Rattle.cs_objstore.specs.declared.object.Version.{Version}

-- the operations up to the end of a version, and the number of the one that began it
pub record Span : Type 0 where
  pub since : ℕ
  pub ops : List ObjOp

-- the head's span goes on to these operations
abbrev pub grown : List ObjOp → List Span → List Span
grown os [] = []
grown os (s ∷ ss) = record { since = s.since; ops = os } ∷ ss

-- a version begins with each operation whose number is above those of all earlier ones
abbrev pub spans : List ObjOp → List Span
spans [] = []
spans (o ∷ os) = if all_below o.ctx.seq os then record { since = o.ctx.seq; ops = o ∷ os } ∷ spans os else grown (o ∷ os) (spans os)

-- each version has its number and the bytes of its operations
abbrev pub Keeps : List Version → List Span → Type 0
Keeps [] [] = Unit {0}
Keeps [] (s ∷ ss) = ⊥
Keeps (v ∷ vs) [] = ⊥
Keeps (v ∷ vs) (s ∷ ss) = (v.since ≡ s.since) × ((i : ℕ) → byte_in v.image i ≡ byte_of s.ops i) × Keeps vs ss
