-- What a store holds, and how a write and a trim change what it holds of an object.
use Rattle.std.specs.Prelude.{◌≡◌, ◌≢◌, ℕ, zero, suc, ◌+◌, ◌-◌, Bool, not, List, [], ◌∷◌, ◌++◌, length, filter, Option, Some, None, nat_lt, slice_index_or, if◌then◌else◌}
use Rattle.std.specs.Borrow.{Bor}
use Rattle.cs_laws.specs.declared.objects.At.{At}
use Rattle.cs_laws.specs.declared.objects.At.TheVariants as at
use Rattle.cs_trim.specs.Blocks.{Writes}
use Rattle.cs_trim.specs.Clones.{any_standing, has}
use Rattle.cs_trim.specs.declared.numbers.SnapStatus.{SnapStatus}
use Rattle.cs_trim.specs.declared.numbers.SnapStatus.TheVariants.{NoSnap, Standing}
use Rattle.cs_trim.specs.declared.object.Span.{Span}
use Rattle.cs_trim.specs.declared.object.Head.{Head}
use Rattle.cs_trim.specs.declared.object.KeptClone.{KeptClone}

-- an object: its head, where it was written, and its clones, the oldest first
pub record ObjectState : Type 0 where
  pub head : Option Head
  pub clones : List KeptClone

-- a store: the status of each number that was drawn, from 1 on, and the objects; those behind the last one weren't written
pub record StoreState : Type 0 where
  pub numbers : List SnapStatus
  pub objects : List ObjectState

-- the status of a number, by those of the numbers that were drawn
abbrev pub status_in : List SnapStatus → ℕ → SnapStatus
status_in numbers zero = NoSnap
status_in numbers (suc n) = slice_index_or numbers n NoSnap

-- the present always stands
abbrev pub status_of : List SnapStatus → At → SnapStatus
status_of numbers at.Head = Standing
status_of numbers (at.Snap s) = status_in numbers s

-- a standing snapshot lies in the span
abbrev pub serves_in : List SnapStatus → Span → Bool
serves_in numbers k = any_standing (status_in numbers) k.above (k.upto - k.above)

abbrev pub no_object : ObjectState
no_object = record { head = None; clones = [] }

abbrev pub object_at : List ObjectState → ℕ → ObjectState
object_at objects b = slice_index_or objects b no_object

-- the seq of the last write
abbrev pub last_seq : Option Head → ℕ
last_seq None = 0
last_seq (Some x) = x.seq

-- the blocks of the head
abbrev pub head_image : Option Head → List (List ℕ)
head_image None = []
head_image (Some x) = x.image

-- those of an image that may be there
abbrev pub image_in : Option (Bor (List (List ℕ))) → List (List ℕ)
image_in None = []
image_in (Some image) = image.now

-- those of the first clone in whose span a number lies
abbrev pub clone_image : ℕ → List KeptClone → List (List ℕ)
clone_image n [] = []
clone_image n (c ∷ cs) = if has n c.span then c.image else clone_image n cs

-- those of a snapshot: the head's, where it is newer than the last write
abbrev pub snap_image : ℕ → Option Head → List KeptClone → List (List ℕ)
snap_image n None cs = []
snap_image n (Some x) cs = if nat_lt x.seq n then x.image else clone_image n cs

-- those of a state
abbrev pub image_at : At → ObjectState → List (List ℕ)
image_at at.Head o = head_image o.head
image_at (at.Snap n) o = snap_image n o.head o.clones

-- a write with the seq q, and the clones behind it: the head becomes one, where its seq is below q
abbrev pub seq_after : ℕ → Option Head → ℕ
seq_after q None = q
seq_after q (Some x) = if nat_lt x.seq q then q else x.seq

abbrev pub clones_after : ℕ → Option Head → List KeptClone → List KeptClone
clones_after q None cs = cs
clones_after q (Some x) cs = if nat_lt x.seq q then cs ++ record { span = record { above = x.seq; upto = q }; image = x.image } ∷ [] else cs

-- bytes are written to an object from an offset on, under the seq q
pub record IsWritten (q off : ℕ) (bytes : List ℕ) (old new : ObjectState) : Type 0 where
  pub written : Writes off bytes (head_image old.head) (head_image new.head)
  pub head : new.head ≡ Some (record { seq = seq_after q old.head; image = head_image new.head })
  pub clones : new.clones ≡ clones_after q old.head old.clones

-- an object after a trim, and the clones that it gives up
abbrev pub trimmed_object : List SnapStatus → ObjectState → ObjectState
trimmed_object numbers o = record { head = o.head; clones = filter (λ c. serves_in numbers c.span) o.clones }

abbrev pub dropped : List SnapStatus → ObjectState → ℕ
dropped numbers o = length (filter (λ c. not (serves_in numbers c.span)) o.clones)

-- those of the objects below a number
abbrev pub dropped_below : List SnapStatus → List ObjectState → ℕ → ℕ
dropped_below numbers objects zero = 0
dropped_below numbers objects (suc b) = dropped_below numbers objects b + dropped numbers (object_at objects b)

-- the stores have the same numbers, and each object is as before
pub record SameObjects (old new : StoreState) : Type 0 where
  pub numbers : new.numbers ≡ old.numbers
  pub objects : (b : ℕ) → object_at new.objects b ≡ object_at old.objects b

-- bytes are written to one object, under the last number that was drawn
pub record WritesObject (b off : ℕ) (bytes : List ℕ) (old new : StoreState) : Type 0 where
  pub numbers : new.numbers ≡ old.numbers
  pub object : IsWritten (length old.numbers) off bytes (object_at old.objects b) (object_at new.objects b)
  pub others : (c : ℕ) → c ≢ b → object_at new.objects c ≡ object_at old.objects c

-- all objects are trimmed
pub record TrimsObjects (old new : StoreState) : Type 0 where
  pub numbers : new.numbers ≡ old.numbers
  pub objects : (b : ℕ) → object_at new.objects b ≡ trimmed_object old.numbers (object_at old.objects b)
