-- What a store holds for a list of steps, the newest first.
use Rattle.std.specs.Prelude.{◌≡◌, ℕ, ◌+◌, ◌<◌, true, List, [], ◌∷◌, length, map, All, Option, Some, None, slice_index, EachIndex}
use Rattle.cs_laws.specs.declared.objects.At.{At}
use Rattle.cs_trim.specs.declared.answers.Removed.{Removed}
use Rattle.cs_trim.specs.declared.answers.Removed.TheVariants as removals
use Rattle.cs_trim.specs.declared.answers.TrimRead.{TrimRead}
use Rattle.cs_trim.specs.declared.answers.TrimRead.TheVariants as reads
use Rattle.cs_trim.specs.declared.numbers.SnapStatus.TheVariants.{NoSnap, Gone, Standing}
use Rattle.cs_trim.specs.declared.object.Head.{Head}
use Rattle.cs_trim.specs.declared.object.KeptClone.{KeptClone}
use Rattle.cs_trim.specs.declared.object.Span.{Span}
use Rattle.cs_trim.specs.Blocks.{byte_in}
use Rattle.cs_trim.specs.Clones.{greatest, kept}
use Rattle.cs_trim.specs.Held.{ObjectState, StoreState, object_at, serves_in, status_in, status_of}
use Rattle.cs_trim.specs.Objects.{Write, before, byte_of, object_byte, writes}
use Rattle.cs_trim.specs.Steps.{Step, drawn, removed, status}

-- there is a head where there is a write, with the seq of the last one and the bytes of them all
abbrev pub IsHead : List Write → Option Head → Type 0
IsHead ws None = ws ≡ []
IsHead ws (Some x) = (0 < length ws) × (x.seq ≡ greatest ws) × ((i : ℕ) → byte_in x.image i ≡ byte_of ws i)

-- the clone has the bytes that the object had at the last number of its span
abbrev pub HasState : List Write → KeptClone → Type 0
HasState ws c = (i : ℕ) → byte_in c.image i ≡ byte_of (before c.span.upto ws) i

-- of an object with these writes and kept clones there are the head and one image for each kept clone, and no other image
pub record Holds (ws : List Write) (ks : List Span) (o : ObjectState) : Type 0 where
  pub head : IsHead ws o.head
  pub clones : map (λ c. c.span) o.clones ≡ ks
  pub bytes : All (HasState ws) o.clones

-- the store stands for the list of steps: it holds just this
pub record StandsFor (h : List Step) (s : StoreState) : Type 0 where
  pub drawn : length s.numbers ≡ drawn h
  pub statuses : (n : ℕ) → status_in s.numbers n ≡ status h n
  pub objects : (b : ℕ) → Holds (writes b h) (kept b h) (object_at s.objects b)

-- after a step the store stands for each list that it stood for, with this step more
abbrev pub Follows : Step → StoreState → StoreState → Type 0
Follows x old new = (h : List Step) → StandsFor h old → StandsFor (x ∷ h) new

-- it still stands for each list that it stood for
abbrev pub Keeps : StoreState → StoreState → Type 0
Keeps old new = (h : List Step) → StandsFor h old → StandsFor h new

-- a removal, by what is known of the number
abbrev pub Removes : Removed → ℕ → StoreState → StoreState → Type 0
Removes removals.NoSnap s old new = (status_in old.numbers s ≡ NoSnap) × (new ≡ old)
Removes removals.Gone s old new = (status_in old.numbers s ≡ Gone) × (new ≡ old)
Removes (removals.Removed n) s old new = (status_in old.numbers s ≡ Standing) × (n ≡ length old.numbers + 1) × Follows (removed s) old new

-- a read of a state, by what is known of it: it gives the bytes from a place on that the writes before the state left
abbrev pub Reads : StoreState → ℕ → At → ℕ → TrimRead → List ℕ → List ℕ → Type 0
Reads s b a off reads.NoSnap old new = (status_of s.numbers a ≡ NoSnap) × (new ≡ old)
Reads s b a off reads.Gone old new = (status_of s.numbers a ≡ Gone) × (new ≡ old)
Reads s b a off reads.Read old new = (status_of s.numbers a ≡ Standing)
    × ((h : List Step) → StandsFor h s → EachIndex new (λ i. slice_index new i ≡ object_byte a b h (off + i)))

-- each clone serves a standing snapshot
abbrev pub EachServes : StoreState → Type 0
EachServes s = (b : ℕ) → All (λ c. serves_in s.numbers c.span ≡ true) (object_at s.objects b).clones
