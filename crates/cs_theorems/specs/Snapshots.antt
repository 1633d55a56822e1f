-- Laws of tags and cap snaps: which writers wait for which cap snap, and which writes each has.
use Rattle.std.specs.Prelude.{◌≡◌, ℕ, ◌<◌, ◌↔◌, ◌⊎◌, List, [], ◌∷◌, ◌++◌, true, false, if◌then◌else◌}
use Rattle.cs_snapctx.specs.Context.{Context}
use Rattle.cs_parts.specs.declared.references.Live.{Live}
use Rattle.cs_parts.specs.References.{is_writer_of}
use Rattle.cs_laws.specs.declared.answers.Entry.{Entry}
use Rattle.cs_laws.specs.CapSnaps.{CapSnap, is_open}
use Rattle.cs_laws.specs.History.{context, live, queued, writes}
use Rattle.cs_laws.specs.Image.{upto}
use Rattle.cs_laws.specs.Operations.{begun_under}
use Rattle.cs_laws.specs.Lists.{Member, Each}
use Rattle.cs_theorems.specs.Contexts.{HadContext}
use Rattle.cs_theorems.specs.Order.{TagsFall, FollowsRise, HasOlder}

-- newest first, no write's tag is below that of an older one
abbrev pub TagsNeverFall : List Entry → Type 0
TagsNeverFall h = (f : ℕ) → TagsFall (writes h f)

-- The cap snaps that aren't sent follow numbers that rise, each below the context's seq.
abbrev pub QueuesRise : List Entry → Type 0
QueuesRise h = (f : ℕ) → FollowsRise (queued h f) × Each (λ x. x.follows < (context h f).seq) (queued h f)

-- A cap snap is writing exactly while a writer lives whose tag is at most the number that it follows.
abbrev pub WritingWhileOlder : List Entry → Type 0
WritingWhileOlder h = (f : ℕ) → Each (λ x. (is_open (live h) x ≡ true) ↔ HasOlder f x.follows (live h)) (queued h f)

abbrev pub OnlyTheLastIsWriting : List Entry → Type 0
OnlyTheLastIsWriting h =
    (f : ℕ) (front : List CapSnap) (x : CapSnap) (back : List CapSnap) → queued h f ≡ front ++ x ∷ back → is_open (live h) x ≡ true → back ≡ []

-- the number that the writing cap snap follows, or, where none is writing, the context's seq
abbrev pub shared_tag : List Live → ℕ → List CapSnap → ℕ
shared_tag rs s [] = s
shared_tag rs s (x ∷ xs) = if is_open rs x then x.follows else shared_tag rs s xs

abbrev pub WritersShareATag : List Entry → Type 0
WritersShareATag h = (f : ℕ) → Each (λ r. is_writer_of f r ≡ true → r.tag ≡ shared_tag (live h) (context h f).seq (queued h f)) (live h)

-- Each tag is the seq of the context that the file had when the reference began.
abbrev pub TagsAreOfTheBegin : List Entry → Type 0
TagsAreOfTheBegin h =
    Each (λ r. (r.tag ≡ (begun_under h r.caller r.number).seq) × HadContext h r.file (begun_under h r.caller r.number)) (live h)

-- a writer began under the present context, or under the one that the writing cap snap follows
abbrev pub BeganUnderOne : List Entry → ℕ → Context → Type 0
BeganUnderOne h f c = (c ≡ context h f) ⊎ ((x : CapSnap) × Member x (queued h f) × (is_open (live h) x ≡ true) × (c.seq ≡ x.follows))

abbrev pub WritersShareAContext : List Entry → Type 0
WritersShareAContext h = (f : ℕ) → Each (λ r. is_writer_of f r ≡ true → BeganUnderOne h f (begun_under h r.caller r.number)) (live h)

-- Where a cap snap isn't writing, each writer has a tag above the number that it follows.
abbrev pub FinishedSnapsAreNotWritten : List Entry → Type 0
FinishedSnapsAreNotWritten h =
    (f : ℕ) → Each (λ x. is_open (live h) x ≡ false → Each (λ r. is_writer_of f r ≡ true → x.follows < r.tag) (live h)) (queued h f)

-- The writes with a tag up to the number that it follows are then the same ever after.
abbrev pub FinishedSnapsKeepTheirWrites : List Entry → List Entry → Type 0
FinishedSnapsKeepTheirWrites h later =
    (f : ℕ) → Each (λ x. is_open (live h) x ≡ false → upto x.follows (writes later f) ≡ upto x.follows (writes h f)) (queued h f)
