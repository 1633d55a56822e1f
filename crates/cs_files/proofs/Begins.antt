-- The begin of a reference: what it is answered, and what it makes of what is kept of its file.
use Rattle.std.proofs.Common.{◌≡◌, ◌∙◌, refl, ap, ℕ, ◌+◌, ◌==◌, ◌&&◌, Bool, true, false, cond, List, [], ◌∷◌, ◌++◌, length, nat_lt, arith}
use Rattle.std.proofs.lemmas.Bool.{and_left, eq-eqb}
use Rattle.cs_bits.specs.declared.Caps.{Caps}
use Rattle.cs_bits.specs.Bits.{covers}
use Rattle.cs_parts.specs.declared.references.Live.{Live}
use Rattle.cs_parts.specs.References.{is_writer_of}
use Rattle.cs_inode.specs.declared.answers.Allow.TheVariants as allow
use Rattle.cs_inode.specs.Answers.{allowance}
use Rattle.cs_inode.specs.Inodes.{FileInode}
use Rattle.cs_laws.specs.declared.events.Event.TheVariants as events
use Rattle.cs_laws.specs.declared.answers.Answer.TheVariants as answers
use Rattle.cs_laws.specs.declared.answers.Why.TheVariants as why
use Rattle.cs_laws.specs.declared.answers.Entry.{Entry}
use Rattle.cs_laws.specs.Answers.{answer_begin, may_write}
use Rattle.cs_laws.specs.CapSnaps.{is_writing}
use Rattle.cs_laws.specs.ClientKnows.{client_knows}
use Rattle.cs_laws.specs.Events.{begun}
use Rattle.cs_laws.specs.History.{client, context, live, queued}
use Rattle.cs_laws.specs.Runs.{IsRun}
use Rattle.cs_theorems.proofs.QueueAnswers.{queue_writing}
use Rattle.cs_files.specs.Rows.{inode, writers_of}
use Rattle.cs_inode.specs.Said.{begun_said}
use Rattle.cs_inode.specs.Calls.{started}
use Rattle.cs_files.proofs.ByFile.{by_file}
use Rattle.cs_files.proofs.Counting.{writers_begin}

-- The answer, by what the file allows

-- a, b, d: whether all bits are issued, whether a cap snap is in the way, and whether the end is too great
tests_alike : (count n s : ℕ) (a b d : Bool)
    → cond a (cond b (answers.Again why.Snap) (cond d (answers.Again why.Max) (begun_said count n (allow.Yes s)))) (answers.Again why.Caps)
    ≡ begun_said count n (cond a (cond b allow.Snap (cond d allow.Max (allow.Yes s))) allow.NoCaps)
tests_alike count n s true true d = refl
tests_alike count n s true false true = refl
tests_alike count n s true false false = refl
tests_alike count n s false b d = refl

pub begin_said : (p : ℕ) (h : List Entry) → IsRun p h → (c f : ℕ) (bits : Caps) (end : ℕ) → client_knows h f ≡ true
    → answer_begin h c f bits end ≡ begun_said (length (live h)) (begun h c) (allowance bits end (inode h f))
begin_said p h run c f bits end known =
    let covered : Bool = covers (client h f).issued bits in
    rw known (rw (queue_writing p h run f)
    (tests_alike (length (live h)) (begun h c) (context h f).seq covered (may_write bits && is_writing (live h) (queued h f))
    (may_write bits && nat_lt (client h f).max end)))

-- What is kept afterwards

module _ (h : List Entry) (c f : ℕ) (bits : Caps) (end n : ℕ) where
  abbrev beginning : List Entry
  beginning = record { event = events.Begin c f bits end; answer = answers.Ref n } ∷ h

  abbrev new_live : Live
  new_live = record { caller = c; number = n; file = f; bits = bits; end = end; tag = (context h f).seq }

  abbrev with_writers : ℕ → ℕ → FileInode
  with_writers g k = record (inode h g) { writers = k }

  counted : (g : ℕ) (b : Bool) → is_writer_of g new_live ≡ b → writers_of g (live h ++ new_live ∷ []) ≡ writers_of g (live h) + cond b 1 0
  counted g b is = writers_begin g (live h) new_live ∙ ap (λ t. writers_of g (live h) + cond t 1 0) is

  started_is : inode beginning f ≡ started bits (inode h f)
  started_is = at (may_write bits) refl
    where
      at : (b : Bool) → may_write bits ≡ b → inode beginning f ≡ cond b (with_writers f (writers_of f (live h) + 1)) (inode h f)
      at true may = ap (with_writers f) (counted f true (rw (eq-eqb f f refl, may) refl))
      at false none = ap (with_writers f) (omega (arith, counted f false (rw (eq-eqb f f refl, none) refl)))

  others_begun : (g : ℕ) → (f == g) ≡ false → inode beginning g ≡ inode h g
  others_begun g other = ap (with_writers g) (omega (arith, counted g false (and_left (f == g) (may_write bits) other)))

  pub begin_row : (g : ℕ) → inode beginning g ≡ cond (f == g) (started bits (inode h g)) (inode h g)
  begin_row g = by_file (λ k. inode h k) (λ k. inode beginning k) (started bits) f g started_is (others_begun g)
