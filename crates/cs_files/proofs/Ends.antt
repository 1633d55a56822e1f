-- The end of a reference: what it makes of what is kept of its file.
use Rattle.std.proofs.Common.{◌≡◌, ◌∙◌, refl, sym, ap, ℕ, ◌+◌, ◌-◌, ◌==◌, ◌&&◌, not, Bool, true, false, cond, List, [], ◌∷◌, Some, arith}
use Rattle.std.proofs.lemmas.Bool.{and_left, eq-eqb}
use Rattle.cs_parts.specs.declared.references.Live.{Live}
use Rattle.cs_parts.specs.References.{has_ref, is_ref, is_writer_of, ref_named}
use Rattle.cs_capsnap.specs.declared.snap.CapSnap.{CapSnap}
use Rattle.cs_capsnap.specs.CapSnaps.{finished, is_writing}
use Rattle.cs_inode.specs.Inodes.{FileInode}
use Rattle.cs_laws.specs.declared.events.Event.TheVariants as events
use Rattle.cs_laws.specs.declared.events.RefName.{RefName}
use Rattle.cs_laws.specs.declared.events.RefName.TheVariants as names
use Rattle.cs_laws.specs.declared.answers.Answer.TheVariants as answers
use Rattle.cs_laws.specs.declared.answers.Entry.{Entry}
use Rattle.cs_laws.specs.Answers.{answer_end, may_write}
use Rattle.cs_laws.specs.CapSnaps.{has_writer}
use Rattle.cs_laws.specs.History.{live, writes}
use Rattle.cs_laws.specs.Image.{size, mtime}
use Rattle.cs_laws.specs.References.{can_end, named, without_named}
use Rattle.cs_laws.specs.Runs.{IsRun}
use Rattle.cs_theorems.specs.Queues.{snaps}
use Rattle.cs_theorems.proofs.QueueAnswers.{writing_has_writer}
use Rattle.cs_files.specs.Rows.{inode, writers_of}
use Rattle.cs_files.specs.Steps.{on_file}
use Rattle.cs_inode.specs.Calls.{stopped}
use Rattle.cs_files.proofs.ByFile.{by_file}
use Rattle.cs_files.proofs.Counting.{last_ends, writers_end, writers_stay}

-- the reference that ends
record Ends (h : List Entry) (c : ℕ) (name : RefName) (r : Live) : Type 0 where
  pub can : can_end c name (live h) ≡ true
  pub is : named c name (live h) ≡ Some r

-- a reference that can end is named
there : (c n : ℕ) (rs : List Live) → has_ref c n rs ≡ true → (r : Live) × (ref_named c n rs ≡ Some r)
there c n [] has = absurd cc
there c n (r ∷ rs) has = at (is_ref c n r) has (λ more. there c n rs more)
  where
    at : (b : Bool) → cond b true (has_ref c n rs) ≡ true → (has_ref c n rs ≡ true → (q : Live) × (ref_named c n rs ≡ Some q))
        → (q : Live) × (cond b (Some r) (ref_named c n rs) ≡ Some q)
    at true has rest = (r, refl)
    at false has rest = rest has

ends_one : (h : List Entry) (c : ℕ) (name : RefName) → can_end c name (live h) ≡ true → (r : Live) × Ends h c name r
ends_one h c (names.Own n) can = let found = there c n (live h) can in (found.0, record { can = can; is = found.1 })
ends_one h c (names.Kept n) can = absurd cc

module _ (p : ℕ) (h : List Entry) (run : IsRun p h) (c : ℕ) (name : RefName) where
  abbrev ending : List Entry
  ending = record { event = events.End c name; answer = answers.Ended } ∷ h

  -- the references that live on
  abbrev left : List Live
  left = without_named c name (live h)

  abbrev with_parts : ℕ → List CapSnap → ℕ → FileInode
  with_parts g xs n = record (inode h g) { snaps = xs; writers = n }

  -- the cap snaps of a file after the end
  abbrev finished_if : ℕ → Bool → List CapSnap
  finished_if g b = cond b (finished (size (writes h g)) (mtime (writes h g)) (snaps h g)) (snaps h g)

  counted : (r : Live) (g : ℕ) (b : Bool) → Ends h c name r → is_writer_of g r ≡ b → writers_of g (live h) ≡ writers_of g left + cond b 1 0
  counted r g b ends is = writers_end g c name r (live h) ends.can ends.is ∙ ap (λ t. writers_of g left + cond t 1 0) is

  inode_after : (r : Live) (g : ℕ) → Ends h c name r
      → inode ending g ≡ with_parts g (finished_if g ((r.file == g) && (is_writing (snaps h g) && not (has_writer g left)))) (writers_of g left)
  inode_after r g ends = rw ends.is refl

  -- where the reference is no writer of the file, nothing changes
  stays : (r : Live) (g : ℕ) → Ends h c name r → is_writer_of g r ≡ false → inode ending g ≡ inode h g
  stays r g ends no_writer =
      let same : writers_of g (live h) ≡ writers_of g left = omega (arith, counted r g false ends no_writer) in
      inode_after r g ends
      ∙ (ap (λ n. with_parts g (finished_if g ((r.file == g) && (is_writing (snaps h g) && not (has_writer g left)))) n) (sym same)
      ∙ ap (λ b. with_parts g (finished_if g b) (writers_of g (live h))) (at (r.file == g) (is_writing (snaps h g)) refl (writers_stay g (live h) left same)))
    where
      at : (b w : Bool) → is_writing (snaps h g) ≡ w → has_writer g left ≡ has_writer g (live h) → (b && (w && not (has_writer g left))) ≡ false
      at false w is same = refl
      at true false is same = refl
      at true true is same = ap not (same ∙ writing_has_writer p h run g is)

  stopped_is : (r : Live) → Ends h c name r → inode ending r.file ≡ stopped r.bits (inode h r.file)
  stopped_is r ends = sym (at (may_write r.bits) refl)
    where
      f : ℕ
      f = r.file

      own : (r.file == r.file) ≡ true
      own = eq-eqb r.file r.file refl

      at : (b : Bool) → may_write r.bits ≡ b
          → cond b (with_parts f (finished_if f (is_writing (snaps h f) && (writers_of f (live h) == 1))) (writers_of f (live h) - 1)) (inode h f)
          ≡ inode ending f
      at true may =
          let fewer : writers_of f (live h) ≡ writers_of f left + 1 = counted r f true ends (rw (own, may) refl) in
          ap (λ n. with_parts f (finished_if f (is_writing (snaps h f) && (writers_of f (live h) == 1))) n) (omega (arith, fewer))
          ∙ (ap (λ b. with_parts f (finished_if f (is_writing (snaps h f) && b)) (writers_of f left)) (sym (last_ends f (live h) left fewer))
          ∙ (ap (λ b. with_parts f (finished_if f (b && (is_writing (snaps h f) && not (has_writer f left)))) (writers_of f left)) (sym own)
          ∙ sym (inode_after r f ends)))
      at false none = sym (stays r f ends (rw (own, none) refl))

  pub end_row : (f : ℕ) → answers.Ended ≡ answer_end h c name → inode ending f ≡ on_file (named c name (live h)) (λ r. stopped r.bits) f (inode h f)
  end_row f is =
      let found = ends_one h c name (can (can_end c name (live h)) is) in
      let r : Live = found.0 in
      by_file (λ k. inode h k) (λ k. inode ending k) (stopped r.bits) r.file f (stopped_is r found.1)
      (λ other. stays r f found.1 (and_left (r.file == f) (may_write r.bits) other))
      ∙ ap (λ o. on_file o (λ q. stopped q.bits) f (inode h f)) (sym found.1.is)
    where
      can : (b : Bool) → answers.Ended ≡ cond b answers.Ended answers.Unknown → b ≡ true
      can true e = refl
      can false e = absurd cc
