-- A change of a file's mode: what it is answered, and what it makes of what is kept of the file.
use Rattle.std.proofs.Common.{◌≡◌, refl, ℕ, ◌==◌, Bool, true, false, cond, List, ◌∷◌, Option, Some, None}
use Rattle.std.proofs.lemmas.Bool.{eq-eqb}
use Rattle.cs_parts.specs.declared.references.Live.{Live}
use Rattle.cs_inode.specs.declared.answers.ChmodStep.TheVariants as chmod
use Rattle.cs_inode.specs.Answers.{chmod_answer}
use Rattle.cs_inode.specs.Inodes.{with_mode}
use Rattle.cs_laws.specs.declared.events.Event.TheVariants as events
use Rattle.cs_laws.specs.declared.events.RefName.{RefName}
use Rattle.cs_laws.specs.declared.answers.Answer.TheVariants as answers
use Rattle.cs_laws.specs.declared.answers.Why.TheVariants as why
use Rattle.cs_laws.specs.declared.answers.Entry.{Entry}
use Rattle.cs_laws.specs.Answers.{answer_chmod, may_change_mode}
use Rattle.cs_laws.specs.CapSnaps.{is_writing}
use Rattle.cs_laws.specs.History.{live, queued}
use Rattle.cs_laws.specs.References.{named}
use Rattle.cs_laws.specs.Runs.{IsRun}
use Rattle.cs_theorems.proofs.QueueAnswers.{queue_writing}
use Rattle.cs_files.specs.Rows.{inode}
use Rattle.cs_inode.specs.Said.{chmod_said}
use Rattle.cs_files.specs.Steps.{on_file}
use Rattle.cs_files.proofs.ByFile.{by_file}

alike : (b : Bool) → cond b (answers.Again why.Snap) answers.Done ≡ chmod_said (cond b chmod.Snap chmod.Done)
alike true = refl
alike false = refl

pub chmod_is : (p : ℕ) (h : List Entry) → IsRun p h → (c : ℕ) (name : RefName) (r : Live) → named c name (live h) ≡ Some r → may_change_mode r.bits ≡ true
    → answer_chmod h c name ≡ chmod_said (chmod_answer (inode h r.file))
chmod_is p h run c name r here may =
    let writing = queue_writing p h run r.file in
    rw (here, may, writing) (alike (is_writing (live h) (queued h r.file)))

-- What is kept afterwards

module _ (h : List Entry) (c : ℕ) (name : RefName) (mode : ℕ) where
  abbrev changing : List Entry
  changing = record { event = events.Chmod c name mode; answer = answers.Done } ∷ h

  changed_is : (r : Live) → named c name (live h) ≡ Some r → inode changing r.file ≡ with_mode mode (inode h r.file)
  changed_is r here = let own : (r.file == r.file) ≡ true = eq-eqb r.file r.file refl in rw (here, own) refl

  others_changed : (r : Live) (g : ℕ) → named c name (live h) ≡ Some r → (r.file == g) ≡ false → inode changing g ≡ inode h g
  others_changed r g here other = rw (here, other) refl

  pub chmod_row : (f : ℕ) → inode changing f ≡ on_file (named c name (live h)) (λ r. with_mode mode) f (inode h f)
  chmod_row f = at (named c name (live h)) refl
    where
      at : (o : Option Live) → named c name (live h) ≡ o → inode changing f ≡ on_file o (λ r. with_mode mode) f (inode h f)
      at None here = rw here refl
      at (Some r) here = by_file (λ k. inode h k) (λ k. inode changing k) (with_mode mode) r.file f (changed_is r here) (others_changed r f here)
