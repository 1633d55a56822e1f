-- A write: the operations that it brings, and what it makes of what is kept of its file.
use Rattle.std.proofs.Common.{◌≡◌, ◌∙◌, refl, ap, ℕ, ◌+◌, ◌≤◌, ◌==◌, Bool, true, cond, List, ◌∷◌, length, Option, Some, None}
use Rattle.std.proofs.lemmas.Bool.{eq-eqb}
use Rattle.cs_bits.specs.Bits.{union, file_write}
use Rattle.cs_geom.specs.declared.places.TheConstants.{OBJECT_SIZE}
use Rattle.cs_geom.specs.Cuts.{pieces_of}
use Rattle.cs_parts.specs.declared.references.Live.{Live}
use Rattle.cs_parts.specs.References.{is_writer_of}
use Rattle.cs_inode.specs.Inodes.{FileInode, context_under, write_operations, written}
use Rattle.cs_laws.specs.declared.events.Event.TheVariants as events
use Rattle.cs_laws.specs.declared.events.RefName.{RefName}
use Rattle.cs_laws.specs.declared.answers.Answer.TheVariants as answers
use Rattle.cs_laws.specs.declared.answers.Entry.{Entry}
use Rattle.cs_laws.specs.declared.objects.At.TheVariants as at
use Rattle.cs_laws.specs.Answers.{may_write}
use Rattle.cs_laws.specs.Events.{clock}
use Rattle.cs_laws.specs.Fits.{greatest_end}
use Rattle.cs_laws.specs.Flushes.{written_meta}
use Rattle.cs_laws.specs.History.{dirty, live, mode, writes}
use Rattle.cs_laws.specs.Image.{Write}
use Rattle.cs_laws.specs.Operations.{begun_under, brought, operations, operations_drawn, written_on}
use Rattle.cs_laws.specs.References.{named}
use Rattle.cs_laws.specs.Runs.{IsRun}
use Rattle.cs_theorems.specs.Unacked.{unacked}
use Rattle.cs_theorems.proofs.Ends.{states_end}
use Rattle.cs_theorems.proofs.Uses.{named_is}
use Rattle.cs_theorems.proofs.WriteUnder.{write_under}
use Rattle.cs_files.specs.Rows.{inode}
use Rattle.cs_files.specs.Steps.{on_file}
use Rattle.cs_files.proofs.ByFile.{by_file}

module _ (p : ℕ) (h : List Entry) (run : IsRun p h) where
  -- a write is made under the context that its reference began under
  under_is : (c : ℕ) (name : RefName) (r : Live) → named c name (live h) ≡ Some r → may_write r.bits ≡ true
      → begun_under h r.caller r.number ≡ context_under (inode h r.file)
  under_is c name r here may =
      let writer : is_writer_of r.file r ≡ true = rw (eq-eqb r.file r.file refl, may) refl in
      write_under p h run r.file r (named_is c name r (live h) here).1 writer

  pub brought_is : (c : ℕ) (name : RefName) (off : ℕ) (bytes : List ℕ) (r : Live) → named c name (live h) ≡ Some r → may_write r.bits ≡ true
      → brought (events.Write c name off bytes) answers.Wrote h (operations_drawn h)
      ≡ write_operations (operations_drawn h + 1) off bytes (inode h r.file)
  brought_is c name off bytes r here may =
      ap (λ o. written_on o (λ q. begun_under h q.caller q.number) (operations_drawn h) off bytes) here
      ∙ ap (λ ctx. operations (operations_drawn h + 1) r.file off bytes ctx (pieces_of OBJECT_SIZE off (length bytes))) (under_is c name r here may)

  -- no file is longer than a write may end
  pub size_within : (f : ℕ) → (inode h f).meta.size ≤ greatest_end
  size_within f = states_end p h run f at.Head

-- What is kept afterwards

module _ (h : List Entry) (c : ℕ) (name : RefName) (off : ℕ) (bytes : List ℕ) where
  abbrev writing : List Entry
  writing = record { event = events.Write c name off bytes; answer = answers.Wrote } ∷ h

  abbrev new_write : Live → Write
  new_write r = record { off = off; bytes = bytes; time = clock h; tag = r.tag }

  -- b: whether the file is the one that is written to
  abbrev inode_after : Bool → Write → ℕ → FileInode
  inode_after b w g = record (inode h g) {
    flushes = record { dirty = cond b (union (dirty h g) file_write) (dirty h g); unacked = unacked h g };
    meta = written_meta (mode h g) (cond b (w ∷ writes h g) (writes h g));
  }

  inode_is : (r : Live) (g : ℕ) → named c name (live h) ≡ Some r → inode writing g ≡ inode_after (r.file == g) (new_write r) g
  inode_is r g here = rw here refl

  pub write_row : (f : ℕ) → inode writing f ≡ on_file (named c name (live h)) (λ r. written (off + length bytes) (clock h)) f (inode h f)
  write_row f = by_name (named c name (live h)) refl
    where
      by_name : (o : Option Live) → named c name (live h) ≡ o → inode writing f ≡ on_file o (λ r. written (off + length bytes) (clock h)) f (inode h f)
      by_name None here = rw here refl
      by_name (Some r) here =
          by_file (λ k. inode h k) (λ k. inode writing k) (written (off + length bytes) (clock h)) r.file f
          (inode_is r r.file here ∙ ap (λ b. inode_after b (new_write r) r.file) (eq-eqb r.file r.file refl))
          (λ other. inode_is r f here ∙ ap (λ b. inode_after b (new_write r) f) other)
