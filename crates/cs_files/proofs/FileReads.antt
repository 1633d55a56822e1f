-- A read: what it is answered, by what the store has of the file.
use Rattle.std.proofs.Common.{◌≡◌, refl, ℕ, true, List, Some}
use Rattle.cs_parts.specs.declared.references.Live.{Live}
use Rattle.cs_inode.specs.Said.{shown_count}
use Rattle.cs_laws.specs.declared.events.RefName.{RefName}
use Rattle.cs_laws.specs.declared.answers.Answer.TheVariants as answers
use Rattle.cs_laws.specs.declared.answers.Entry.{Entry}
use Rattle.cs_laws.specs.declared.objects.At.TheVariants as at
use Rattle.cs_laws.specs.Answers.{answer_read, bytes_from, may_read}
use Rattle.cs_laws.specs.History.{live, writes}
use Rattle.cs_laws.specs.Image.{image}
use Rattle.cs_laws.specs.References.{named}
use Rattle.cs_laws.specs.Runs.{IsRun}
use Rattle.cs_theorems.proofs.Agreeing.{states_hold}
use Rattle.cs_files.specs.Laws.{stored_byte}
use Rattle.cs_files.specs.Rows.{inode}

pub read_is : (p : ℕ) (h : List Entry) → IsRun p h → (c : ℕ) (name : RefName) (off len : ℕ) (r : Live) → named c name (live h) ≡ Some r → may_read r.bits ≡ true
    → answer_read h c name off len ≡ answers.Bytes (bytes_from (stored_byte h r.file) off (shown_count (inode h r.file).meta.size off len))
read_is p h run c name off len r here may =
    let stored : stored_byte h r.file ≡ image (writes h r.file) = λ i k. states_hold p h run at.Head r.file k i in
    rw (here, may, stored) refl
