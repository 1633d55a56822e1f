-- The bytes that a read answers.
use Rattle.std.proofs.Common.{◌≡◌, ◌∙◌, refl, sym, ap, ℕ, suc, ◌+◌, List, [], ◌∷◌, ◌++◌, length, take, drop, slice_index, EachIndex, arith}
use Rattle.std.proofs.Math.Seq.{take-append_seam}
use Rattle.cs_laws.specs.declared.objects.At.{At}
use Rattle.cs_laws.specs.declared.objects.At.TheVariants as at
use Rattle.cs_laws.specs.Answers.{bytes_from}
use Rattle.cs_trim.specs.declared.answers.TrimRead.TheVariants as reads
use Rattle.cs_trim.specs.declared.numbers.SnapStatus.TheVariants.{Standing}
use Rattle.cs_trim.specs.Held.{StoreState, status_of}
use Rattle.cs_trim.specs.Objects.{object_byte}
use Rattle.cs_trim.specs.Stands.{Reads, StandsFor}
use Rattle.cs_trim.specs.Steps.{Step}
use Rattle.cs_trim_script.specs.declared.answers.Answer.TheVariants as answers
use Rattle.cs_trim_script.specs.declared.events.Event.TheVariants as events
use Rattle.cs_trim_script.specs.Journal.{answer, answer_read, state_status}

-- a list with the bytes of each place is them all
bytes_of_places : (b : ℕ → ℕ) (off : ℕ) (out : List ℕ) → EachIndex out (λ i. slice_index out i ≡ b (off + i)) → out ≡ bytes_from b off (length out)
bytes_of_places b off [] each = refl
bytes_of_places b off (x ∷ out) each =
    let here : off + 0 ≡ off = omega arith in
    let first : x ≡ b off = rw here at (each 0 (omega arith)) in
    let rest = bytes_of_places b (off + 1) out (λ i below.
    let there : off + suc i ≡ (off + 1) + i = omega arith in
    rw there at (each (suc i) (omega (arith, below)))) in
    rw (← first) (ap (λ bs. x ∷ bs) rest)

-- what was written over all items of a list is the list
pub written_over : (n : ℕ) (out items : List ℕ) → n ≡ length out → take n (out ++ drop (length out) items) ≡ out
written_over n out items long = rw long (take-append_seam out (drop (length out) items))

pub status_is : (h : List Step) (s : StoreState) (a : At) → StandsFor h s → status_of s.numbers a ≡ state_status h a
status_is h s at.Head stands = refl
status_is h s (at.Snap n) stands = stands.statuses n

pub reads_bytes : (b off len : ℕ) (a : At) (s : StoreState) (old new : List ℕ) → length new ≡ len → Reads s b a off reads.Read old new
    → (h : List Step) → StandsFor h s → answers.Bytes new ≡ answer h (events.Read b a off len)
reads_bytes b off len a s old new long is h stands =
    let standing : state_status h a ≡ Standing = sym (status_is h s a stands) ∙ is.0 in
    let bytes : new ≡ bytes_from (object_byte a b h) off len =
    bytes_of_places (object_byte a b h) off new (is.1 h stands) ∙ ap (bytes_from (object_byte a b h) off) long in
    ap answers.Bytes bytes ∙ ap (λ x. answer_read x (bytes_from (object_byte a b h) off len)) (sym standing)
