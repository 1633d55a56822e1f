-- No write of a run ends beyond the greatest size of a file.
use Rattle.std.proofs.Common.{◌≡◌, ℕ, ◌+◌, ◌≤◌, ◌==◌, ◌&&◌, Bool, true, false, cond, List, [], ◌∷◌, length, filter, Option, Some, None, nat_le, arith}
use Rattle.std.proofs.lemmas.Bool.{and_parts, leb-true}
use Rattle.cs_parts.specs.declared.references.Live.{Live}
use Rattle.cs_laws.specs.declared.events.Event.{Event}
use Rattle.cs_laws.specs.declared.events.Event.TheVariants as e
use Rattle.cs_laws.specs.declared.answers.Answer.{Answer}
use Rattle.cs_laws.specs.declared.answers.Answer.TheVariants as a
use Rattle.cs_laws.specs.declared.answers.Entry.{Entry}
use Rattle.cs_laws.specs.declared.objects.At.{At}
use Rattle.cs_laws.specs.declared.objects.At.TheVariants as at
use Rattle.cs_laws.specs.Events.{clock}
use Rattle.cs_laws.specs.Fits.{fits, greatest_end, is_write, most_written}
use Rattle.cs_laws.specs.History.{live, writes}
use Rattle.cs_laws.specs.Image.{Write, size, upto}
use Rattle.cs_laws.specs.Journal.{entry}
use Rattle.cs_laws.specs.References.{named}
use Rattle.cs_laws.specs.Shown.{is_before, writes_at}
use Rattle.cs_laws.specs.Writes.{with_write, writes_then}
use Rattle.cs_laws.specs.Runs.{IsRun}
use Rattle.cs_theorems.proofs.Runs.{of_run}

abbrev EndsWithin : List Write → Type 0
EndsWithin ws = size ws ≤ greatest_end

one_more : (b : Bool) (w : Write) (ws : List Write) → w.off + length w.bytes ≤ greatest_end → EndsWithin ws → EndsWithin (cond b (w ∷ ws) ws)
one_more true w ws end i = omega (arith, end, i)
one_more false w ws end i = i

written : (found : Option Live) (off : ℕ) (bytes : List ℕ) (time f : ℕ) (ws : List Write) → off + length bytes ≤ greatest_end → EndsWithin ws
    → EndsWithin (with_write found off bytes time f ws)
written None off bytes time f ws end i = i
written (Some r) off bytes time f ws end i = one_more (r.file == f) (record { off = off; bytes = bytes; time = time; tag = r.tag }) ws end i

write_ends : (off : ℕ) (bytes : List ℕ) → is_write off bytes ≡ true → off + length bytes ≤ greatest_end
write_ends off bytes fit =
    let parts = and_parts (nat_le 1 (length bytes) && nat_le (length bytes) most_written) (nat_le (off + length bytes) greatest_end) fit in
    leb-true (off + length bytes) greatest_end parts.1

then_ends : (x : Event) (y : Answer) (rs : List Live) (time f : ℕ) (ws : List Write) → fits x ≡ true → EndsWithin ws → EndsWithin (writes_then x y rs time f ws)
then_ends (e.Write c name off bytes) a.Wrote rs time f ws fit i = written (named c name rs) off bytes time f ws (write_ends off bytes fit) i
then_ends _ _ rs time f ws fit i = i

all_end : (p : ℕ) (h : List Entry) → IsRun p h → (f : ℕ) → EndsWithin (writes h f)
all_end p h run =
    of_run p (λ g. (f : ℕ) → EndsWithin (writes g f)) (λ f. omega arith)
    (λ g x can before i f. then_ends x (entry p g x).answer (live g) (clock g) f (writes g f) can.spelled (i f)) h run

-- some of the writes end no later than all

kept_or : (b : Bool) (w : Write) (ws some : List Write) → size some ≤ size ws → size (cond b (w ∷ some) some) ≤ size (w ∷ ws)
kept_or true w ws some less = omega (arith, less)
kept_or false w ws some less = omega (arith, less)

some_less : (test : Write → Bool) (ws : List Write) → size (filter test ws) ≤ size ws
some_less test [] = omega arith
some_less test (w ∷ ws) = kept_or (test w) w ws (filter test ws) (some_less test ws)

-- so no state is larger than a file may be
pub states_end : (p : ℕ) (h : List Entry) → IsRun p h → (f : ℕ) (a : At) → size (writes_at a (writes h f)) ≤ greatest_end
states_end p h run f at.Head = all_end p h run f
states_end p h run f (at.Snap s) = omega (arith, all_end p h run f, some_less (λ w. is_before (at.Snap s) w.tag) (writes h f))

-- nor what a flush under a number tells of
pub upto_end : (p : ℕ) (h : List Entry) → IsRun p h → (f s : ℕ) → size (upto s (writes h f)) ≤ greatest_end
upto_end p h run f s = omega (arith, all_end p h run f, some_less (λ w. nat_le w.tag s) (writes h f))
