-- Each write, read and change of a mode is on a live reference that had its bits issued.
use Rattle.std.proofs.Common.{◌≡◌, refl, subst, ℕ, ◌==◌, Bool, true, false, cond, List, [], ◌∷◌, Option, Some, inl, inr}
use Rattle.std.proofs.lemmas.Bool.{and_parts, eqb-true}
use Rattle.cs_bits.specs.declared.Caps.{Caps}
use Rattle.cs_parts.specs.declared.references.Live.{Live}
use Rattle.cs_parts.specs.References.{is_ref, ref_named}
use Rattle.cs_laws.specs.declared.events.Event.{Event}
use Rattle.cs_laws.specs.declared.events.Event.TheVariants as e
use Rattle.cs_laws.specs.declared.events.RefName.{RefName}
use Rattle.cs_laws.specs.declared.events.RefName.TheVariants as names
use Rattle.cs_laws.specs.declared.answers.Answer.{Answer}
use Rattle.cs_laws.specs.declared.answers.Entry.{Entry}
use Rattle.cs_laws.specs.Answers.{answer, may_change_mode, may_read, may_write}
use Rattle.cs_laws.specs.History.{live}
use Rattle.cs_laws.specs.References.{named}
use Rattle.cs_laws.specs.Lists.{Member}
use Rattle.cs_laws.specs.Laws.{IsIssued, IsNamed, UseIsIssued, UsesAreIssued}
use Rattle.cs_laws.specs.Runs.{IsRun}
use Rattle.cs_theorems.proofs.Runs.{of_run}
use Rattle.cs_theorems.specs.References.{LiveWereIssued}
use Rattle.cs_theorems.proofs.Begun.{live_were_issued}
use Rattle.cs_theorems.proofs.Inversions.{ChmodIs, chmod_unknown, chmod_no_bit, chmod_snap, chmod_done, chmod_is, ReadIs, read_unknown, read_no_bit, was_read, read_is, WriteIs, write_unknown, write_no_bit, write_past, wrote, write_is}

-- what a caller and a number find
pub record Finds (c n : ℕ) (r : Live) (rs : List Live) : Type 0 where
  pub caller : r.caller ≡ c
  pub number : r.number ≡ n
  pub lives : Member r rs

more : (c n : ℕ) (r y : Live) (ys : List Live) → Finds c n r ys → Finds c n r (y ∷ ys)
more c n r y ys f = record { caller = f.caller; number = f.number; lives = inr f.lives }

found_first : (c n : ℕ) (r y : Live) (ys : List Live) (rest : Option Live) (b : Bool) → is_ref c n y ≡ b → (rest ≡ Some r → Finds c n r ys)
    → cond b (Some y) rest ≡ Some r → Finds c n r (y ∷ ys)
found_first c n r y ys rest true t others is =
    let same : y ≡ r = cc in
    let parts = and_parts (y.caller == c) (y.number == n) t in
    subst (λ z. Finds c n z (y ∷ ys)) same (record { caller = eqb-true y.caller c parts.0; number = eqb-true y.number n parts.1; lives = inl refl })
found_first c n r y ys rest false t others is = more c n r y ys (others is)

pub finds : (c n : ℕ) (r : Live) (rs : List Live) → ref_named c n rs ≡ Some r → Finds c n r rs
finds c n r [] is = absurd (cc)
finds c n r (y ∷ ys) is = found_first c n r y ys (ref_named c n ys) (is_ref c n y) refl (finds c n r ys) is

pub named_is : (c : ℕ) (name : RefName) (r : Live) (rs : List Live) → named c name rs ≡ Some r → IsNamed c name r × Member r rs
named_is c (names.Own n) r rs is = let f = finds c n r rs is in ((f.caller, f.number), f.lives)
named_is c (names.Kept n) r rs is = let f = finds 0 n r rs is in ((f.caller, f.number), f.lives)

-- what is done on a live reference that has the right to it
on_issued : (may : Caps → Bool) (h : List Entry) (c : ℕ) (name : RefName) (r : Live) → named c name (live h) ≡ Some r → may r.bits ≡ true → LiveWereIssued h
    → IsIssued may c name h
on_issued may h c name r is right i =
    let found = named_is c name r (live h) is in
    record { reference = r; named = found.0; lives = found.1; permitted = right; issued = i r found.1 }

write_issued : (h : List Entry) (c : ℕ) (name : RefName) (off : ℕ) (bytes : List ℕ) (x : Answer) → WriteIs h c name x → LiveWereIssued h
    → UseIsIssued (e.Write c name off bytes) x h
write_issued h c name off bytes x write_unknown i = tt
write_issued h c name off bytes x write_no_bit i = tt
write_issued h c name off bytes x write_past i = tt
write_issued h c name off bytes x (wrote r is may) i = on_issued may_write h c name r is may i

read_issued : (h : List Entry) (c : ℕ) (name : RefName) (off len : ℕ) (x : Answer) → ReadIs h c name off len x → LiveWereIssued h
    → UseIsIssued (e.Read c name off len) x h
read_issued h c name off len x read_unknown i = tt
read_issued h c name off len x read_no_bit i = tt
read_issued h c name off len x (was_read r is may) i = on_issued may_read h c name r is may i

chmod_issued : (h : List Entry) (c : ℕ) (name : RefName) (mode : ℕ) (x : Answer) → ChmodIs h c name x → LiveWereIssued h
    → UseIsIssued (e.Chmod c name mode) x h
chmod_issued h c name mode x chmod_unknown i = tt
chmod_issued h c name mode x chmod_no_bit i = tt
chmod_issued h c name mode x chmod_snap i = tt
chmod_issued h c name mode x (chmod_done r is may free) i = on_issued may_change_mode h c name r is may i

use_issued : (p : ℕ) (h : List Entry) (x : Event) → LiveWereIssued h → UseIsIssued x (answer p h x) h
use_issued p h (e.Write c name off bytes) i = write_issued h c name off bytes _ (write_is h c name off bytes) i
use_issued p h (e.Read c name off len) i = read_issued h c name off len _ (read_is h c name off len) i
use_issued p h (e.Chmod c name mode) i = chmod_issued h c name mode _ (chmod_is h c name) i
use_issued p h _ i = tt

pub uses_issued : (p : ℕ) (h : List Entry) → IsRun p h → UsesAreIssued h
uses_issued p h run =
    of_run p UsesAreIssued tt (λ g x fit before issued. (use_issued p g x (live_were_issued p g before), issued)) h run
