-- The list of the leases against the entries of their table.
use Rattle.std.proofs.Common.{◌≡◌, ℕ, Bool, true, false, cond, List, [], ◌∷◌, Option, Some, refl, sym, ◌∙◌, ap}
use Rattle.std.specs.Map.{lookup}
use Rattle.std.specs.Option.{option_map}
use Rattle.cs_leases.specs.declared.entry.Entry.{Entry}
use Rattle.cs_leases.specs.declared.leases.Lease.{Lease}
use Rattle.cs_leases.specs.Entries.{entry_of, listed}
use Rattle.cs_leases.specs.Leases.{is_entry, lease_on, lookup_answer}

-- the key's own test
abbrev pub is_key : ℕ → List ℕ → Entry → Bool
is_key dir name k = is_entry dir name k.dir k.name.items

-- the inode and the time of a lease
abbrev pub terms : Option Lease → Option (ℕ × ℕ)
terms o = option_map (λ l. (l.ino, l.until)) o

terms-cond : (b : Bool) (x y : Option Lease) → terms (cond b x y) ≡ cond b (terms x) (terms y)
terms-cond true x y = refl
terms-cond false x y = refl

-- the lease on an entry is the one that the table has at its key
lease_on-listed : (dir : ℕ) (name : List ℕ) (es : List (Entry × Lease))
    → lease_on (listed es) dir name ≡ terms (lookup (is_key dir name) es)
lease_on-listed dir name [] = refl
lease_on-listed dir name (e ∷ es) =
    let here = is_key dir name e.0 in
    let rest = lease_on-listed dir name es in
    (λ j. cond here (Some (e.1.ino, e.1.until)) (rest j)) ∙ sym (terms-cond here (Some e.1) (lookup (is_key dir name) es))

-- what a change of one key's value makes of each entry's lease
pub lease_on-changed : (old new : List (Entry × Lease)) (dir : ℕ) (name : List ℕ) (lease : Option Lease)
    → ((k : Entry) → lookup (is_key k.dir k.name.items) new ≡ cond (is_key dir name k) lease (lookup (is_key k.dir k.name.items) old))
    → (d : ℕ) (n : List ℕ) → lease_on (listed new) d n ≡ cond (is_entry dir name d n) (terms lease) (lease_on (listed old) d n)
lease_on-changed old new dir name lease changes d n =
    let here = is_entry dir name d n in
    let before = sym (lease_on-listed d n old) in
    lease_on-listed d n new
    ∙ (ap terms (changes (entry_of d n))
    ∙ (terms-cond here lease (lookup (is_key d n) old) ∙ (λ j. cond here (terms lease) (before j))))

-- what a look-up says, by the lease that the table has
pub answer-listed : (dir : ℕ) (name : List ℕ) (now : ℕ) (es : List (Entry × Lease)) (lease : Option Lease)
    → lease ≡ lookup (is_key dir name) es → lookup_answer (terms lease) now ≡ lookup_answer (lease_on (listed es) dir name) now
answer-listed dir name now es lease found = ap (λ l. lookup_answer l now) (ap terms found ∙ sym (lease_on-listed dir name es))
