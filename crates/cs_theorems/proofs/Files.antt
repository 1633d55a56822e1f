-- The files are listed, each once.
use Rattle.std.proofs.Common.{◌≡◌, refl, ℕ, ◌↔◌, Bool, true, false, cond, List, [], ◌∷◌, ◌==◌, inl, inr, ⊎_elim, ◌||◌, ◌&&◌, ◌∙◌, not, sym, subst}
use Rattle.std.proofs.lemmas.Bool.{cond_both, eqb-true, eq-eqb, both_ways, or_parts, and_parts, or_cases, or_left, or_right}
use Rattle.cs_laws.specs.declared.events.Event.{Event}
use Rattle.cs_laws.specs.declared.events.Event.TheVariants as e
use Rattle.cs_laws.specs.declared.answers.Entry.{Entry}
use Rattle.cs_laws.specs.Answers.{answer_made, is_in_use}
use Rattle.cs_laws.specs.Events.{setup_file, files}
use Rattle.cs_laws.specs.Tree.{is_directory}
use Rattle.cs_laws.specs.Journal.{entry}
use Rattle.cs_laws.specs.Runs.{IsRun}
use Rattle.cs_laws.specs.ClientKnows.{client_files, client_knows, client_made}
use Rattle.cs_laws.specs.Made.{Made, is_made_file, makes_file, with_files}
use Rattle.cs_theorems.specs.References.{IsEachOnce}
use Rattle.cs_theorems.proofs.Listed.{Member}
use Rattle.cs_theorems.proofs.Runs.{of_run}
use Rattle.cs_theorems.proofs.Asks.{Asks, asks_run}
use Rattle.cs_theorems.proofs.Trees.{AreUsed, Grown, grown_front, more_dirs, more_used, not_dir}

-- known f: f is a file; fs: the files
pub record AreListed (known : ℕ → Bool) (fs : List ℕ) : Type 0 where
  pub listed : (f : ℕ) → (known f ≡ true) ↔ Member f fs
  pub once : IsEachOnce fs

listed_one : (b was : Bool) (g f : ℕ) (fs : List ℕ) → (g == f) ≡ b → (was ≡ true) ↔ Member f fs → (cond b true was ≡ true) ↔ Member f (g ∷ fs)
listed_one true was g f fs is i = (λ _. inl (eqb-true g f is), λ _. refl)
listed_one false was g f fs is i =
    (λ t. inr (i.0 t), λ m. ⊎_elim (λ same. absurd (both_ways (g == f) is (eq-eqb g f same))) (λ there. i.1 there) m)

listed_more : (known : ℕ → Bool) (g : ℕ) (fs : List ℕ) → known g ≡ false → AreListed known fs → AreListed (λ f. cond (g == f) true (known f)) (g ∷ fs)
listed_more known g fs new i = record {
  listed = λ f. listed_one (g == f) (known f) g f fs refl (i.listed f);
  once = (λ there. both_ways (known g) new ((i.listed g).1 there), i.once);
}

abbrev FilesAreListed : List Entry → Type 0
FilesAreListed h = AreListed (λ f. setup_file h f) (files h)

step_file : (h : List Entry) (g d : ℕ) → FilesAreListed h → FilesAreListed (record { event = e.File g d; answer = answer_made h g d } ∷ h)
step_file h g d i =
    cond_both (is_in_use h g) _ _ (λ x. FilesAreListed (record { event = e.File g d; answer = x } ∷ h)) (λ _. i)
    (λ new. cond_both (is_directory h d) _ _ (λ x. FilesAreListed (record { event = e.File g d; answer = x } ∷ h))
    (λ _. listed_more (λ f. setup_file h f) g (files h) (or_parts (is_directory h g) (setup_file h g) new).1 i)
    (λ _. i))

listed_step : (p : ℕ) (h : List Entry) (x : Event) → FilesAreListed h → FilesAreListed (entry p h x ∷ h)
listed_step p h (e.File g d) i = step_file h g d i
listed_step p h _ i = i

none_listed : FilesAreListed []
none_listed = record { listed = λ f. (λ t. absurd cc, λ m. absurd m); once = tt }

files_are_listed : (p : ℕ) (h : List Entry) → IsRun p h → FilesAreListed h
files_are_listed p h run = of_run p FilesAreListed none_listed (λ g x fit before i. listed_step p g x i) h run

-- What answers tell of

-- known f: f was known before these
abbrev files_of : List Made → (ℕ → Bool) → ℕ → Bool
files_of [] known f = known f
files_of (m ∷ ms) known f = files_of ms (λ k. known k || is_made_file k m) f

or_assoc : (a b c : Bool) → ((a || b) || c) ≡ (a || (b || c))
or_assoc true b c = refl
or_assoc false b c = refl

or_none : (b : Bool) → b ≡ (b || false)
or_none true = refl
or_none false = refl

or_cond : (a b : Bool) → cond b true a ≡ (a || b)
or_cond true true = refl
or_cond true false = refl
or_cond false true = refl
or_cond false false = refl

files_are : (ms : List Made) (known : ℕ → Bool) (f : ℕ) → files_of ms known f ≡ (known f || makes_file f ms)
files_are [] known f = or_none (known f)
files_are (m ∷ ms) known f = files_are ms (λ k. known k || is_made_file k m) f ∙ or_assoc (known f) (is_made_file f m) (makes_file f ms)

listed_same : (known more : ℕ → Bool) (fs : List ℕ) → ((f : ℕ) → known f ≡ more f) → AreListed known fs → AreListed more fs
listed_same known more fs same i = record { listed = λ f. (λ is. (i.listed f).0 (same f ∙ is), λ m. sym (same f) ∙ (i.listed f).1 m); once = i.once }

-- a directory or a file
listed_next : (b : Bool) (e : ℕ) (known : ℕ → Bool) (fs : List ℕ) → known e ≡ false → AreListed known fs
    → AreListed (λ f. known f || (not b && (e == f))) (cond b fs (e ∷ fs))
listed_next true e known fs new i = listed_same known (λ f. known f || false) fs (λ f. or_none (known f)) i
listed_next false e known fs new i =
    listed_same (λ f. cond (e == f) true (known f)) (λ f. known f || (e == f)) (e ∷ fs) (λ f. or_cond (known f) (e == f)) (listed_more known e fs new i)

listed_grown : (dir used : ℕ → Bool) (ms : List Made) (known : ℕ → Bool) (fs : List ℕ) → AreUsed known used → Grown dir used ms → AreListed known fs
    → AreListed (λ f. files_of ms known f) (with_files ms fs)
listed_grown dir used [] known fs in_use grown i = i
listed_grown dir used (m ∷ ms) known fs in_use grown i =
    listed_grown (λ k. more_dirs m dir k) (λ k. more_used m used k) ms (λ f. known f || is_made_file f m) _
    (λ f is. ⊎_elim
    (λ old. or_left (used f) _ (in_use f old))
    (λ new. or_right (used f) _ (and_parts (not m.is_dir) (m.ino == f) new).1)
    (or_cases (known f) (is_made_file f m) is))
    grown.2 (listed_next m.is_dir m.ino known fs (not_dir known used m.ino in_use grown.0) i)

client_listed : (h : List Entry) → Asks h → FilesAreListed h → AreListed (λ f. client_knows h f) (client_files h)
client_listed h asks i =
    listed_same (λ f. files_of (client_made h) (λ k. setup_file h k) f) (λ f. client_knows h f) (client_files h) (λ f. files_are (client_made h) (λ k. setup_file h k) f)
    (listed_grown (λ d. is_directory h d) (λ k. is_in_use h k) (client_made h) (λ k. setup_file h k) (files h) (λ f is. or_right (is_directory h f) _ is)
    (grown_front (λ d. is_directory h d) (λ k. is_in_use h k) (client_made h) (asks.told).0
    (subst (λ ms. Grown (λ d. is_directory h d) (λ k. is_in_use h k) ms) (asks.told).1 asks.grown)) i)

-- the list has exactly the files that the client knows
pub listed : (p : ℕ) (h : List Entry) → IsRun p h → (f : ℕ) → (client_knows h f ≡ true) ↔ Member f (client_files h)
listed p h run = (client_listed h (asks_run p h run) (files_are_listed p h run)).listed

pub listed_once : (p : ℕ) (h : List Entry) → IsRun p h → IsEachOnce (client_files h)
listed_once p h run = (client_listed h (asks_run p h run) (files_are_listed p h run)).once
