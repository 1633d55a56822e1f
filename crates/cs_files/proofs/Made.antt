-- A file that the client doesn't know is as a new one. A line makes a directory or a file: what is kept of the others stays.
use Rattle.std.proofs.Common.{◌≡◌, ◌⊎◌, ◌∙◌, refl, sym, ap, subst, ℕ, ◌==◌, ◌||◌, not, Bool, true, false, cond, List, ◌∷◌, Some, ⊎_elim}
use Rattle.std.proofs.lemmas.Bool.{and_parts, both_ways, cond-true, eq-eqb, eqb-true, false_from_ne_true, or_parts}
use Rattle.cs_parts.specs.declared.references.Live.{Live}
use Rattle.cs_parts.specs.References.{is_writer_of}
use Rattle.cs_snapctx.specs.Context.{Context}
use Rattle.cs_inode.specs.Inodes.{FileInode, new_inode}
use Rattle.cs_laws.specs.declared.events.Event.TheVariants as events
use Rattle.cs_laws.specs.declared.events.RefName.{RefName}
use Rattle.cs_laws.specs.declared.answers.Answer.{Answer}
use Rattle.cs_laws.specs.declared.answers.Answer.TheVariants as answers
use Rattle.cs_laws.specs.declared.answers.Entry.{Entry}
use Rattle.cs_laws.specs.Answers.{answer_made, is_in_use}
use Rattle.cs_laws.specs.CapSnaps.{has_writer}
use Rattle.cs_laws.specs.Context.{path_context}
use Rattle.cs_laws.specs.ClientKnows.{client_home, client_knows, client_path}
use Rattle.cs_laws.specs.Events.{setup_file}
use Rattle.cs_laws.specs.History.{context, live, realms}
use Rattle.cs_laws.specs.Made.{home_with, makes_file}
use Rattle.cs_laws.specs.References.{named}
use Rattle.cs_laws.specs.Runs.{CanFollow, IsRun, all_setup}
use Rattle.cs_laws.specs.Tree.{home, is_directory}
use Rattle.cs_theorems.proofs.Asks.{goes_by}
use Rattle.cs_theorems.proofs.AsksRun.{quiet}
use Rattle.cs_theorems.proofs.Contexts.{dir_stays, file_stays}
use Rattle.cs_theorems.proofs.Course.{course_run}
use Rattle.cs_theorems.proofs.Known.{live_known}
use Rattle.cs_theorems.proofs.QueueAnswers.{count_none}
use Rattle.cs_theorems.proofs.Tests.{any_some}
use Rattle.cs_theorems.proofs.Untouched.{IsUntouchedAt, untouched}
use Rattle.cs_theorems.proofs.Uses.{named_is}
use Rattle.cs_files.specs.Rows.{inode, writers_of}

abbrev pub making : ℕ → ℕ → List Entry → List Entry
making f d h = record { event = events.File f d; answer = answers.Made } ∷ h

-- a line that makes an inode finds it free
free : (h : List Entry) (i d : ℕ) → answers.Made ≡ answer_made h i d → is_in_use h i ≡ false
free h i d is = at (is_in_use h i) (is_directory h d) is
  where
    at : (b c : Bool) → answers.Made ≡ cond b answers.Exists (cond c answers.Made answers.NoDir) → b ≡ false
    at false c e = refl
    at true c e = absurd cc

-- the client doesn't know a file that a line makes
pub made_unknown : (h : List Entry) (f d : ℕ) → all_setup h ≡ true → answers.Made ≡ answer_made h f d → client_knows h f ≡ false
made_unknown h f d all is =
    ap (λ ms. setup_file h f || makes_file f ms) (quiet h all).told
    ∙ ap (λ b. b || false) (or_parts (is_directory h f) (setup_file h f) (free h f d is)).1

pub home_made : (h : List Entry) (f d : ℕ) → all_setup h ≡ true → client_home (making f d h) f ≡ d
home_made h f d all = ap (λ ms. home_with ms f (cond (f == f) d (home h f))) (quiet h all).told ∙ cond-true (f == f) d (home h f) (eq-eqb f f refl)

-- its context is that of its directory
pub context_made : (h : List Entry) (f d : ℕ) → all_setup h ≡ true → context (making f d h) f ≡ path_context (client_path h d) (realms h)
context_made h f d all = ap (λ e. path_context (client_path h e) (realms h)) (home_made h f d all)

is_new : (h : List Entry) (f : ℕ) (ctx : Context) → IsUntouchedAt h f → writers_of f (live h) ≡ 0
    → (let i : FileInode = record (inode h f) { context = ctx } in i) ≡ new_inode f ctx
is_new h f ctx i none = rw (i.client, i.writes, i.mode, i.dirty, i.snaps, i.unacked, none) refl

module _ (p : ℕ) (h : List Entry) (run : IsRun p h) where
  pub named_known : (c : ℕ) (name : RefName) (r : Live) → named c name (live h) ≡ Some r → client_knows h r.file ≡ true
  named_known c name r is = live_known p h run r (named_is c name r (live h) is).1

  -- no writer lives of a file that isn't known
  no_writer : (f : ℕ) → client_knows h f ≡ false → has_writer f (live h) ≡ false
  no_writer f unknown =
      false_from_ne_true (has_writer f (live h))
      (λ some. let found = any_some (is_writer_of f) (live h) some in of_file found.0 (live_known p h run found.0 found.1) found.2)
    where
      of_file : (r : Live) → client_knows h r.file ≡ true → is_writer_of f r ≡ true → ⊥
      of_file r known writes =
          both_ways (client_knows h f) unknown (subst (λ k. client_knows h k ≡ true) (eqb-true r.file f (and_parts _ _ writes).0) known)

  -- and it is as a new one, under any context
  pub new_under : (f : ℕ) (ctx : Context) → client_knows h f ≡ false
      → (let i : FileInode = record (inode h f) { context = ctx } in i) ≡ new_inode f ctx
  new_under f ctx unknown =
      is_new h f ctx (untouched p h run f unknown) (eqb-true (writers_of f (live h)) 0 (count_none f (live h) ∙ ap not (no_writer f unknown)))

  pub new_is : (f : ℕ) → client_knows h f ≡ false → inode h f ≡ new_inode f (context h f)
  new_is f unknown = new_under f (context h f) unknown

  -- a line leaves what is kept of a file that the client knows
  module _ (a : Answer) (f : ℕ) (known : client_knows h f ≡ true) where
    known_one : {A : Type 0} → A ⊎ (client_knows h f ≡ false) → A
    known_one either = ⊎_elim (λ is. is) (λ unknown. absurd (both_ways (client_knows h f) unknown known)) either

    pub dir_row : (d q : ℕ) → a ≡ answer_made h d q → CanFollow h (events.Dir d q)
        → inode (record { event = events.Dir d q; answer = a } ∷ h) f ≡ inode h f
    dir_row d q is can =
        let same : context (record { event = events.Dir d q; answer = answer_made h d q } ∷ h) f ≡ context h f =
        known_one (dir_stays p h d q f (goes_by p h (events.Dir d q) can run) (course_run p h run).setting) in
        ap (λ c. let i : FileInode = record (inode h f) { context = c } in i)
        (subst (λ x. context (record { event = events.Dir d q; answer = x } ∷ h) f ≡ context h f) (sym is) same)

    pub file_row : (g d : ℕ) → a ≡ answer_made h g d → CanFollow h (events.File g d)
        → inode (record { event = events.File g d; answer = a } ∷ h) f ≡ inode h f
    file_row g d is can =
        let same : context (record { event = events.File g d; answer = answer_made h g d } ∷ h) f ≡ context h f =
        known_one (file_stays p h g d f (goes_by p h (events.File g d) can run) (course_run p h run).setting) in
        ap (λ c. let i : FileInode = record (inode h f) { context = c } in i)
        (subst (λ x. context (record { event = events.File g d; answer = x } ∷ h) f ≡ context h f) (sym is) same)
