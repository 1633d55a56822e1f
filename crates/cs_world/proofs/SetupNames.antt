-- While all is set up no record stands, and the namespace has exactly the directories and files that lines made.
use Rattle.std.proofs.Common.{◌≡◌, ◌∙◌, refl, sym, ap, ℕ, ◌+◌, ◌==◌, ◌||◌, ◌&&◌, ◌++◌, Bool, true, false, cond, List, [], ◌∷◌}
use Rattle.std.specs.List.{list_any}
use Rattle.std.proofs.lemmas.List.Folds.{list_any-append}
use Rattle.cs_laws.specs.declared.events.Event.{Event}
use Rattle.cs_laws.specs.declared.events.Event.TheVariants as events
use Rattle.cs_laws.specs.declared.answers.Answer.{Answer}
use Rattle.cs_laws.specs.declared.answers.Answer.TheVariants as answers
use Rattle.cs_laws.specs.declared.answers.Entry.{Entry}
use Rattle.cs_laws.specs.Answers.{answer, answer_made, is_in_use}
use Rattle.cs_laws.specs.Events.{is_setup, setup_file}
use Rattle.cs_laws.specs.History.{stand}
use Rattle.cs_laws.specs.Made.{dirs_with, home_with, made_in, makes_dir, makes_file, path_with}
use Rattle.cs_laws.specs.Names.{names, names_after, setup_names, setup_names_then}
use Rattle.cs_laws.specs.Namespace.{Named, has_dir, has_file, is_ahead, is_dir_entry, with_entry}
use Rattle.cs_laws.specs.Runs.{all_setup}
use Rattle.cs_laws.specs.ServerKnows.{server_dir, server_dirs, server_home, server_knows, server_made, server_path}
use Rattle.cs_laws.specs.Tree.{directories, home, is_directory, path, setup_dir}
use Rattle.cs_mds.specs.Served.{names_on}
use Rattle.cs_names.specs.declared.setup.SetupStep.TheVariants as steps
use Rattle.cs_names.specs.Setup.{after_step, setup_step}
use Rattle.cs_theorems.proofs.AsksRun.{quiet}

or_none : (b : Bool) → (b || false) ≡ b
or_none true = refl
or_none false = refl

-- Before all records

module _ (h : List Entry) (all : all_setup h ≡ true) where
  none : stand h ≡ []
  none = let i = quiet h all in λ k. i.durable k ++ i.fresh k

  pub early_dir : (d : ℕ) → server_dir h d ≡ is_directory h d
  early_dir d = ap (λ rs. is_directory h d || makes_dir d (made_in rs)) none ∙ or_none (is_directory h d)

  pub early_file : (f : ℕ) → server_knows h f ≡ setup_file h f
  early_file f = ap (λ rs. setup_file h f || makes_file f (made_in rs)) none ∙ or_none (setup_file h f)

  pub early_path : (d : ℕ) → server_path h d ≡ path h d
  early_path d = ap (λ rs. path_with (made_in rs) (λ e. path h e) d) none

  pub early_dirs : server_dirs h ≡ directories h
  early_dirs = ap (λ rs. dirs_with (made_in rs) (λ e. path h e) (directories h)) none

  pub early_home : (f : ℕ) → server_home h f ≡ home h f
  early_home f = ap (λ rs. home_with (made_in rs) f (home h f)) none

  pub early_names : names h ≡ setup_names h
  early_names = ap (λ rs. names_after (setup_names h) rs) none

-- one more line
pub more_setup : (h : List Entry) (e : Event) (a : Answer) → is_setup e ≡ true → all_setup h ≡ true → all_setup (record { event = e; answer = a } ∷ h) ≡ true
more_setup h e a is all = λ k. is k && all k

-- What the namespace has

any_with : (p : Named → Bool) (x : Named) (es : List Named) → list_any p (with_entry x es) ≡ (p x || list_any p es)
any_with p x [] = refl
any_with p x (y ∷ ys) = at (is_ahead x y) (any_with p x ys)
  where
    turned : (b c d : Bool) → (c || (b || d)) ≡ (b || (c || d))
    turned true true d = refl
    turned true false d = refl
    turned false c d = refl

    at : (b : Bool) → list_any p (with_entry x ys) ≡ (p x || list_any p ys)
        → list_any p (cond b (x ∷ y ∷ ys) (y ∷ with_entry x ys)) ≡ (p x || (p y || list_any p ys))
    at true rest = refl
    at false rest = ap (λ b. p y || b) rest ∙ turned (p x) (p y) (list_any p ys)

first_true : (b w : Bool) → (b || w) ≡ cond b true w
first_true true w = refl
first_true false w = refl

last_true : (b w : Bool) → (w || (b || false)) ≡ cond b true w
last_true true true = refl
last_true true false = refl
last_true false true = refl
last_true false false = refl

pub named_dir : (h : List Entry) (d : ℕ) → list_any (is_dir_entry d) (setup_names h).entries ≡ setup_dir h d
named_dir [] d = refl
named_dir (x ∷ h) d = at x.event x.answer (named_dir h d)
  where
    at : (e : Event) (a : Answer) → list_any (is_dir_entry d) (setup_names h).entries ≡ setup_dir h d
        → list_any (is_dir_entry d) (setup_names (record { event = e; answer = a } ∷ h)).entries ≡ setup_dir (record { event = e; answer = a } ∷ h) d
    at (events.Dir i p) answers.Made rest =
        any_with (is_dir_entry d) _ (setup_names h).entries ∙ (ap (λ w. (i == d) || w) rest ∙ first_true (i == d) (setup_dir h d))
    at (events.File f p) answers.Made rest = any_with (is_dir_entry d) _ (setup_names h).entries ∙ rest
    at _ _ rest = rest

pub named_file : (h : List Entry) (f : ℕ) → has_file (setup_names h) f ≡ setup_file h f
named_file [] f = refl
named_file (x ∷ h) f = at x.event x.answer (named_file h f)
  where
    at : (e : Event) (a : Answer) → has_file (setup_names h) f ≡ setup_file h f
        → has_file (setup_names (record { event = e; answer = a } ∷ h)) f ≡ setup_file (record { event = e; answer = a } ∷ h) f
    at (events.File g p) answers.Made rest =
        list_any-append (λ k. k == f) (setup_names h).files (g ∷ []) ∙ (ap (λ w. w || ((g == f) || false)) rest ∙ last_true (g == f) (setup_file h f))
    at (events.Dir i p) answers.Made rest = rest
    at _ _ rest = rest

pub named_root : (h : List Entry) (d : ℕ) → has_dir (setup_names h) d ≡ is_directory h d
named_root h d = ap (λ b. (d == 1) || b) (named_dir h d)

-- a line that makes an inode makes it in the namespace too
step_made : (h : List Entry) (i d : ℕ) → answers.Made ≡ answer_made h i d → steps.Made ≡ setup_step i d (setup_names h)
step_made h i d is =
    at (is_in_use h i) (is_directory h d) is
    ∙ sym (λ k. cond (named_root h i k || named_file h i k) steps.Exists (cond (named_root h d k) steps.Made steps.NoDir))
  where
    at : (used there : Bool) → answers.Made ≡ cond used answers.Exists (cond there answers.Made answers.NoDir)
        → steps.Made ≡ cond used steps.Exists (cond there steps.Made steps.NoDir)
    at true there is = absurd cc
    at false true is = refl
    at false false is = absurd cc

pub setup_names_are : (h : List Entry) (e : Event) (a : Answer) → is_setup e ≡ true → (p : ℕ) → a ≡ answer p h e
    → names_on e [] a (setup_names h) ≡ setup_names_then e a (setup_names h)
setup_names_are h (events.Dir d q) answers.Made is p said = ap (λ s. after_step s true d q (setup_names h)) (sym (step_made h d q said))
setup_names_are h (events.File f q) answers.Made is p said = ap (λ s. after_step s false f q (setup_names h)) (sym (step_made h f q said))
setup_names_are h (events.Dir d q) _ is p said = refl
setup_names_are h (events.File f q) _ is p said = refl
setup_names_are h _ a is p said = absurd cc
