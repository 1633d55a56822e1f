-- The journal of a script is a run.
use Rattle.std.proofs.Common.{◌≡◌, ◌∙◌, sym, ap, refl, subst, ℕ, suc, Bool, true, false, ◌&&◌, List, [], ◌∷◌, ◌++◌, take, drop, Some}
use Rattle.std.specs.List.{AllPass, list_all, slice_get}
use Rattle.std.proofs.Math.Bool.{and-true}
use Rattle.std.proofs.lemmas.List.{take-append-drop}
use Rattle.std.proofs.lemmas.List.Elements.{All-head, All-tail}
use Rattle.cs_laws.specs.declared.events.Event.{Event}
use Rattle.cs_laws.specs.declared.answers.Entry.{Entry}
use Rattle.cs_laws.specs.Events.{is_setup}
use Rattle.cs_laws.specs.Fits.{fits}
use Rattle.cs_laws.specs.Journal.{journal, history, entry}
use Rattle.cs_laws.specs.Runs.{IsRun, IsScript, CanFollow, all_setup}

-- setup lines come first, also behind a history
abbrev SetupAfter : List Entry → List Event → Type 0
SetupAfter h es = (i : ℕ) (e : Event) → slice_get es i ≡ Some e → is_setup e ≡ true → (all_setup h && list_all is_setup (take i es)) ≡ true

-- one event moves from the list to the history
moved : (a b c : Bool) → ((a && b) && c) ≡ (b && (a && c))
moved true b c = refl
moved false true c = refl
moved false false c = refl

after_next : (p : ℕ) (h : List Entry) (e : Event) (es : List Event) → SetupAfter h (e ∷ es) → SetupAfter (entry p h e ∷ h) es
after_next p h e es first i x at is = moved (is_setup e) (all_setup h) (list_all is_setup (take i es)) ∙ first (suc i) x at is

follows : (h : List Entry) (e : Event) (es : List Event) → fits e ≡ true → SetupAfter h (e ∷ es) → CanFollow h e
follows h e es fit first = record {
  spelled = fit;
  setup = λ is. sym (and-true (all_setup h)) ∙ first 0 e refl is;
}

history_run : (p : ℕ) (h : List Entry) (es : List Event) → IsRun p h → AllPass fits es → SetupAfter h es → IsRun p (history p h es)
history_run p h [] run fit first = run
history_run p h (e ∷ es) run fit first =
    history_run p (entry p h e ∷ h) es ((follows h e es (All-head (λ x. fits x ≡ true) e es fit) first, refl), run)
    (All-tail (λ x. fits x ≡ true) e es fit) (after_next p h e es first)

pub script_run : (p : ℕ) (es : List Event) → IsScript es → IsRun p (journal p es)
script_run p es script = history_run p [] es tt script.spelled script.setup

-- and so is that of its first events

run_before : (p : ℕ) (h : List Entry) (es : List Event) → IsRun p (history p h es) → IsRun p h
run_before p h [] run = run
run_before p h (e ∷ es) run = (run_before p (entry p h e ∷ h) es run).1

pub history-append : (p : ℕ) (h : List Entry) (xs ys : List Event) → history p h (xs ++ ys) ≡ history p (history p h xs) ys
history-append p h [] ys = refl
history-append p h (e ∷ xs) ys = history-append p (entry p h e ∷ h) xs ys

-- the journal goes on behind its first events
pub journal_front : (p n : ℕ) (es : List Event) → history p (journal p (take n es)) (drop n es) ≡ journal p es
journal_front p n es = sym (history-append p [] (take n es) (drop n es)) ∙ ap (λ xs. journal p xs) (take-append-drop n es)

pub front_run : (p n : ℕ) (es : List Event) → IsRun p (journal p es) → IsRun p (journal p (take n es))
front_run p n es run = run_before p (journal p (take n es)) (drop n es) (subst (λ h. IsRun p h) (sym (journal_front p n es)) run)

-- an event of a run may come where it stands
pub next_follows : (p : ℕ) (h more : List Entry) (e : Event) (n : ℕ) (es : List Event) → IsRun p (journal p es) → more ≡ journal p (take n es) → more ≡ entry p h e ∷ h → CanFollow h e
next_follows p h more e n es run so_far grown = (subst (λ g. IsRun p g) (sym so_far ∙ grown) (front_run p n es run)).0.0
