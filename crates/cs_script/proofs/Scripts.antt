-- A script with a line for each event is read as these events.
use Rattle.std.proofs.Common.{◌≡◌, ◌∙◌, ap, refl, ℕ, ◌+◌, ◌≤◌, ◌==◌, Bool, true, false, ◌&&◌, List, [], ◌∷◌, ◌++◌, length, arith, Ok}
use Rattle.std.specs.Prelude.{All}
use Rattle.std.specs.List.{AllPass}
use Rattle.std.proofs.lemmas.Bool.Decides.{nat_tests}
use Rattle.std.proofs.lemmas.List.Elements.{All-head, All-tail}
use Rattle.cs_text.specs.Lines.{lines_in, push_front}
use Rattle.cs_laws.specs.declared.events.Event.{Event}
use Rattle.cs_laws.specs.Fits.{fits}
use Rattle.cs_laws.specs.Grammar.{Words, in_time, is_setup, line_event, is_long, is_skipped, events_from, script_of}
use Rattle.cs_laws.specs.Texts.{event_text}
use Rattle.cs_laws.specs.Runs.{IsScript}
use Rattle.cs_script.specs.Spelling.{IsEvent, lines_of, script_text}
use Rattle.cs_script.proofs.RoundTrip.{text_read, no_newline, text_few, not_skipped}
use Rattle.cs_script.proofs.SetupOrder.{InTime, stand_in_time}

first_line : (t rest : List ℕ) → All (λ b. (b == 10) ≡ false) t → lines_in (t ++ 10 ∷ rest) ≡ t ∷ lines_in rest
first_line [] rest h = refl
first_line (c ∷ cs) rest h =
    rw (All-head (λ b. (b == 10) ≡ false) c cs h) (ap (push_front c) (first_line cs rest (All-tail (λ b. (b == 10) ≡ false) c cs h)))

not_long : (t : List ℕ) → length t ≤ 4096 → is_long t ≡ false
not_long t few = grind (arith, nat_tests)

-- ---- all lines

line_read : (setup : Bool) (e : Event) → IsEvent e → fits e ≡ true → in_time setup e ≡ Ok e → line_event setup (event_text e) ≡ Ok e
unfolding line_event
line_read setup e is fit early = rw (text_read e is fit) early

one_more : (n : ℕ) (setup : Bool) (t : List ℕ) (ls : Words) (e : Event) (es : List Event) → is_long t ≡ false → is_skipped t ≡ false
    → line_event setup t ≡ Ok e → events_from (n + 1) (setup && is_setup e) ls ≡ Ok es → events_from n setup (t ∷ ls) ≡ Ok (e ∷ es)
one_more n setup t ls e es long skipped read rest = rw (long, skipped, read, rest) refl

events_read : (n : ℕ) (setup : Bool) (es : List Event) → All IsEvent es → AllPass fits es → InTime setup es
    → events_from n setup (lines_in (lines_of es)) ≡ Ok es
events_read n setup [] are fit early = refl
events_read n setup (e ∷ es) are fit early =
    let is = All-head IsEvent e es are in
    let this = All-head (λ e. fits e ≡ true) e es fit in
    let t = event_text e in
    let long = not_long t (text_few e is this) in
    let rest = events_read (n + 1) (setup && is_setup e) es (All-tail IsEvent e es are) (All-tail (λ e. fits e ≡ true) e es fit) early.1 in
    ap (events_from n setup) (first_line t (lines_of es) (no_newline e is this))
    ∙ one_more n setup t (lines_in (lines_of es)) e es long (not_skipped e) (line_read setup e is this early.0) rest

pub script_read : (es : List Event) → All IsEvent es → IsScript es → script_of (script_text es) ≡ Ok es
unfolding script_of
script_read es are script = events_read 2 true es are script.spelled (stand_in_time true es script.setup)
