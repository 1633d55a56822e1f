-- Setup lines stand before all others.
use Rattle.std.proofs.Common.{◌≡◌, ◌∙◌, sym, ap, refl, ℕ, zero, suc, Bool, true, false, ◌&&◌, List, [], ◌∷◌, ◌++◌, take, Some, Ok}
use Rattle.std.proofs.Math.Bool.{and_assoc}
use Rattle.std.specs.List.{list_all, slice_get}
use Rattle.cs_laws.specs.declared.events.Event.{Event}
use Rattle.cs_laws.specs.Events.{is_setup}
use Rattle.cs_laws.specs.Grammar.{in_time}

-- they do in events behind others, where the flag says whether these are all setup lines
abbrev pub SetupFrom : Bool → List Event → Type 0
SetupFrom b es = (i : ℕ) (e : Event) → slice_get es i ≡ Some e → is_setup e ≡ true → (b && list_all is_setup (take i es)) ≡ true

-- behind one event more
from_next : (b : Bool) (e : Event) (es : List Event) → SetupFrom b (e ∷ es) → SetupFrom (b && is_setup e) es
from_next b e es from i x at is = and_assoc b (is_setup e) (list_all is_setup (take i es)) ∙ from (suc i) x at is

-- an event behind the last
pub one_behind : (b : Bool) (es : List Event) (e : Event) → SetupFrom b es → (is_setup e ≡ true → (b && list_all is_setup es) ≡ true) → SetupFrom b (es ++ e ∷ [])
one_behind b [] e from early zero x at is = let same : e ≡ x = cc in early (ap is_setup same ∙ is)
one_behind b [] e from early (suc i) x at is = absurd (cc)
one_behind b (y ∷ ys) e from early zero x at is = from zero x at is
one_behind b (y ∷ ys) e from early (suc i) x at is =
    sym (and_assoc b (is_setup y) (list_all is_setup (take i (ys ++ e ∷ []))))
    ∙ one_behind (b && is_setup y) ys e (from_next b y ys from) (λ s. and_assoc b (is_setup y) (list_all is_setup ys) ∙ early s) i x at is

-- no event stands too late
abbrev pub InTime : Bool → List Event → Type 0
InTime setup [] = Unit {0}
InTime setup (e ∷ es) = (in_time setup e ≡ Ok e) × InTime (setup && is_setup e) es

in_time_if : (b s : Bool) (e : Event) → is_setup e ≡ s → (s ≡ true → (b && true) ≡ true) → in_time b e ≡ Ok e
in_time_if true true e is early = rw is refl
in_time_if true false e is early = rw is refl
in_time_if false true e is early = let no : false ≡ true = early refl in absurd (cc)
in_time_if false false e is early = rw is refl

pub stand_in_time : (b : Bool) (es : List Event) → SetupFrom b es → InTime b es
stand_in_time b [] from = tt
stand_in_time b (e ∷ es) from = (in_time_if b (is_setup e) e refl (from 0 e refl), stand_in_time (b && is_setup e) es (from_next b e es from))
