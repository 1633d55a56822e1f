-- Live references are of files that are known.
use Rattle.std.proofs.Common.{◌≡◌, refl, ℕ, Bool, true, false, cond, List, [], ◌∷◌, ◌==◌, ◌++◌, ◌∙◌, ⊎_elim}
use Rattle.cs_bits.specs.declared.Caps.{Caps}
use Rattle.cs_laws.specs.declared.events.Event.{Event}
use Rattle.cs_laws.specs.declared.events.Event.TheVariants as e
use Rattle.cs_laws.specs.declared.events.RefName.{RefName}
use Rattle.cs_laws.specs.declared.answers.Answer.{Answer}
use Rattle.cs_laws.specs.declared.answers.Answer.TheVariants as a
use Rattle.cs_laws.specs.declared.answers.Entry.{Entry}
use Rattle.cs_laws.specs.Events.{setup_file, setup_file_then}
use Rattle.cs_laws.specs.History.{live}
use Rattle.cs_laws.specs.Journal.{entry}
use Rattle.cs_laws.specs.Runs.{IsRun}
use Rattle.cs_laws.specs.ClientKnows.{client_knows, client_made, client_made_then}
use Rattle.cs_laws.specs.Made.{Made, is_made_file, made_by, makes_file}
use Rattle.cs_laws.specs.Requests.{Reply, Request, has_reply, op_of, replies, requests}
use Rattle.cs_theorems.proofs.Begun.{member_without_named}
use Rattle.cs_theorems.proofs.Listed.{Each, each_nil, each_end}
use Rattle.cs_theorems.proofs.Inversions.{BeginIs, begin_unknown, begin_caps, begin_snap, begin_max, begin_full, begun_ref, begin_is, EndIs, end_unknown, ended, end_is}
use Rattle.cs_theorems.proofs.Runs.{of_run}
use Rattle.std.proofs.lemmas.Bool.{both_ways, cond_both, false_from_ne_true, or_cases, or_left, or_right}
use Rattle.std.proofs.lemmas.List.Folds.{list_any-append}

made : (b was : Bool) → was ≡ true → cond b true was ≡ true
made true was t = refl
made false was t = t

-- a file of a setup line stays one
pub known_then : (x : Event) (y : Answer) (f : ℕ) (was : Bool) → was ≡ true → setup_file_then x y f was ≡ true
known_then (e.File g p) a.Made f was t = made (g == f) was t
known_then _ _ f was t = t

made_grows : (x : Event) (y : Answer) (xs : List Request) (rs : List Reply) (ms : List Made) (f : ℕ) → makes_file f ms ≡ true
    → makes_file f (client_made_then x y xs rs ms) ≡ true
made_grows e.ToClient (a.Unsafe tid o) xs rs ms f is =
    cond_both (has_reply tid rs) ms (ms ++ made_by (op_of tid xs) o) (λ l. makes_file f l ≡ true) (λ _. is)
    (λ _. list_any-append (is_made_file f) ms (made_by (op_of tid xs) o) ∙ or_left (makes_file f ms) _ is)
made_grows _ _ xs rs ms f is = is

-- so does one that the client knows
pub client_grows : (x : Event) (y : Answer) (h : List Entry) (f : ℕ) → client_knows h f ≡ true → client_knows (record { event = x; answer = y } ∷ h) f ≡ true
client_grows x y h f is =
    ⊎_elim
    (λ setup. or_left _ _ (known_then x y f (setup_file h f) setup))
    (λ made. or_right _ _ (made_grows x y (requests h) (replies h) (client_made h) f made))
    (or_cases (setup_file h f) (makes_file f (client_made h)) is)

-- and one that it doesn't know it didn't know
pub client_before : (x : Event) (y : Answer) (h : List Entry) (f : ℕ) → client_knows (record { event = x; answer = y } ∷ h) f ≡ false → client_knows h f ≡ false
client_before x y h f unknown =
    false_from_ne_true (client_knows h f) (λ is. both_ways (client_knows (record { event = x; answer = y } ∷ h) f) unknown (client_grows x y h f is))

abbrev pub LiveAreKnown : List Entry → Type 0
LiveAreKnown h = Each (λ r. client_knows h r.file ≡ true) (live h)

known_begin : (h : List Entry) (c f : ℕ) (b : Caps) (n : ℕ) (x : Answer) → BeginIs h c f b x → LiveAreKnown h
    → LiveAreKnown (record { event = e.Begin c f b n; answer = x } ∷ h)
known_begin h c f b n x begin_unknown i = i
known_begin h c f b n x begin_caps i = i
known_begin h c f b n x begin_snap i = i
known_begin h c f b n x begin_max i = i
known_begin h c f b n x begin_full i = i
known_begin h c f b n x (begun_ref known issued free) i = each_end (λ r. client_knows h r.file ≡ true) (live h) _ i known

known_end : (h : List Entry) (c : ℕ) (name : RefName) (x : Answer) → EndIs h c name x → LiveAreKnown h
    → LiveAreKnown (record { event = e.End c name; answer = x } ∷ h)
known_end h c name x end_unknown i = i
known_end h c name x (ended there) i = λ r m. i r (member_without_named c name (live h) r m)

pub known_step : (p : ℕ) (h : List Entry) (x : Event) → LiveAreKnown h → LiveAreKnown (entry p h x ∷ h)
known_step p h (e.Begin c f b n) i = known_begin h c f b n _ (begin_is h c f b n) i
known_step p h (e.End c name) i = known_end h c name _ (end_is h c name) i
known_step p h (e.File f d) i = λ r m. client_grows (e.File f d) _ h r.file (i r m)
known_step p h e.ToClient i = λ r m. client_grows e.ToClient _ h r.file (i r m)
known_step p h _ i = i

pub known_first : LiveAreKnown []
known_first = each_nil (λ r. client_knows [] r.file ≡ true)

pub live_known : (p : ℕ) (h : List Entry) → IsRun p h → LiveAreKnown h
live_known p h run = of_run p LiveAreKnown known_first (λ g x fit before i. known_step p g x i) h run
