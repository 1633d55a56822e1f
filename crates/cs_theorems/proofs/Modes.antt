-- The changes of a file's mode, as a second kind of writes: each has the seq that the file's context had then for its tag.
use Rattle.std.proofs.Common.{◌≡◌, refl, sym, ap, ◌∙◌, ℕ, ◌<◌, ◌≤◌, if◌then◌else◌, Bool, true, false, cond, ◌==◌, nat_le, nat_lt, filter, List, [], ◌∷◌, Option, Some, None, arith, inl, ⊎_elim}
use Rattle.std.proofs.lemmas.Bool.{cases_lt, cond_both, cond-false, cond-true, false_from_ne_true, le-leb, le-ltb, lt-leb, lt-ltb}
use Rattle.cs_parts.specs.declared.references.Live.{Live}
use Rattle.cs_laws.specs.declared.events.Event.{Event}
use Rattle.cs_laws.specs.declared.events.Event.TheVariants as e
use Rattle.cs_laws.specs.declared.answers.Answer.{Answer}
use Rattle.cs_laws.specs.declared.answers.Answer.TheVariants as a
use Rattle.cs_laws.specs.declared.answers.Entry.{Entry}
use Rattle.cs_laws.specs.declared.objects.At.TheVariants as at
use Rattle.cs_laws.specs.History.{context, live, mode}
use Rattle.cs_laws.specs.Owed.{had_reached, mode_at}
use Rattle.cs_laws.specs.References.{first_mode, mode_then, named, with_mode}
use Rattle.cs_theorems.proofs.Listed.{Each, each_tail}

pub record Change : Type 0 where
  pub mode : ℕ
  pub tag : ℕ

-- a change on a reference is one of the reference's file
abbrev pub with_change : Option Live → ℕ → ℕ → ℕ → List Change → List Change
with_change None mode seq f cs = cs
with_change (Some r) mode seq f cs = if r.file == f then record { mode = mode; tag = seq } ∷ cs else cs

-- rs: the live references before the entry; seq: the seq of the file's context then
abbrev pub changes_then : Event → Answer → List Live → ℕ → ℕ → List Change → List Change
changes_then (e.Chmod c name mode) a.Done rs seq f cs = with_change (named c name rs) mode seq f cs
changes_then _ _ rs seq f cs = cs

-- the changes of a file's mode, the newest first
abbrev pub changes : List Entry → ℕ → List Change
changes [] f = []
changes (x ∷ h) f = changes_then x.event x.answer (live h) (context h f).seq f (changes h f)

-- the mode after these changes
abbrev pub last_mode : List Change → ℕ
last_mode [] = first_mode
last_mode (c ∷ cs) = c.mode

-- those with a tag of at most q, and those with a tag below s
abbrev pub changes_upto : ℕ → List Change → List Change
changes_upto q cs = filter (λ c. nat_le c.tag q) cs

abbrev pub changes_below : ℕ → List Change → List Change
changes_below s cs = filter (λ c. nat_lt c.tag s) cs

pub upto_all : (q : ℕ) (cs : List Change) → Each (λ c. c.tag ≤ q) cs → changes_upto q cs ≡ cs
upto_all q [] low = refl
upto_all q (c ∷ cs) low =
    cond-true (nat_le c.tag q) (c ∷ changes_upto q cs) (changes_upto q cs) (le-leb c.tag q (low c (inl refl)))
    ∙ ap (λ ds. c ∷ ds) (upto_all q cs (each_tail (λ d. d.tag ≤ q) c cs low))

-- a later change isn't among those up to q
pub upto_later : (q : ℕ) (c : Change) (cs : List Change) → q < c.tag → changes_upto q (c ∷ cs) ≡ changes_upto q cs
upto_later q c cs later = cond-false (nat_le c.tag q) (c ∷ changes_upto q cs) (changes_upto q cs) (lt-leb c.tag q later)

below_all : (s : ℕ) (cs : List Change) → Each (λ c. c.tag < s) cs → changes_below s cs ≡ cs
below_all s [] low = refl
below_all s (c ∷ cs) low =
    cond-true (nat_lt c.tag s) (c ∷ changes_below s cs) (changes_below s cs) (lt-ltb c.tag s (low c (inl refl)))
    ∙ ap (λ ds. c ∷ ds) (below_all s cs (each_tail (λ d. d.tag < s) c cs low))

below_later : (s : ℕ) (c : Change) (cs : List Change) → s ≤ c.tag → changes_below s (c ∷ cs) ≡ changes_below s cs
below_later s c cs later = cond-false (nat_lt c.tag s) (c ∷ changes_below s cs) (changes_below s cs) (le-ltb c.tag s later)

-- The mode is that of the last change

last_with : (o : Option Live) (mode seq f m : ℕ) (cs : List Change) → m ≡ last_mode cs → with_mode o mode f m ≡ last_mode (with_change o mode seq f cs)
last_with None mode seq f m cs is = is
last_with (Some r) mode seq f m cs is = at (r.file == f)
  where
    at : (b : Bool) → cond b mode m ≡ last_mode (cond b (record { mode = mode; tag = seq } ∷ cs) cs)
    at true = refl
    at false = is

last_then : (x : Event) (y : Answer) (rs : List Live) (seq f m : ℕ) (cs : List Change) → m ≡ last_mode cs
    → mode_then x y rs f m ≡ last_mode (changes_then x y rs seq f cs)
last_then (e.Chmod c name mode) a.Done rs seq f m cs is = last_with (named c name rs) mode seq f m cs is
last_then _ _ rs seq f m cs is = is

pub mode_is : (h : List Entry) (f : ℕ) → mode h f ≡ last_mode (changes h f)
mode_is [] f = refl
mode_is (x ∷ h) f = last_then x.event x.answer (live h) (context h f).seq f (mode h f) (changes h f) (mode_is h f)

-- The mode just before the context reached a snapshot is that of the last change below it

below_with : (o : Option Live) (mode seq f s : ℕ) (cs : List Change) → s ≤ seq → changes_below s (with_change o mode seq f cs) ≡ changes_below s cs
below_with None mode seq f s cs up = refl
below_with (Some r) mode seq f s cs up =
    cond_both (r.file == f) (record { mode = mode; tag = seq } ∷ cs) cs (λ ds. changes_below s ds ≡ changes_below s cs)
    (λ _. below_later s (record { mode = mode; tag = seq }) cs up) (λ _. refl)

below_then : (x : Event) (y : Answer) (rs : List Live) (seq f s : ℕ) (cs : List Change) → s ≤ seq
    → changes_below s (changes_then x y rs seq f cs) ≡ changes_below s cs
below_then (e.Chmod c name mode) a.Done rs seq f s cs up = below_with (named c name rs) mode seq f s cs up
below_then _ _ rs seq f s cs up = refl

-- where the context rises the mode isn't changed
unchanged : (h : List Entry) (x : Event) (y : Answer) (f s : ℕ) → (context h f).seq < s → s ≤ (context (record { event = x; answer = y } ∷ h) f).seq
    → changes (record { event = x; answer = y } ∷ h) f ≡ changes h f
unchanged h (e.Chmod c name mode) y f s up now = absurd (omega arith)
unchanged h _ y f s up now = refl

abbrev pub ModesAt : List Entry → Type 0
ModesAt h = (f s : ℕ) → s ≤ (context h f).seq → mode_at h f (at.Snap s) ≡ last_mode (changes_below s (changes h f))

pub modes_first : ModesAt []
modes_first f s up = refl

pub modes_step : (h : List Entry) (x : Event) (y : Answer) → ((f : ℕ) → Each (λ c. c.tag ≤ (context h f).seq) (changes h f))
    → ((f s : ℕ) → had_reached h f s ≡ true → s ≤ (context h f).seq) → ((f s : ℕ) → s ≤ (context h f).seq → had_reached h f s ≡ true)
    → ModesAt h → ModesAt (record { event = x; answer = y } ∷ h)
modes_step h x y low reached reaches i f s up =
    ⊎_elim
    (λ later.
    cond-false (had_reached h f s) (mode_at h f (at.Snap s)) (mode h f) (false_from_ne_true (had_reached h f s) (λ is. omega (arith, reached f s is, later)))
    ∙ (mode_is h f
    ∙ ap last_mode (sym (ap (changes_below s) (unchanged h x y f s later up) ∙ below_all s (changes h f) (λ c m. omega (arith, low f c m))))))
    (λ upto.
    cond-true (had_reached h f s) (mode_at h f (at.Snap s)) (mode h f) (reaches f s upto)
    ∙ (i f s upto ∙ ap last_mode (sym (below_then x y (live h) (context h f).seq f s (changes h f) upto))))
    (cases_lt (context h f).seq s)
