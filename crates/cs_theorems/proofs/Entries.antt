-- What operations do to an entry: those that don't name it leave it, and one that looks it up or makes it tells its inode.
use Rattle.std.proofs.Common.{◌≡◌, refl, sym, ap, ◌∙◌, subst, ℕ, ◌==◌, not, Bool, true, false, cond, List, [], ◌∷◌, filter, find, Option, Some, None, inl}
use Rattle.std.specs.List.{list_any}
use Rattle.std.specs.Option.{option_map}
use Rattle.std.specs.Str.{bytes_eq}
use Rattle.std.proofs.lemmas.Bool.{and_from, and_parts, both_ways, cond_both, cond-false, cond-true, eq-eqb, eqb-true, false_from_ne_true, or_parts}
use Rattle.std.proofs.lemmas.Slice.Eq.{bytes_eq-Decides}
use Rattle.cs_laws.specs.declared.requests.OpAnswer.{OpAnswer}
use Rattle.cs_laws.specs.declared.requests.OpAnswer.TheVariants as replies
use Rattle.cs_laws.specs.declared.requests.ReqOp.{ReqOp}
use Rattle.cs_laws.specs.declared.requests.ReqOp.TheVariants as ops
use Rattle.cs_laws.specs.Leases.{asks_for, ino_in}
use Rattle.cs_laws.specs.Namespace.{Named, Names, after, after_answer, answer_on, entry_at, found, has_dir, has_entry, has_file, is_ahead, is_entry, is_named, made_at, moved, names_entry, next_ino, with_entry, within, without_entry}
use Rattle.cs_theorems.specs.Asked.{Asked, stage}
use Rattle.cs_theorems.proofs.Listed.{Each, each_tail}

-- The place of an entry

same_place : (d e : ℕ) (name other : List ℕ) → is_named d name e other ≡ true → (e ≡ d) × (other ≡ name)
same_place d e name other is =
    let parts = and_parts (e == d) (bytes_eq other name) is in (eqb-true e d parts.0, (bytes_eq-Decides other name).0 parts.1)

named_so : (d e : ℕ) (name other : List ℕ) → e ≡ d → other ≡ name → is_named d name e other ≡ true
named_so d e name other dir same = and_from (e == d) (bytes_eq other name) (eq-eqb e d dir) ((bytes_eq-Decides other name).1 same)

-- an entry that is at one place isn't at another
elsewhere : (d e : ℕ) (name other : List ℕ) (x : Named) → is_named d name e other ≡ false → is_entry d name x ≡ true
    → not (is_entry e other x) ≡ true
elsewhere d e name other x apart here =
    ap not
    (false_from_ne_true (is_entry e other x)
    (λ there.
    let k = same_place d x.dir name x.name here in
    let l = same_place e x.dir other x.name there in
    both_ways (is_named d name e other) apart (named_so d e name other (sym l.0 ∙ k.0) (sym l.1 ∙ k.1))))

-- Look-ups

found_new : (p : Named → Bool) (x : Named) (es : List Named) → p x ≡ true → list_any p es ≡ false → find p (with_entry x es) ≡ Some x
found_new p x [] own none = cond-true (p x) (Some x) None own
found_new p x (y ∷ ys) own none =
    let parts = or_parts (p y) (list_any p ys) none in
    cond_both (is_ahead x y) (x ∷ y ∷ ys) (y ∷ with_entry x ys) (λ zs. find p zs ≡ Some x)
    (λ _. cond-true (p x) (Some x) (find p (y ∷ ys)) own)
    (λ _. cond-false (p y) (Some y) (find p (with_entry x ys)) parts.0 ∙ found_new p x ys own parts.1)

found_old : (p : Named → Bool) (x : Named) (es : List Named) → p x ≡ false → find p (with_entry x es) ≡ find p es
found_old p x [] other = cond-false (p x) (Some x) None other
found_old p x (y ∷ ys) other =
    cond_both (is_ahead x y) (x ∷ y ∷ ys) (y ∷ with_entry x ys) (λ zs. find p zs ≡ find p (y ∷ ys))
    (λ _. cond-false (p x) (Some x) (find p (y ∷ ys)) other)
    (λ _. ap (λ o. cond (p y) (Some y) o) (found_old p x ys other))

found_left : (p q : Named → Bool) (es : List Named) → ((y : Named) → p y ≡ true → q y ≡ true) → find p (filter q es) ≡ find p es
found_left p q [] keeps = refl
found_left p q (y ∷ ys) keeps =
    cond_both (q y) (y ∷ filter q ys) (filter q ys) (λ zs. find p zs ≡ find p (y ∷ ys))
    (λ _. ap (λ o. cond (p y) (Some y) o) (found_left p q ys keeps))
    (λ out. found_left p q ys keeps
    ∙ sym (cond-false (p y) (Some y) (find p ys) (false_from_ne_true (p y) (λ is. both_ways (q y) out (keeps y is)))))

found_passes : (p : Named → Bool) (es : List Named) (x : Named) → find p es ≡ Some x → p x ≡ true
found_passes p [] x is = absurd cc
found_passes p (y ∷ ys) x is = at (p y) refl is (λ there. found_passes p ys x there)
  where
    at : (b : Bool) → p y ≡ b → cond b (Some y) (find p ys) ≡ Some x → (find p ys ≡ Some x → p x ≡ true) → p x ≡ true
    at true own same rest = let k : y ≡ x = cc in subst (λ z. p z ≡ true) k own
    at false own there rest = rest there

found_without : (d e : ℕ) (name other : List ℕ) (es : List Named) → is_named d name e other ≡ false
    → find (is_entry d name) (without_entry e other es) ≡ find (is_entry d name) es
found_without d e name other es apart =
    found_left (is_entry d name) (λ x. not (is_entry e other x)) es (λ x here. elsewhere d e name other x apart here)

-- Operations that don't name the entry

found_moved : (ns : Names) (d e : ℕ) (name other new : List ℕ) → is_named d name e other ≡ false → is_named d name e new ≡ false
    → find (is_entry d name) (moved new (entry_at ns e other) ns.entries) ≡ entry_at ns d name
found_moved ns d e name other new apart away = at (entry_at ns e other) refl
  where
    at : (o : Option Named) → entry_at ns e other ≡ o → find (is_entry d name) (moved new o ns.entries) ≡ entry_at ns d name
    at None none = refl
    at (Some x) is =
        let k = same_place e x.dir other x.name (found_passes (is_entry e other) ns.entries x is) in
        found_old (is_entry d name) (record x { name = new }) (without_entry x.dir x.name ns.entries)
        (subst (λ j. is_named d name j new ≡ false) (sym k.0) away)
        ∙ found_without d x.dir name x.name ns.entries
        (subst (λ j. is_named d name j x.name ≡ false) (sym k.0) (subst (λ l. is_named d name e l ≡ false) (sym k.1) apart))

answer_leaves : (ns : Names) (op : ReqOp) (o : OpAnswer) (d : ℕ) (name : List ℕ) → names_entry op d name ≡ false
    → entry_at (after_answer op o ns) d name ≡ entry_at ns d name
answer_leaves ns (ops.Mkdir e other) (replies.Made i) d name apart = found_old (is_entry d name) _ ns.entries apart
answer_leaves ns (ops.Create e other) (replies.Made i) d name apart = found_old (is_entry d name) _ ns.entries apart
answer_leaves ns (ops.Unlink e other) replies.Gone d name apart = found_without d e name other ns.entries apart
answer_leaves ns (ops.Rename e other new) replies.Moved d name apart =
    let parts = or_parts (is_named d name e other) (is_named d name e new) apart in found_moved ns d e name other new parts.0 parts.1
answer_leaves ns _ _ d name apart = refl

pub stage_leaves : (ns : Names) (xs : List Asked) (d : ℕ) (name : List ℕ) → Each (λ x. names_entry x.op d name ≡ false) xs
    → entry_at (stage ns xs) d name ≡ entry_at ns d name
stage_leaves ns [] d name all = refl
stage_leaves ns (x ∷ xs) d name all =
    stage_leaves (after ns x.op) xs d name (each_tail (λ y. names_entry y.op d name ≡ false) x xs all)
    ∙ answer_leaves ns x.op (answer_on ns x.op) d name (all x (inl refl))

-- An operation that tells of it

abbrev pub ino_at : Names → ℕ → List ℕ → Option ℕ
ino_at ns d name = option_map (λ x. x.ino) (entry_at ns d name)

module _ (ns : Names) (d e : ℕ) (name other : List ℕ) (i : ℕ) (here : is_named d name e other ≡ true) where
  no_entry : has_entry ns e other ≡ false → has_entry ns d name ≡ false
  no_entry none =
      let k = same_place d e name other here in
      subst (λ l. has_entry ns d l ≡ false) k.1 (subst (λ j. has_entry ns j other ≡ false) k.0 none)

  made_tells : (op : ReqOp) (is_dir : Bool)
      → ((n : ℕ) → (after_answer op (replies.Made n) ns).entries ≡ with_entry
      (record { dir = e; name = other; ino = n; is_dir = is_dir }) ns.entries)
      → ino_in (within ns e (made_at ns e other)) ≡ Some i → ino_at (after_answer op (within ns e (made_at ns e other)) ns) d name ≡ Some i
  made_tells op is_dir makes told = at (has_dir ns e) (has_file ns e) (has_entry ns e other) refl told
    where
      at : (b f x : Bool) → has_entry ns e other ≡ x
          → ino_in (cond b (cond x replies.Exists (replies.Made (next_ino ns))) (cond f replies.NotDir replies.Missing)) ≡ Some i
          → ino_at
          (after_answer op
          (cond b (cond x replies.Exists (replies.Made (next_ino ns))) (cond f replies.NotDir replies.Missing)) ns) d name ≡ Some i
      at true f true there none = absurd cc
      at true f false new same =
          ap (λ es. option_map (λ (x : Named). x.ino) (find (is_entry d name) es)) (makes (next_ino ns))
          ∙ (ap (λ o. option_map (λ (x : Named). x.ino) o) (found_new (is_entry d name) _ ns.entries here (no_entry new)) ∙ same)
      at false true x there none = absurd cc
      at false false x there none = absurd cc

  found_tells : ino_in (within ns e (found (entry_at ns e other))) ≡ Some i → ino_at ns d name ≡ Some i
  found_tells told =
      let k = same_place d e name other here in
      subst (λ l. ino_at ns d l ≡ Some i) k.1
      (subst (λ j. ino_at ns j other ≡ Some i) k.0 (at (has_dir ns e) (has_file ns e) (entry_at ns e other) told))
    where
      at : (b f : Bool) (o : Option Named) → ino_in (cond b (found o) (cond f replies.NotDir replies.Missing)) ≡ Some i
          → option_map (λ x. x.ino) o ≡ Some i
      at true f None none = absurd cc
      at true f (Some x) same = same
      at false true o none = absurd cc
      at false false o none = absurd cc

pub after_tells : (ns : Names) (op : ReqOp) (d : ℕ) (name : List ℕ) (i : ℕ) → asks_for (Some op) d name ≡ true
    → ino_in (answer_on ns op) ≡ Some i
    → ino_at (after ns op) d name ≡ Some i
after_tells ns (ops.Mkdir e other) d name i here told = made_tells ns d e name other i here (ops.Mkdir e other) true (λ n. refl) told
after_tells ns (ops.Create e other) d name i here told = made_tells ns d e name other i here (ops.Create e other) false (λ n. refl) told
after_tells ns (ops.Lookup e other) d name i here told = found_tells ns d e name other i here told
after_tells ns (ops.Unlink e other) d name i here told = absurd cc
after_tells ns (ops.Rename e other new) d name i here told = absurd cc
