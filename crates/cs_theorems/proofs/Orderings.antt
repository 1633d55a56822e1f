-- A count over the files is the same in whatever order they stand.
use Rattle.std.proofs.Common.{◌≡◌, refl, sym, ap, ◌∙◌, subst, ℕ, ◌+◌, ◌↔◌, Bool, true, false, cond, List, [], ◌∷◌, ◌==◌, inl, inr, ⊎_elim, arith}
use Rattle.std.proofs.lemmas.Bool.{both_ways, eq-eqb, eqb-true}
use Rattle.cs_snapctx.specs.Context.{Context}
use Rattle.cs_laws.specs.declared.answers.Entry.{Entry}
use Rattle.cs_laws.specs.Answers.{count_made}
use Rattle.cs_laws.specs.CapSnaps.{makes}
use Rattle.cs_laws.specs.History.{context, dirty, live, queued}
use Rattle.cs_laws.specs.Runs.{IsRun}
use Rattle.cs_laws.specs.ClientKnows.{client_knows, client_files}
use Rattle.cs_theorems.specs.References.{IsEachOnce}
use Rattle.cs_theorems.proofs.Files.{listed, listed_once}
use Rattle.cs_theorems.proofs.Listed.{Member}

-- how many numbers pass
abbrev pub passing : (ℕ → Bool) → List ℕ → ℕ
passing p [] = 0
passing p (n ∷ ns) = cond (p n) 1 0 + passing p ns

-- the list without its first k
abbrev without : ℕ → List ℕ → List ℕ
without k [] = []
without k (n ∷ ns) = cond (n == k) ns (n ∷ without k ns)

-- the numbers of a list but k, each once
record IsRest (p : ℕ → Bool) (k : ℕ) (ns rest : List ℕ) : Type 0 where
  count : passing p ns ≡ cond (p k) 1 0 + passing p rest
  once : IsEachOnce rest
  gone : Member k rest → ⊥
  within : (n : ℕ) → Member n rest → Member n ns
  others : (n : ℕ) → Member n ns → (n ≡ k → ⊥) → Member n rest

rest_at : (b : Bool) (p : ℕ → Bool) (k n : ℕ) (ns : List ℕ) → (n == k) ≡ b → (Member n ns → ⊥) → IsEachOnce ns → (b ≡ false → IsRest p k ns (without k ns))
    → IsRest p k (n ∷ ns) (cond b ns (n ∷ without k ns))
rest_at true p k n ns is new once rest =
    let same : n ≡ k = eqb-true n k is in
    record {
      count = ap (λ m. cond (p m) 1 0 + passing p ns) same;
      once = once;
      gone = λ there. new (rw same there);
      within = λ m there. inr there;
      others = λ m there differs. ⊎_elim (λ here. absurd (differs (sym here ∙ same))) (λ behind. behind) there;
    }
rest_at false p k n ns is new once rest =
    let i : IsRest p k ns (without k ns) = rest refl in
    record {
      count = omega (arith, i.count);
      once = (λ there. new (i.within n there), i.once);
      gone = λ there. ⊎_elim (λ here. both_ways (n == k) is (eq-eqb n k here)) (λ behind. i.gone behind) there;
      within = λ m there. ⊎_elim (λ here. inl here) (λ behind. inr (i.within m behind)) there;
      others = λ m there differs. ⊎_elim (λ here. inl here) (λ behind. inr (i.others m behind differs)) there;
    }

rest_of : (p : ℕ → Bool) (k : ℕ) (ns : List ℕ) → Member k ns → IsEachOnce ns → IsRest p k ns (without k ns)
rest_of p k [] there once = absurd there
rest_of p k (n ∷ ns) there once =
    rest_at (n == k) p k n ns refl once.0 once.1
    (λ other. rest_of p k ns (⊎_elim (λ here. absurd (both_ways (n == k) other (eq-eqb n k here))) (λ behind. behind) there) once.1)

-- lists of the same numbers, each once, have the same count
pub passing_same : (p : ℕ → Bool) (ns ms : List ℕ) → IsEachOnce ns → IsEachOnce ms → ((n : ℕ) → Member n ns ↔ Member n ms) → passing p ns ≡ passing p ms
passing_same p [] [] once once_too same = refl
passing_same p [] (m ∷ ms) once once_too same = absurd ((same m).1 (inl refl))
passing_same p (n ∷ ns) ms once once_too same =
    let i : IsRest p n ms (without n ms) = rest_of p n ms ((same n).0 (inl refl)) once_too in
    let rest : passing p ns ≡ passing p (without n ms) = passing_same p ns (without n ms) once.1 i.once (λ m. (
      (λ there. i.others m ((same m).0 (inr there)) (λ here. once.0 (subst (λ k. Member k ns) here there))),
      (λ there. ⊎_elim (λ here. absurd (i.gone (subst (λ k. Member k (without n ms)) (sym here) there))) (λ behind. behind) ((same m).1 (i.within m there))),
    )) in
    omega (arith, rest, i.count)

made_passing : (h : List Entry) (new : ℕ → Context) (fs : List ℕ)
    → count_made h new fs ≡ passing (λ f. makes f (context h f) (new f) (live h) (dirty h f) (queued h f)) fs
made_passing h new [] = refl
made_passing h new (f ∷ fs) =
    ap (λ n. cond (makes f (context h f) (new f) (live h) (dirty h f) (queued h f)) 1 0 + n) (made_passing h new fs)

-- how many cap snaps new contexts make, by any list of the files
pub count_made_any : (p : ℕ) (h : List Entry) → IsRun p h → (new : ℕ → Context) (fs : List ℕ) → IsEachOnce fs → ((f : ℕ) → (client_knows h f ≡ true) ↔ Member f fs)
    → count_made h new fs ≡ count_made h new (client_files h)
count_made_any p h run new fs once known =
    let test : ℕ → Bool = λ f. makes f (context h f) (new f) (live h) (dirty h f) (queued h f) in
    let same = passing_same test fs (client_files h) once (listed_once p h run) (λ f. ((λ m. (listed p h run f).0 ((known f).1 m)), (λ m. (known f).0 ((listed p h run f).1 m)))) in
    made_passing h new fs ∙ (same ∙ sym (made_passing h new (client_files h)))
