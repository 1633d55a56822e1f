-- What keeps a replay.
use Rattle.std.proofs.Common.{◌≡◌, refl, sym, ap, ◌∙◌, subst, ℕ, ◌<◌, ◌≤◌, Bool, true, false, List, [], ◌∷◌, ◌++◌, map, append_assoc, arith, inl, inr, ⊎_elim}
use Rattle.std.specs.List.{filter}
use Rattle.std.proofs.lemmas.List.{append-nil}
use Rattle.std.proofs.lemmas.List.Elements.{filter-append}
use Rattle.cs_laws.specs.Lists.{Each, Member, RisesFrom}
use Rattle.cs_theorems.specs.Replays.{above, last_from, last_tid, Replay}
use Rattle.cs_theorems.proofs.Listed.{member_cases, member_left, member_right}
use Rattle.cs_theorems.proofs.Ascending.{last_end, last_append, last_low, rises_front, rises_behind, rises_end, member_above, member_upto, above_one, above_not, above_all, above_none, above_above, above_chosen, chosen_member}

-- nothing was sent yet
pub none : {X : Type 0} (tid : X → ℕ) (whole : Bool) → Replay tid whole [] [] []
none tid whole = record { missing = []; front = refl; rises = tt; flying = λ x there. absurd there; rest = λ is. refl }

-- What it says

-- the numbers of what stands rise
pub stands_rise : {X : Type 0} (tid : X → ℕ) (whole : Bool) (xs st fl : List X) → Replay tid whole xs st fl → RisesFrom 0 (map tid st)
stands_rise tid whole xs st fl i = rises_front tid 0 st i.missing (subst (λ ys. RisesFrom 0 (map tid ys)) i.front i.rises)

-- those of what is missing rise from the last of these on
pub missing_rise : {X : Type 0} (tid : X → ℕ) (whole : Bool) (xs st fl : List X) (i : Replay tid whole xs st fl)
    → RisesFrom (last_tid tid st) (map tid i.missing)
missing_rise tid whole xs st fl i = rises_behind tid 0 st i.missing (subst (λ ys. RisesFrom 0 (map tid ys)) i.front i.rises)

-- what stands was sent
pub stands_sent : {X : Type 0} (tid : X → ℕ) (whole : Bool) (xs st fl : List X) → Replay tid whole xs st fl → Each (λ x. Member x xs) st
stands_sent tid whole xs st fl i x there = subst (λ ys. Member x ys) (sym i.front) (member_left x st i.missing there)

-- what was sent no later than the last that stands does stand
pub earlier_stands : {X : Type 0} (tid : X → ℕ) (whole : Bool) (xs st fl : List X) (x : X) → Replay tid whole xs st fl → Member x xs → tid x ≤ last_tid tid st
    → Member x st
earlier_stands tid whole xs st fl x i there low = ⊎_elim
    (λ stands. stands)
    (λ behind. absurd (omega (arith, member_above tid (last_tid tid st) x i.missing (missing_rise tid whole xs st fl i) behind)))
    (member_cases x st i.missing (subst (λ ys. Member x ys) i.front there))

-- Steps

-- the next thing is sent
pub send : {X : Type 0} (tid : X → ℕ) (whole : Bool) (xs st fl : List X) (x : X) → last_tid tid xs < tid x → Replay tid whole xs st fl
    → Replay tid whole (xs ++ x ∷ []) st (fl ++ x ∷ [])
send tid whole xs st fl x more i = record {
  missing = i.missing ++ x ∷ [];
  front = ap (λ ys. ys ++ x ∷ []) i.front ∙ append_assoc st i.missing (x ∷ []);
  rises = rises_end tid 0 xs x i.rises more;
  flying = λ y there. ⊎_elim
      (λ old. member_left y xs (x ∷ []) (i.flying y old))
      (λ new. member_right y xs (x ∷ []) new)
      (member_cases y fl (x ∷ []) there);
  rest = λ is.
      filter-append _ fl (x ∷ [])
      ∙ (ap (λ ys. ys ++ above tid (last_tid tid st) (x ∷ [])) (i.rest is)
      ∙ ap (λ ys. i.missing ++ ys) (above_one tid (last_tid tid st) x [] last_more));
}
  where
    last_more : last_tid tid st < tid x
    last_more =
        let behind = last_low tid (last_tid tid st) i.missing (missing_rise tid whole xs st fl i) in
        let last : last_tid tid xs ≡ last_from tid (last_tid tid st) i.missing = ap (last_tid tid) i.front ∙ last_append tid 0 st i.missing in
        omega (arith, behind, last, more)

-- one that doesn't stand yet arrives first
pub arrive : {X : Type 0} (tid : X → ℕ) (xs st fl : List X) (x : X) → last_tid tid st < tid x → Replay tid true xs st (x ∷ fl)
    → Replay tid true xs (st ++ x ∷ []) fl
arrive tid xs st fl x more i = record {
  missing = above tid (tid x) fl;
  front = i.front ∙ (ap (λ ys. st ++ ys) (sym next) ∙ sym (append_assoc st (x ∷ []) (above tid (tid x) fl)));
  rises = i.rises;
  flying = λ y there. i.flying y (inr there);
  rest = λ is. ap (λ n. above tid n fl) (last_end tid 0 st x);
}
  where
    low : ℕ
    low = last_tid tid st

    found : x ∷ above tid low fl ≡ i.missing
    found = sym (above_one tid low x fl more) ∙ i.rest refl

    up : RisesFrom low (map tid (x ∷ above tid low fl))
    up = subst (λ ys. RisesFrom low (map tid ys)) (sym found) (missing_rise tid true xs st (x ∷ fl) i)

    next : x ∷ above tid (tid x) fl ≡ i.missing
    next =
        ap (λ ys. x ∷ ys) (sym (above_above tid low (tid x) fl (omega arith)) ∙ above_all tid (tid x) (tid x) (above tid low fl) (omega arith) up.1) ∙ found

-- one that stands arrives again
pub repeat : {X : Type 0} (tid : X → ℕ) (whole : Bool) (xs st fl : List X) (x : X) → tid x ≤ last_tid tid st → Replay tid whole xs st (x ∷ fl)
    → Replay tid whole xs st fl × Member x st
repeat tid whole xs st fl x low i = (
  record {
    missing = i.missing;
    front = i.front;
    rises = i.rises;
    flying = λ y there. i.flying y (inr there);
    rest = λ is. sym (above_not tid (last_tid tid st) x fl low) ∙ i.rest is;
  },
  earlier_stands tid whole xs st (x ∷ fl) x i (i.flying x (inl refl)) low,
)

-- Losses. No event of today loses anything: these three are for those that will.

-- all on its way is lost, and the end of what stands
pub cut : {X : Type 0} (tid : X → ℕ) (whole : Bool) (xs st rt fl : List X) → Replay tid whole xs (st ++ rt) fl → Replay tid false xs st []
cut tid whole xs st rt fl i = record {
  missing = rt ++ i.missing;
  front = i.front ∙ append_assoc st rt i.missing;
  rises = i.rises;
  flying = λ x there. absurd there;
  rest = λ is. absurd cc;
}

-- all on its way is lost
pub lose : {X : Type 0} (tid : X → ℕ) (whole : Bool) (xs st fl : List X) → Replay tid whole xs st fl → Replay tid false xs st []
lose tid whole xs st fl i = cut tid whole xs st [] fl (subst (λ ys. Replay tid whole xs ys fl) (sym (append-nil st)) i)

-- what was sent is sent again, each that doesn't stand and maybe some that do
pub resend : {X : Type 0} (tid : X → ℕ) (whole : Bool) (xs st : List X) (p : X → Bool) → Each (λ x. last_tid tid st < tid x → p x ≡ true) xs
    → Replay tid whole xs st [] → Replay tid true xs st (filter p xs)
resend tid whole xs st p all i = record {
  missing = i.missing;
  front = i.front;
  rises = i.rises;
  flying = λ x there. chosen_member p x xs there;
  rest = λ is.
      above_chosen tid low p xs all
      ∙ (ap (above tid low) i.front
      ∙ (filter-append _ st i.missing
      ∙ (ap (λ ys. ys ++ above tid low i.missing) (above_none tid low st (λ x there. member_upto tid 0 x st (stands_rise tid whole xs st [] i) there))
      ∙ above_all tid low low i.missing (omega arith) (missing_rise tid whole xs st [] i))));
}
  where
    low : ℕ
    low = last_tid tid st
