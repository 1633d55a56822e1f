-- Each realm has one change at most.
use Rattle.std.proofs.Common.{◌≡◌, ℕ, Bool, true, false, cond, List, [], ◌∷◌, Option, Some, None, is_some, filter, refl, sym, ◌∙◌, ap, subst, eqb-true}
use Rattle.std.specs.List.{cons_option, filter_map}
use Rattle.std.specs.Option.{option_map, option_to_list}
use Rattle.cs_snapctx.specs.declared.realm.RealmRecord.{RealmRecord}
use Rattle.cs_snapctx.specs.Context.{Context}
use Rattle.cs_realms.specs.declared.changed.Change.{Change}
use Rattle.cs_realms.specs.Changes.{change, changes, is_of_change, is_same}
use Rattle.cs_snapctx.specs.Contexts.{context, context_of}
use Rattle.cs_snapctx.specs.Records.{AreDistinct, is_known, is_of, record_of, with_record}
use Rattle.cs_realms.proofs.Stays.{stays_distinct}

module _ (g : ℕ → Option Change) (own : (i : ℕ) (c : Change) → g i ≡ Some c → c.realm ≡ i) where
  one_each : (i : ℕ) (rs : List RealmRecord) → AreDistinct rs
      → filter (is_of_change i) (filter_map (λ r. g r.realm) rs) ≡ cond (is_known i rs) (option_to_list (g i)) []
  one_each i [] d = refl
  one_each i (x ∷ xs) d = at (g x.realm) refl (is_of i x) refl (one_each i xs d.1)
    where
      none_left : (b : Bool) (ys : List Change) → b ≡ false → cond b ys [] ≡ []
      none_left true ys e = absurd cc
      none_left false ys e = refl

      some_or : (b : Bool) (o : Option RealmRecord) → is_some (cond b (Some x) o) ≡ cond b true (is_some o)
      some_or true o = refl
      some_or false o = refl

      at : (o : Option Change) → g x.realm ≡ o → (b : Bool) → is_of i x ≡ b
          → filter (is_of_change i) (filter_map (λ r. g r.realm) xs) ≡ cond (is_known i xs) (option_to_list (g i)) []
          → filter (is_of_change i) (cons_option o (filter_map (λ r. g r.realm) xs)) ≡ cond (is_some (cond b (Some x) (record_of i xs))) (option_to_list (g i)) []
      at None e true s rest =
          let same : x.realm ≡ i = eqb-true x.realm i s in
          let none : g i ≡ None = subst (λ j. g j ≡ None) same e in
          rest ∙ rw none (both (is_known i xs))
        where
          both : (b : Bool) → cond b (option_to_list {X = Change} None) [] ≡ []
          both true = refl
          both false = refl
      at None e false s rest = rest
      at (Some c) e true s rest =
          let same : x.realm ≡ i = eqb-true x.realm i s in
          let here : g i ≡ Some c = subst (λ j. g j ≡ Some c) same e in
          let unknown : is_known i xs ≡ false = subst (λ j. is_known j xs ≡ false) same d.0 in
          let of_i : is_of_change i c ≡ true = rw (own x.realm c e) s in
          rw (of_i, here) (ap (λ ys. c ∷ ys) (rest ∙ none_left (is_known i xs) _ unknown))
      at (Some c) e false s rest =
          let not_of : is_of_change i c ≡ false = rw (own x.realm c e) s in
          rw not_of rest

change_realm : (i : ℕ) (b c : Option Context) (x : Change) → change i b c ≡ Some x → x.realm ≡ i
change_realm i b None x e = absurd cc
change_realm i b (Some c) x e = at (is_same b c) e
  where
    at : (t : Bool) → cond t None (Some (record { realm = i; old = b; new = c })) ≡ Some x → x.realm ≡ i
    at true e = absurd cc
    at false e = cc

pub once : (before after : List RealmRecord) → AreDistinct after → (i : ℕ)
    → filter (is_of_change i) (changes before after) ≡ option_to_list (change i (context before i) (context after i))
once before after d i =
    one_each (λ j. change j (context before j) (context after j)) (λ j c e. change_realm j (context before j) (context after j) c e) i after d
    ∙ at (record_of i after)
  where
    at : (o : Option RealmRecord)
        → cond (is_some o) (option_to_list (change i (context before i) (option_map (context_of after) o))) [] ≡ option_to_list (change i (context before i) (option_map (context_of after) o))
    at None = refl
    at (Some r) = refl

-- the changes that one record makes
pub once_taken : (r : RealmRecord) (before after : List RealmRecord) (cs : List Change) → AreDistinct before → after ≡ with_record r before → cs ≡ changes before after
    → (i : ℕ) → filter (is_of_change i) cs ≡ option_to_list (change i (context before i) (context after i))
once_taken r before after cs d e f i =
    ap (filter (is_of_change i)) f ∙ once before after (subst AreDistinct (sym e) (stays_distinct r before d)) i
