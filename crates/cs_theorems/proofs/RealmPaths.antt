-- The context of a file by the realm records that the client has is that along the file's path by the records of the log, where
-- the client's records are those of the log.
use Rattle.std.proofs.Common.{◌≡◌, refl, sym, ap, ◌∙◌, subst, ℕ, suc, Bool, true, false, cond, List, [], ◌∷◌, Option, Some, None, is_some, find, drop, unwrap_or, if◌then◌else◌}
use Rattle.std.specs.Option.{option_and_then, option_map, option_map_or}
use Rattle.std.proofs.lemmas.Bool.{cond-true, cond-false}
use Rattle.cs_snapctx.specs.declared.realm.RealmRecord.{RealmRecord}
use Rattle.cs_snapctx.specs.Context.{Context, empty_context, merged}
use Rattle.cs_snapctx.specs.Contexts.{context, context_of, under}
use Rattle.cs_snapctx.specs.Records.{is_known, record_of}
use Rattle.cs_snapctx.specs.Trees.{AreContexts, IsAcyclic, leads_up}
use Rattle.cs_realms.proofs.Ups.{rule_holds}
use Rattle.cs_laws.specs.declared.records.Record.{Record}
use Rattle.cs_laws.specs.Context.{path_context}
use Rattle.cs_laws.specs.Realms.{is_realm, own, realm_record, since_of}
use Rattle.cs_theorems.proofs.Paths.{IsWay, Tree}

-- the last records of the realms, ts, are those of the log's records, rs
pub record HasRealms (up : ℕ → List ℕ) (rs : List Record) (ts : List RealmRecord) : Type 0 where
  pub has : (d : ℕ) → record_of d ts ≡ realm_record (up d) rs d

-- the context along a way, by the log's records
abbrev pub way_context : List Record → List ℕ → Context
way_context rs [] = empty_context
way_context rs (d ∷ ds) =
    if is_realm rs d then merged (own d rs).snaps [] (own d rs).seq (way_context rs ds) (since_of rs d) else way_context rs ds

-- the record of a realm
abbrev pub realm_of : (ℕ → List ℕ) → List Record → ℕ → RealmRecord
realm_of up rs d =
    record { realm = d; parent = find (is_realm rs) (drop 1 (up d)); since = since_of rs d; own_seq = (own d rs).seq; own = (own d rs).snaps; prior = [] }

module _ (dir : ℕ → Bool) (up : ℕ → List ℕ) (rs : List Record) (ts : List RealmRecord) (tree : Tree dir up)
    (inside : (d : ℕ) → is_realm rs d ≡ true → dir d ≡ true) (i : HasRealms up rs ts) where
  record_there : (d : ℕ) → is_realm rs d ≡ true → record_of d ts ≡ Some (realm_of up rs d)
  record_there d is = i.has d ∙ cond-true (is_realm rs d) (Some (realm_of up rs d)) None is

  none_there : (d : ℕ) → is_realm rs d ≡ false → record_of d ts ≡ None
  none_there d not = i.has d ∙ cond-false (is_realm rs d) (Some (realm_of up rs d)) None not

  known_is : (d : ℕ) → is_known d ts ≡ is_realm rs d
  known_is d = at (is_realm rs d) refl
    where
      at : (b : Bool) → is_realm rs d ≡ b → is_known d ts ≡ b
      at true is = ap is_some (record_there d is)
      at false not = ap is_some (none_there d not)

  found_known : (ds : List ℕ) → find (λ d. is_known d ts) ds ≡ find (is_realm rs) ds
  found_known [] = refl
  found_known (d ∷ ds) = ap (λ b. cond b (Some d) (find (λ k. is_known k ts) ds)) (known_is d) ∙ ap (λ o. cond (is_realm rs d) (Some d) o) (found_known ds)

  is_found : (ds : List ℕ) (p : ℕ) → find (is_realm rs) ds ≡ Some p → is_realm rs p ≡ true
  is_found [] p none = absurd cc
  is_found (d ∷ ds) p is = at (is_realm rs d) refl is (is_found ds p)
    where
      at : (b : Bool) → is_realm rs d ≡ b → cond b (Some d) (find (is_realm rs) ds) ≡ Some p
          → (find (is_realm rs) ds ≡ Some p → is_realm rs p ≡ true) → is_realm rs p ≡ true
      at true here same rest = let k : d ≡ p = cc in subst (λ x. is_realm rs x ≡ true) k here
      at false not there rest = rest there

  parent_is : (d : ℕ) (ds : List ℕ) → up d ≡ d ∷ ds → (realm_of up rs d).parent ≡ find (is_realm rs) ds
  parent_is d ds is = ap (λ xs. find (is_realm rs) (drop 1 xs)) is

  -- Going up from a realm ends

  abbrev LeadsUp : RealmRecord → Type 0
  LeadsUp r = (n : ℕ) × (leads_up n ts r ≡ true)

  top_ends : (r : RealmRecord) → r.parent ≡ None → LeadsUp r
  top_ends r top = (1, ap (λ o. option_map_or (λ p. option_map_or (leads_up 0 ts) (record_of p ts) false) o true) top)

  over_ends : (r q : RealmRecord) (p : ℕ) → r.parent ≡ Some p → record_of p ts ≡ Some q → LeadsUp q → LeadsUp r
  over_ends r q p named there (n, ends) =
      (suc n, ap (λ o. option_map_or (λ k. option_map_or (leads_up n ts) (record_of k ts) false) o true) named ∙ (ap (λ o. option_map_or (leads_up n ts) o false) there ∙ ends))

  climb : (ds : List ℕ) → IsWay up ds → (p : ℕ) → find (is_realm rs) ds ≡ Some p → LeadsUp (realm_of up rs p)
  climb [] way p none = absurd cc
  climb (d ∷ ds) way p is = at (is_realm rs d) refl is (climb ds way.1)
    where
      above : (o : Option ℕ) → find (is_realm rs) ds ≡ o → ((q : ℕ) → find (is_realm rs) ds ≡ Some q → LeadsUp (realm_of up rs q)) → LeadsUp (realm_of up rs d)
      above None none rest = top_ends (realm_of up rs d) (parent_is d ds way.0 ∙ none)
      above (Some q) some rest =
          over_ends (realm_of up rs d) (realm_of up rs q) q (parent_is d ds way.0 ∙ some) (record_there q (is_found ds q some)) (rest q some)

      at : (b : Bool) → is_realm rs d ≡ b → cond b (Some d) (find (is_realm rs) ds) ≡ Some p
          → ((q : ℕ) → find (is_realm rs) ds ≡ Some q → LeadsUp (realm_of up rs q)) → LeadsUp (realm_of up rs p)
      at true here same rest = let k : d ≡ p = cc in subst (λ x. LeadsUp (realm_of up rs x)) k (above (find (is_realm rs) ds) refl rest)
      at false not there rest = rest p there

  all_end : IsAcyclic ts
  all_end d r is = at (is_realm rs d) refl
    where
      at : (b : Bool) → is_realm rs d ≡ b → LeadsUp r
      at true here =
          let own = tree.own d (inside d here) in
          let way : IsWay up (d ∷ own.0) = subst (λ ds. IsWay up ds) own.1 (tree.ways d) in
          let first : find (is_realm rs) (d ∷ own.0) ≡ Some d = cond-true (is_realm rs d) (Some d) (find (is_realm rs) own.0) here in
          let same : realm_of up rs d ≡ r = let both : Some (realm_of up rs d) ≡ Some r = sym (record_there d here) ∙ is in cc in
          subst (λ x. LeadsUp x) same (climb (d ∷ own.0) way d first)
      at false not = absurd (let both : None ≡ Some r = sym (none_there d not) ∙ is in cc)

  contexts : AreContexts ts (context ts)
  contexts = rule_holds ts all_end

  -- Along a way

  abbrev nearest : List ℕ → Option Context
  nearest ds = option_and_then (λ d. context ts d) (find (is_realm rs) ds)

  is_context : (p : ℕ) → is_realm rs p ≡ true → (c : Context) × (context ts p ≡ Some c)
  is_context p is = (context_of ts (realm_of up rs p), ap (λ o. option_map (context_of ts) o) (record_there p is))

  realm_context : (d : ℕ) (ds : List ℕ) → up d ≡ d ∷ ds → is_realm rs d ≡ true → context ts d ≡ Some (under (unwrap_or (nearest ds) empty_context) (realm_of up rs d))
  realm_context d ds is here = at (find (is_realm rs) ds) refl
    where
      at : (o : Option ℕ) → find (is_realm rs) ds ≡ o
          → context ts d ≡ Some (under (unwrap_or (option_and_then (λ k. context ts k) o) empty_context) (realm_of up rs d))
      at None none = contexts.top d (realm_of up rs d) (record_there d here) (parent_is d ds is ∙ none)
      at (Some p) some =
          let c = is_context p (is_found ds p some) in
          contexts.below d p (realm_of up rs d) (record_there d here) (parent_is d ds is ∙ some)
          ∙ (ap (λ o. option_map (λ above. under above (realm_of up rs d)) o) c.1 ∙ ap (λ o. Some (under (unwrap_or o empty_context) (realm_of up rs d))) (sym c.1))

  along : (ds : List ℕ) → IsWay up ds → unwrap_or (nearest ds) empty_context ≡ way_context rs ds
  along [] way = refl
  along (d ∷ ds) way = at (is_realm rs d) refl (along ds way.1)
    where
      at : (b : Bool) → is_realm rs d ≡ b → unwrap_or (nearest ds) empty_context ≡ way_context rs ds
          → unwrap_or (option_and_then (λ k. context ts k) (cond b (Some d) (find (is_realm rs) ds))) empty_context
          ≡ cond b (merged (own d rs).snaps [] (own d rs).seq (way_context rs ds) (since_of rs d)) (way_context rs ds)
      at true here rest = ap (λ o. unwrap_or o empty_context) (realm_context d ds way.0 here) ∙ ap (λ c. under c (realm_of up rs d)) rest
      at false not rest = rest

  pub path_is_way : (ds : List ℕ) → IsWay up ds → path_context ds ts ≡ way_context rs ds
  path_is_way ds way = ap (λ o. unwrap_or (option_and_then (λ d. context ts d) o) empty_context) (found_known ds) ∙ along ds way
