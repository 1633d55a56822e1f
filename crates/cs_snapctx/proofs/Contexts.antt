-- Contexts of realms.
use Rattle.std.proofs.Common.{◌≡◌, ℕ, ◌≤◌, nat_le, ◌↔◌, ◌⊎◌, List, ◌++◌, max, filter, Contains, arith, inl, inr, refl, sym, ◌∙◌}
use Rattle.std.specs.Ordering.{nat_cmp, ord_max}
use Rattle.std.proofs.lemmas.Bool.Decides.{nat_tests}
use Rattle.std.proofs.lemmas.Bool.{leb-true, le-leb}
use Rattle.std.proofs.lemmas.List.Elements.{Contains-append_cases, Contains-append_left, Contains-append_right}
use Rattle.cs_snapctx.specs.Context.{Context, IsRealmContext, merged}
use Rattle.cs_snapctx.proofs.Descending.{IsInOrder, descending_equal, descending_is}
use Rattle.cs_snapctx.proofs.Members.{in_filter}

-- the greater of two numbers, as `max` of std's orders finds it
pub greater_of : (a b : ℕ) → ord_max nat_cmp a b ≡ max a b
greater_of a b = grind (arith, nat_tests)

-- the members of the three lists
in_all : (own prior snaps : List ℕ) (since s : ℕ)
    → Contains ((own ++ prior) ++ filter (nat_le since) snaps) s ↔ (Contains own s ⊎ (Contains prior s ⊎ (Contains snaps s × (since ≤ s))))
in_all own prior snaps since s = (
  λ h. elim (Contains-append_cases (own ++ prior) (filter (nat_le since) snaps) s h) [
    | inl a ↦ elim (Contains-append_cases own prior s a) [ inl b ↦ inl b | inr b ↦ inr (inl b) ]
    | inr a ↦ let k = (in_filter (nat_le since) snaps s).0 a in inr (inr (k.0, leb-true since s k.1))
  ],
  λ h. elim h [
    | inl a ↦ Contains-append_left (own ++ prior) (filter (nat_le since) snaps) s (Contains-append_left own prior s a)
    | inr a ↦ elim a [
      | inl b ↦ Contains-append_left (own ++ prior) (filter (nat_le since) snaps) s (Contains-append_right own prior s b)
      | inr b ↦ Contains-append_right (own ++ prior) (filter (nat_le since) snaps) s ((in_filter (nat_le since) snaps s).1 (b.0, le-leb since s b.1))
    ]
  ],
)

-- a descending list with the members of the three makes the context
pub realm_context_of : (own prior : List ℕ) (own_seq : ℕ) (parent : Context) (since seq : ℕ) (all snaps : List ℕ)
    → seq ≡ max own_seq parent.seq → all ≡ (own ++ prior) ++ filter (nat_le since) parent.snaps → IsInOrder all snaps
    → IsRealmContext own prior own_seq parent since (record { seq = seq; snaps = snaps })
realm_context_of own prior own_seq parent since seq all snaps greater gathered ordered =
    let same : (s : ℕ) → Contains all s ↔ (Contains own s ⊎ (Contains prior s ⊎ (Contains parent.snaps s × (since ≤ s)))) =
    rw gathered (in_all own prior parent.snaps since) in
    record {
      seq = greater;
      order = ordered.order;
      members = λ s. (λ h. (same s).0 ((ordered.members s).0 h), λ h. (ordered.members s).1 ((same s).1 h));
    }

pub merged_is : (own prior : List ℕ) (own_seq : ℕ) (parent : Context) (since : ℕ) → IsRealmContext own prior own_seq parent since (merged own prior own_seq parent since)
merged_is own prior own_seq parent since =
    let all = (own ++ prior) ++ filter (nat_le since) parent.snaps in
    realm_context_of own prior own_seq parent since _ all _ refl refl (descending_is all)

same_snaps : (own prior : List ℕ) (own_seq : ℕ) (parent : Context) (since : ℕ) (a b : Context)
    → IsRealmContext own prior own_seq parent since a → IsRealmContext own prior own_seq parent since b → a.snaps ≡ b.snaps
same_snaps own prior own_seq parent since a b is_a is_b =
    descending_equal a.snaps b.snaps is_a.order is_b.order
    (λ s. (λ h. (is_b.members s).1 ((is_a.members s).0 h), λ h. (is_a.members s).1 ((is_b.members s).0 h)))

abbrev context_of : ℕ → List ℕ → Context
context_of q ss = record { seq = q; snaps = ss }

context_parts : (q r : ℕ) (ss ts : List ℕ) → q ≡ r → ss ≡ ts → context_of q ss ≡ context_of r ts
context_parts q r ss ts seq snaps = cc

pub contexts_equal : (own prior : List ℕ) (own_seq : ℕ) (parent : Context) (since : ℕ) (a b : Context)
    → IsRealmContext own prior own_seq parent since a → IsRealmContext own prior own_seq parent since b → a ≡ b
contexts_equal own prior own_seq parent since a b is_a is_b =
    context_parts a.seq b.seq a.snaps b.snaps (is_a.seq ∙ sym is_b.seq) (same_snaps own prior own_seq parent since a b is_a is_b)
