-- Realms without cycles, and the rule of their contexts.
use Rattle.std.specs.Prelude.{◌≡◌, ℕ, zero, suc, ◌||◌, Bool, false, true, List, Option, Some, None, length}
use Rattle.std.specs.Option.{option_map, option_map_or}
use Rattle.cs_snapctx.specs.declared.realm.RealmRecord.{RealmRecord}
use Rattle.cs_snapctx.specs.Context.{Context, empty_context}
use Rattle.cs_snapctx.specs.Contexts.{under}
use Rattle.cs_snapctx.specs.Records.{is_of, parent_record, record_of}

-- going up from the realm of r, over known parents, ends within n realms
abbrev pub leads_up : ℕ → List RealmRecord → RealmRecord → Bool
leads_up zero rs r = false
leads_up (suc n) rs r = option_map_or (λ p. option_map_or (leads_up n rs) (record_of p rs) false) r.parent true

-- going up from any realm ends
abbrev pub IsAcyclic : List RealmRecord → Type 0
IsAcyclic rs = (i : ℕ) (r : RealmRecord) → record_of i rs ≡ Some r → (n : ℕ) × (leads_up n rs r ≡ true)

-- the realm of r is realm j, or is below it by fewer than n realms
abbrev pub is_within : ℕ → List RealmRecord → ℕ → RealmRecord → Bool
is_within zero rs j r = false
is_within (suc n) rs j r = is_of j r || option_map_or (is_within n rs j) (parent_record rs r) false

-- the parent that r names, if it names one, is known, and is neither the realm of r nor below it
abbrev pub HasRoomFor : List RealmRecord → RealmRecord → Type 0
HasRoomFor rs r =
    (p : ℕ) → r.parent ≡ Some p → (q : RealmRecord) × (record_of p rs ≡ Some q) × (is_within (length rs) rs r.realm q ≡ false)

-- each context is made of the realm's record and of its parent's context
pub record AreContexts (rs : List RealmRecord) (of : ℕ → Option Context) : Type 0 where
  pub unknown : (i : ℕ) → record_of i rs ≡ None → of i ≡ None
  pub top : (i : ℕ) (r : RealmRecord) → record_of i rs ≡ Some r → r.parent ≡ None → of i ≡ Some (under empty_context r)
  pub below : (i p : ℕ) (r : RealmRecord) → record_of i rs ≡ Some r → r.parent ≡ Some p → of i ≡ option_map (λ above. under above r) (of p)
