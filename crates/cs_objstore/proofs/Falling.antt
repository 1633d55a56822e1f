-- Versions of which each began with a greater number than the one before it.
use Rattle.std.proofs.Common.{◌≡◌, refl, ap, ℕ, zero, suc, ◌-◌, ◌<◌, ◌≤◌, nat_lt, nat_le, true, false, List, [], ◌∷◌, length, get_or, arith}
use Rattle.std.proofs.lemmas.Grind.{common_steps}
use Rattle.std.specs.List.Sorted.{IsPartitionedBy}
use Rattle.cs_objstore.specs.Versions.{Falls, newer}
use Rattle.cs_objstore.specs.declared.object.Version.{Version}

falls_tail : (v : Version) (vs : List Version) → Falls (v ∷ vs) → Falls vs
falls_tail v [] f = tt
falls_tail v (w ∷ ws) f = f.1

falls_head : (v : Version) (vs : List Version) (j : ℕ) (d : Version) → Falls (v ∷ vs) → j < length vs → (get_or vs j d).since < v.since
falls_head v [] j d f h = absurd (omega arith)
falls_head v (w ∷ ws) zero d f h = f.0
falls_head v (w ∷ ws) (suc j) d f h = omega (arith, falls_head w ws j d f.1 (omega arith), f.0)

falls_le : (vs : List Version) (i j : ℕ) (d : Version) → Falls vs → i ≤ j → j < length vs → (get_or vs j d).since ≤ (get_or vs i d).since
falls_le [] i j d f le h = absurd (omega arith)
falls_le (v ∷ vs) zero zero d f le h = omega arith
falls_le (v ∷ vs) zero (suc j) d f le h = omega (arith, falls_head v vs j d f (omega arith))
falls_le (v ∷ vs) (suc i) zero d f le h = absurd (omega arith)
falls_le (v ∷ vs) (suc i) (suc j) d f le h = falls_le vs i j d (falls_tail v vs f) (omega arith) (omega arith)

-- there are no more versions than numbers
pub falls_count : (v : Version) (vs : List Version) → Falls (v ∷ vs) → length vs ≤ v.since
falls_count v [] f = omega arith
falls_count v (w ∷ ws) f = omega (arith, falls_count w ws f.1, f.0)

-- a search by the number finds the place of a state
pub partitioned : (s : ℕ) (vs : List Version) → Falls vs → IsPartitionedBy (λ v. nat_le s v.since) vs
partitioned s vs f = λ i j d le h at. let fall = falls_le vs i j d f le h in grind (arith, common_steps, at, fall)

not_below : (a b : ℕ) → nat_le b a ≡ true → nat_lt a b ≡ false
not_below a b h = grind (arith, common_steps, h)

is_below : (a b : ℕ) → nat_le b a ≡ false → nat_lt a b ≡ true
is_below a b h = grind (arith, common_steps, h)

pub newer_found : (s p : ℕ) (vs : List Version) → p ≤ length vs → ((k : ℕ) (d : Version) → k < p → nat_le s (get_or vs k d).since ≡ true)
    → ((k : ℕ) (d : Version) → p ≤ k → k < length vs → nat_le s (get_or vs k d).since ≡ false) → newer s vs ≡ p
newer_found s p [] few front back = omega arith
newer_found s zero (v ∷ vs) few front back = rw (is_below v.since s (back zero v (omega arith) (omega arith))) refl
newer_found s (suc p) (v ∷ vs) few front back =
    rw (not_below v.since s (front zero v (omega arith)))
    (ap suc (newer_found s p vs (omega arith) (λ k d h. front (suc k) d (omega arith)) (λ k d from to. back (suc k) d (omega arith) (omega arith))))

pub falls_fewer : (vs : List Version) (d : Version) → 0 < length vs → Falls vs → length vs - 1 ≤ (get_or vs 0 d).since
falls_fewer [] d some f = absurd (omega arith)
falls_fewer (v ∷ vs) d some f = omega (arith, falls_count v vs f)
