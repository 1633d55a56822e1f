-- Tables in which one entry was put.
use Rattle.std.proofs.Common.{◌≡◌, ℕ, ◌==◌, ◌&&◌, ◌||◌, Bool, true, false, cond, List, [], ◌∷◌, Option, Some, None, is_le, is_some, nat_le, refl, sym, ◌∙◌, ap, arith, Vec}
use Rattle.std.proofs.lemmas.Bool.{eqb-true}
use Rattle.std.proofs.lemmas.Bool.Decides.{nat_tests}
use Rattle.std.proofs.lemmas.Slice.Eq.{bytes_eq-Decides}
use Rattle.std.specs.declared.alloc.Global.{Global}
use Rattle.std.specs.BTreeMap.{BTreeMap, UpdatesBy, get}
use Rattle.std.specs.Map.{lookup}
use Rattle.std.specs.Option.{option_and_then, unwrap_or}
use Rattle.std.specs.Ordering.{is_eq, nat_cmp}
use Rattle.std.specs.Str.{bytes_eq}
use Rattle.indexmap.specs.IndexMap.{insert_entry}
use Rattle.cs_records.specs.Flushed.{Flushed, none_flushed}
use Rattle.cs_records.specs.declared.names.NameTable.{NameTable}
use Rattle.cs_records.specs.Names.{last_in}
use Rattle.cs_records.proofs.Lists.{by_cond, exchange}
use Rattle.cs_records.proofs.Logs.{or_false}

same_test : (a b : ℕ) → is_eq (nat_cmp a b) ≡ (a == b)
same_test a b = grind (arith, nat_tests)

pub low_test : (a b : ℕ) → is_le (nat_cmp a b) ≡ nat_le a b
low_test a b = grind (arith, nat_tests)

pub put : {X : Type 0} (m n : BTreeMap ℕ X) (k : ℕ) (w : X) → UpdatesBy nat_cmp (nat_cmp k) m n (Some w) → (d : ℕ)
    → get nat_cmp n d ≡ cond (k == d) (Some w) (get nat_cmp m d)
put m n k w h d = h.0 d ∙ ap (λ b. cond b (Some w) (get nat_cmp m d)) (same_test k d)

-- what was there is put again
pub put_same : {X : Type 0} (m n : BTreeMap ℕ X) (k : ℕ) (v w : X) → Some v ≡ get nat_cmp m k → w ≡ v → UpdatesBy nat_cmp (nat_cmp k) m n (Some w) → (d : ℕ)
    → get nat_cmp n d ≡ get nat_cmp m d
put_same m n k v w is same h d =
    put m n k w h d
    ∙ by_cond (λ (o : Option _). o ≡ get nat_cmp m d) (k == d) (Some w) (get nat_cmp m d) (λ e. ap Some same
    ∙ (is ∙ ap (λ q. get nat_cmp m q) (eqb-true k d e))) (λ e. refl)

-- what has an entry
pub stands_with : {X : Type 0} (m n : BTreeMap ℕ X) (k : ℕ) (w : X) → UpdatesBy nat_cmp (nat_cmp k) m n (Some w) → (d : ℕ)
    → is_some (get nat_cmp n d) ≡ (is_some (get nat_cmp m d) || (k == d))
stands_with m n k w h d = ap is_some (put m n k w h d) ∙ at (k == d) (get nat_cmp m d)
  where
    at : (c : Bool) (o : Option _) → is_some (cond c (Some w) o) ≡ (is_some o || c)
    at true (Some x) = refl
    at true None = refl
    at false o = sym (or_false (is_some o))

pub stands_same : {X : Type 0} (m n : BTreeMap ℕ X) (k : ℕ) (v w : X) → Some v ≡ get nat_cmp m k → UpdatesBy nat_cmp (nat_cmp k) m n (Some w) → (d : ℕ)
    → is_some (get nat_cmp n d) ≡ is_some (get nat_cmp m d)
stands_same m n k v w is h d = stands_with m n k w h d ∙ at (k == d) refl
  where
    at : (c : Bool) → (k == d) ≡ c → (is_some (get nat_cmp m d) || c) ≡ is_some (get nat_cmp m d)
    at true e =
        let there : is_some (get nat_cmp m d) ≡ true = ap (λ q. is_some (get nat_cmp m q)) (sym (eqb-true k d e)) ∙ ap is_some (sym is) in
        ap (λ b. b || true) there ∙ sym there
    at false e = or_false (is_some (get nat_cmp m d))

-- the flushes of one file are put
pub put_flushed : (m n : BTreeMap ℕ Flushed) (k : ℕ) (w : Flushed) (g : Flushed → Flushed) → UpdatesBy nat_cmp (nat_cmp k) m n (Some w)
    → w ≡ g (unwrap_or (get nat_cmp m k) none_flushed)
    → (d : ℕ)
    → unwrap_or (get nat_cmp n d) none_flushed ≡ cond (k == d) (g (unwrap_or (get nat_cmp m d) none_flushed)) (unwrap_or (get nat_cmp m d) none_flushed)
put_flushed m n k w g h is d = ap (λ o. unwrap_or o none_flushed) (put m n k w h d) ∙ at (k == d) refl
  where
    at : (b : Bool) → (k == d) ≡ b
        → unwrap_or (cond b (Some w) (get nat_cmp m d)) none_flushed
        ≡ cond b (g (unwrap_or (get nat_cmp m d) none_flushed)) (unwrap_or (get nat_cmp m d) none_flushed)
    at true e = is ∙ ap (λ q. g (unwrap_or (get nat_cmp m q) none_flushed)) (eqb-true k d e)
    at false e = refl

-- the names of one directory

pub put_name : (es : List (Vec ℕ Global × ℕ)) (key : Vec ℕ Global) (n : ℕ) (other : List ℕ)
    → lookup (λ k. bytes_eq other k.items) (insert_entry (λ a b. bytes_eq a.items b.items) es key n)
    ≡ cond (bytes_eq other key.items) (Some n) (lookup (λ k. bytes_eq other k.items) es)
put_name [] key n other = refl
put_name (e ∷ es) key n other =
    by_cond (λ (ds : List (Vec ℕ Global × ℕ)). lookup (λ k. bytes_eq other k.items) ds ≡ cond (bytes_eq other key.items) (Some n)
    (cond (bytes_eq other e.0.items) (Some e.1) rest))
    (bytes_eq key.items e.0.items) ((e.0, n) ∷ es) (e ∷ insert_entry (λ a b. bytes_eq a.items b.items) es key n)
    (λ same. let bytes = (bytes_eq-Decides key.items e.0.items).0 same in
    rw bytes (twice (bytes_eq other e.0.items) (Some n) (Some e.1) rest))
    (λ apart. ap (λ o. cond (bytes_eq other e.0.items) (Some e.1) o) (put_name es key n other)
    ∙ exchange (bytes_eq other key.items) (bytes_eq other e.0.items) (Some n) (Some e.1) rest
    (λ p q. let same : bytes_eq key.items e.0.items ≡ true = (bytes_eq-Decides key.items e.0.items).1 (sym ((bytes_eq-Decides other key.items).0 p)
    ∙ (bytes_eq-Decides other e.0.items).0 q) in cc))
  where
    rest : Option ℕ
    rest = lookup (λ k. bytes_eq other k.items) es

    twice : {X : Type 0} (b : Bool) (x y z : X) → cond b x z ≡ cond b x (cond b y z)
    twice true x y z = refl
    twice false x y z = refl

-- the names of all directories: a table is put
pub named : (m n : BTreeMap ℕ NameTable) (k : ℕ) (w : NameTable) (name : List ℕ) (number : ℕ) → UpdatesBy nat_cmp (nat_cmp k) m n (Some w)
    → ((other : List ℕ) → last_in w other ≡ cond (bytes_eq other name) (Some number) (option_and_then (λ t. last_in t other) (get nat_cmp m k)))
    → (d : ℕ) (other : List ℕ)
    → option_and_then (λ t. last_in t other) (get nat_cmp n d)
    ≡ cond ((k == d) && bytes_eq other name) (Some number) (option_and_then (λ t. last_in t other) (get nat_cmp m d))
named m n k w name number h each d other = ap (λ o. option_and_then (λ t. last_in t other) o) (put m n k w h d) ∙ at (k == d) refl
  where
    at : (b : Bool) → (k == d) ≡ b
        → option_and_then (λ t. last_in t other) (cond b (Some w) (get nat_cmp m d))
        ≡ cond (b && bytes_eq other name) (Some number) (option_and_then (λ t. last_in t other) (get nat_cmp m d))
    at true e = each other ∙ ap (λ q. cond (bytes_eq other name) (Some number) (option_and_then (λ t. last_in t other) (get nat_cmp m q))) (eqb-true k d e)
    at false e = refl

-- a table of the same names
pub named_same : (m n : BTreeMap ℕ NameTable) (k : ℕ) (v w : NameTable) → Some v ≡ get nat_cmp m k → UpdatesBy nat_cmp (nat_cmp k) m n (Some w)
    → ((other : List ℕ) → last_in w other ≡ last_in v other)
    → (d : ℕ) (other : List ℕ) → option_and_then (λ t. last_in t other) (get nat_cmp n d) ≡ option_and_then (λ t. last_in t other) (get nat_cmp m d)
named_same m n k v w is h each d other = ap (λ o. option_and_then (λ t. last_in t other) o) (put m n k w h d) ∙ at (k == d) refl
  where
    at : (b : Bool) → (k == d) ≡ b
        → option_and_then (λ t. last_in t other) (cond b (Some w) (get nat_cmp m d)) ≡ option_and_then (λ t. last_in t other) (get nat_cmp m d)
    at true e = each other ∙ ap (λ o. option_and_then (λ t. last_in t other) o) (is ∙ ap (λ q. get nat_cmp m q) (eqb-true k d e))
    at false e = refl
