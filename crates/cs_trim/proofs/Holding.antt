-- What a store holds after snapshots, removals and writes.
use Rattle.std.proofs.Common.{◌≡◌, ◌≢◌, ◌∙◌, refl, sym, ap, subst, ℕ, ◌+◌, ◌<◌, ◌≤◌, ◌==◌, max, nat_lt, Bool, true, false, cond, List, [], ◌∷◌, ◌++◌, length, map, append-nil, All, Option, Some, None, Result, Ok, Err, OnOk, arith}
use Rattle.std.proofs.lemmas.Grind.{common_steps}
use Rattle.std.proofs.lemmas.List.{map-append}
use Rattle.std.proofs.lemmas.List.Elements.{All-cons, All-head, All-nil, All-push, All-tail}
use Rattle.cs_laws.specs.Image.{byte_over}
use Rattle.cs_trim.specs.declared.numbers.SnapStatus.TheVariants.{Gone, Standing}
use Rattle.cs_trim.specs.declared.object.Head.{Head}
use Rattle.cs_trim.specs.declared.object.KeptClone.{KeptClone}
use Rattle.cs_trim.specs.declared.object.Span.{Span}
use Rattle.cs_trim.specs.Blocks.{byte_in, Writes}
use Rattle.cs_trim.specs.Clones.{greatest, kept, made}
use Rattle.cs_trim.specs.Held.{IsWritten, ObjectState, SameObjects, StoreState, WritesObject, clones_after, head_image, object_at, seq_after, status_in}
use Rattle.cs_trim.specs.Objects.{Write, before, byte_of, writes}
use Rattle.cs_trim.specs.Stands.{Follows, HasState, Holds, IsHead, Keeps, StandsFor}
use Rattle.cs_trim.specs.Steps.{taken, removed, wrote, drawn}
use Rattle.cs_trim.proofs.States.{AsOne, before_all, before_newest, greatest_drawn, kept_as_one, lt_from, not_from}

-- ---- numbers

pub follows_taken : (old new : StoreState) → length new.numbers ≡ length old.numbers + 1
    → ((n : ℕ) → status_in new.numbers n ≡ cond (n == length old.numbers + 1) Standing (status_in old.numbers n))
    → new.objects ≡ old.objects → Follows taken old new
follows_taken old new count statuses objects h s = record {
  drawn = count ∙ ap (λ n. n + 1) s.drawn;
  statuses = λ n. statuses n
      ∙ (ap (λ d. cond (n == d + 1) Standing (status_in old.numbers n)) s.drawn ∙ ap (λ x. cond (n == drawn h + 1) Standing x) (s.statuses n));
  objects = λ b. subst (λ os. Holds (writes b h) (kept b h) (object_at os b)) (sym objects) (s.objects b);
}

pub follows_removed : (r : ℕ) (old new : StoreState) → length new.numbers ≡ length old.numbers + 1
    → ((n : ℕ) → status_in new.numbers n ≡ cond (n == r) Gone (status_in old.numbers n))
    → new.objects ≡ old.objects → Follows (removed r) old new
follows_removed r old new count statuses objects h s = record {
  drawn = count ∙ ap (λ n. n + 1) s.drawn;
  statuses = λ n. statuses n ∙ ap (λ x. cond (n == r) Gone x) (s.statuses n);
  objects = λ b. subst (λ os. Holds (writes b h) (kept b h) (object_at os b)) (sym objects) (s.objects b);
}

-- ---- a write

pub keeps_same : (old new : StoreState) → SameObjects old new → Keeps old new
keeps_same old new same h s = record {
  drawn = ap length same.numbers ∙ s.drawn;
  statuses = λ n. ap (λ ns. status_in ns n) same.numbers ∙ s.statuses n;
  objects = λ b. subst (Holds (writes b h) (kept b h)) (sym (same.objects b)) (s.objects b);
}

seq_by : (b : Bool) (a q : ℕ) → nat_lt a q ≡ b → a ≤ q → cond b q a ≡ q
seq_by true a q is small = refl
seq_by false a q is small = omega (arith, small, not_from a q is)

head_written : (q : ℕ) (w : Write) (ws : List Write) (o : Option Head) (image : List (List ℕ)) → w.seq ≡ q → greatest ws ≤ q → IsHead ws o
    → Writes w.off w.bytes (head_image o) image → IsHead (w ∷ ws) (Some (record { seq = seq_after q o; image = image }))
head_written q w ws None image is small none written =
    let seq : q ≡ max w.seq (greatest ws) = omega (arith, is, small) in
    (omega arith, seq, λ i. written i ∙ ap (λ xs. byte_over w.off w.bytes i (byte_of xs i)) (sym none))
head_written q w ws (Some x) image is small head written =
    let old : x.seq ≤ q = omega (arith, head.1, small) in
    let seq : q ≡ max w.seq (greatest ws) = omega (arith, is, small) in
    (omega arith, seq_by (nat_lt x.seq q) x.seq q refl old ∙ seq, λ i. written i ∙ ap (byte_over w.off w.bytes i) (head.2 i))

made_is : (q : ℕ) (ws : List Write) → 0 < length ws → cond (nat_lt (greatest ws) q) (record { above = greatest ws; upto = q } ∷ []) [] ≡ made q ws
made_is q [] some = absurd (omega (arith, some))
made_is q (v ∷ vs) some = refl

spans_by : (b : Bool) (c : KeptClone) (ks : List Span) (cs : List KeptClone) → map (λ c. c.span) cs ≡ ks
    → map (λ c. c.span) (cond b (cs ++ c ∷ []) cs) ≡ ks ++ cond b (c.span ∷ []) []
spans_by true c ks cs is = map-append (λ c. c.span) cs (c ∷ []) ∙ ap (λ xs. xs ++ c.span ∷ []) is
spans_by false c ks cs is = is ∙ sym (append-nil ks)

spans_written : (q : ℕ) (ws : List Write) (ks : List Span) (o : Option Head) (cs : List KeptClone) → IsHead ws o → map (λ c. c.span) cs ≡ ks
    → map (λ c. c.span) (clones_after q o cs) ≡ ks ++ made q ws
spans_written q ws ks None cs none is = is ∙ (sym (append-nil ks) ∙ ap (λ xs. ks ++ made q xs) (sym none))
spans_written q ws ks (Some x) cs head is =
    let c : KeptClone = record { span = record { above = x.seq; upto = q }; image = x.image } in
    spans_by (nat_lt x.seq q) c ks cs is
    ∙ ap (λ xs. ks ++ xs) (ap (λ g. cond (nat_lt g q) (record { above = g; upto = q } ∷ []) []) head.1 ∙ made_is q ws head.0)

-- a clone has the state that it had
has_still : (w : Write) (ws : List Write) (c : KeptClone) → c.span.upto ≤ w.seq → HasState ws c → HasState (w ∷ ws) c
has_still w ws c least state i = state i ∙ ap (λ xs. byte_of xs i) (sym (before_newest c.span.upto w ws least))

all_still : (q : ℕ) (w : Write) (ws : List Write) (cs : List KeptClone) → w.seq ≡ q → All (AsOne q ws) (map (λ c. c.span) cs) → All (HasState ws) cs
    → All (HasState (w ∷ ws)) cs
all_still q w ws [] is ones states = All-nil (HasState (w ∷ ws))
all_still q w ws (c ∷ cs) is ones states =
    let one : AsOne q ws c.span = All-head (AsOne q ws) c.span (map (λ c. c.span) cs) ones in
    All-cons (HasState (w ∷ ws)) c cs (has_still w ws c (omega (arith, is, one.0)) (All-head (HasState ws) c cs states))
    (all_still q w ws cs is (All-tail (AsOne q ws) c.span (map (λ c. c.span) cs) ones) (All-tail (HasState ws) c cs states))

states_by : (b : Bool) (q : ℕ) (w : Write) (ws : List Write) (x : Head) (cs : List KeptClone) → nat_lt x.seq q ≡ b → w.seq ≡ q → x.seq ≡ greatest ws
    → ((i : ℕ) → byte_in x.image i ≡ byte_of ws i) → All (HasState (w ∷ ws)) cs
    → All (HasState (w ∷ ws)) (cond b (cs ++ record { span = record { above = x.seq; upto = q }; image = x.image } ∷ []) cs)
states_by true q w ws x cs less is seq bytes states =
    let c : KeptClone = record { span = record { above = x.seq; upto = q }; image = x.image } in
    let above : greatest ws < q = omega (arith, lt_from x.seq q less, seq) in
    let all : before q (w ∷ ws) ≡ ws = before_newest q w ws (omega (arith, is)) ∙ before_all q ws above in
    All-push (HasState (w ∷ ws)) cs c states (λ i. bytes i ∙ ap (λ xs. byte_of xs i) (sym all))
states_by false q w ws x cs less is seq bytes states = states

states_written : (q : ℕ) (w : Write) (ws : List Write) (o : Option Head) (cs : List KeptClone) → w.seq ≡ q → IsHead ws o
    → All (AsOne q ws) (map (λ c. c.span) cs) → All (HasState ws) cs → All (HasState (w ∷ ws)) (clones_after q o cs)
states_written q w ws None cs is head ones states = all_still q w ws cs is ones states
states_written q w ws (Some x) cs is head ones states =
    states_by (nat_lt x.seq q) q w ws x cs refl is head.1 head.2 (all_still q w ws cs is ones states)

holds_written : (q off : ℕ) (bytes : List ℕ) (ws : List Write) (ks : List Span) (old new : ObjectState) → greatest ws ≤ q → All (AsOne q ws) ks
    → Holds ws ks old → IsWritten q off bytes old new → Holds (record { seq = q; off = off; bytes = bytes } ∷ ws) (ks ++ made q ws) new
holds_written q off bytes ws ks old new small ones holds done =
    let w : Write = record { seq = q; off = off; bytes = bytes } in
    let ones : All (AsOne q ws) (map (λ c. c.span) old.clones) = subst (All (AsOne q ws)) (sym holds.clones) ones in
    record {
      head = subst (IsHead (w ∷ ws)) (sym done.head) (head_written q w ws old.head (head_image new.head) refl small holds.head done.written);
      clones = ap (map (λ c. c.span)) done.clones ∙ spans_written q ws ks old.head old.clones holds.head holds.clones;
      bytes = subst (All (HasState (w ∷ ws))) (sym done.clones) (states_written q w ws old.head old.clones refl holds.head ones holds.bytes);
    }

-- the object that is written, and another one
holds_by : (x : Bool) (b c q off : ℕ) (bytes : List ℕ) (ws : List Write) (ks : List Span) (old new : ObjectState) → (b == c) ≡ x → greatest ws ≤ q
    → All (AsOne q ws) ks → Holds ws ks old → (b ≡ c → IsWritten q off bytes old new) → (c ≢ b → new ≡ old)
    → Holds (cond x (record { seq = q; off = off; bytes = bytes } ∷ ws) ws) (cond x (ks ++ made q ws) ks) new
holds_by true b c q off bytes ws ks old new is small ones holds here there =
    let same : b ≡ c = grind (arith, common_steps, is) in
    holds_written q off bytes ws ks old new small ones holds (here same)
holds_by false b c q off bytes ws ks old new is small ones holds here there =
    let other : c ≢ b = grind (arith, common_steps, is) in
    subst (Holds ws ks) (sym (there other)) holds

pub follows_wrote : (b off : ℕ) (bytes : List ℕ) (old mid new : StoreState) → SameObjects old mid → WritesObject b off bytes mid new
    → Follows (wrote b off bytes) old new
follows_wrote b off bytes old mid new same written h before_it =
    let s : StandsFor h mid = keeps_same old mid same h before_it in
    record {
      drawn = ap length written.numbers ∙ s.drawn;
      statuses = λ n. ap (λ ns. status_in ns n) written.numbers ∙ s.statuses n;
      objects = λ c. holds_by (b == c) b c (drawn h) off bytes (writes c h) (kept c h) (object_at mid.objects c) (object_at new.objects c) refl
          (greatest_drawn c h) (kept_as_one c h) (s.objects c)
          (λ is. subst (λ n. IsWritten (drawn h) off bytes (object_at mid.objects n) (object_at new.objects n)) is
          (subst (λ q. IsWritten q off bytes (object_at mid.objects b) (object_at new.objects b)) s.drawn written.object))
          (written.others c);
    }

-- ---- the same, where a call succeeded

pub ok_taken : {T E : Type 0} (r : Result T E) (old now new : StoreState) → old ≡ now → OnOk r (length new.numbers ≡ length old.numbers + 1)
    → OnOk r ((n : ℕ) → status_in new.numbers n ≡ cond (n == length old.numbers + 1) Standing (status_in old.numbers n))
    → new.objects ≡ old.objects → OnOk r (Follows taken now new)
ok_taken (Ok x) old now new same count statuses objects = subst (λ s. Follows taken s new) same (follows_taken old new count statuses objects)
ok_taken (Err e) old now new same count statuses objects = tt

pub ok_wrote : {T E : Type 0} (r : Result T E) (b off : ℕ) (bytes : List ℕ) (old mid new : StoreState) → SameObjects old mid
    → OnOk r (WritesObject b off bytes mid new) → OnOk r (Follows (wrote b off bytes) old new)
ok_wrote (Ok x) b off bytes old mid new same written = follows_wrote b off bytes old mid new same written
ok_wrote (Err e) b off bytes old mid new same written = tt
