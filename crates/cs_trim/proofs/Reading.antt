-- What a store reads.
use Rattle.std.proofs.Common.{◌≡◌, ◌∙◌, refl, sym, ap, ℕ, ◌≤◌, ◌||◌, nat_lt, Bool, true, false, cond, List, [], ◌∷◌, length, map, All, Option, Some, None, subst, arith}
use Rattle.std.specs.List.{list_any}
use Rattle.std.proofs.lemmas.List.{length-map}
use Rattle.std.proofs.lemmas.List.Elements.{All-head, All-tail}
use Rattle.cs_laws.specs.declared.objects.At.{At}
use Rattle.cs_laws.specs.declared.objects.At.TheVariants as at
use Rattle.cs_trim.specs.declared.numbers.SnapStatus.TheVariants.{Standing}
use Rattle.cs_trim.specs.declared.object.Head.{Head}
use Rattle.cs_trim.specs.declared.object.KeptClone.{KeptClone}
use Rattle.cs_trim.specs.Blocks.{byte_in}
use Rattle.cs_trim.specs.Clones.{greatest, has, is_standing, kept}
use Rattle.cs_trim.specs.Held.{StoreState, clone_image, head_image, image_at, object_at, snap_image, status_of}
use Rattle.cs_trim.specs.Objects.{Write, before, byte_of, object_byte, writes}
use Rattle.cs_trim.specs.Stands.{HasState, Holds, IsHead, StandsFor}
use Rattle.cs_trim.specs.Steps.{Step, drawn, status}
use Rattle.cs_trim.proofs.Standing.{above_of_has, upto_of_has}
use Rattle.cs_trim.proofs.States.{AsOne, before_all, covers, kept_as_one, lt_from, not_from}

pub clones_kept : (b : ℕ) (h : List Step) (s : StoreState) → StandsFor h s → length (object_at s.objects b).clones ≡ length (kept b h)
clones_kept b h s stands = sym (length-map (object_at s.objects b).clones (λ c. c.span)) ∙ ap length (stands.objects b).clones

reads_head : (ws : List Write) (o : Option Head) (i : ℕ) → IsHead ws o → byte_in (head_image o) i ≡ byte_of ws i
reads_head ws None i none = ap (λ xs. byte_of xs i) (sym none)
reads_head ws (Some x) i head = head.2 i

-- the first clone in whose span the number lies, or none
clone_by : (b : Bool) (n d : ℕ) (ws : List Write) (c : KeptClone) (cs : List KeptClone) (i : ℕ) → has n c.span ≡ b → AsOne d ws c.span → HasState ws c
    → (b ≡ false → byte_in (clone_image n cs) i ≡ byte_of (before n ws) i) → byte_in (cond b c.image (clone_image n cs)) i ≡ byte_of (before n ws) i
clone_by true n d ws c cs i is one state rest =
    state i ∙ ap (λ xs. byte_of xs i) (sym (one.1 n (above_of_has n c.span is) (upto_of_has n c.span is)))
clone_by false n d ws c cs i is one state rest = rest refl

reads_clone : (n d : ℕ) (ws : List Write) (cs : List KeptClone) (i : ℕ) → All (AsOne d ws) (map (λ c. c.span) cs) → All (HasState ws) cs
    → (list_any (has n) (map (λ c. c.span) cs) ≡ false → before n ws ≡ []) → byte_in (clone_image n cs) i ≡ byte_of (before n ws) i
reads_clone n d ws [] i ones states none = ap (λ xs. byte_of xs i) (sym (none refl))
reads_clone n d ws (c ∷ cs) i ones states none =
    clone_by (has n c.span) n d ws c cs i refl (All-head (AsOne d ws) c.span (map (λ c. c.span) cs) ones) (All-head (HasState ws) c cs states)
    (λ not. reads_clone n d ws cs i (All-tail (AsOne d ws) c.span (map (λ c. c.span) cs) ones) (All-tail (HasState ws) c cs states)
    (λ rest. none (ap (λ b. b || list_any (has n) (map (λ c. c.span) cs)) not ∙ rest)))

snap_by : (b : Bool) (n : ℕ) (ws : List Write) (x : Head) (cs : List KeptClone) (i : ℕ) → nat_lt x.seq n ≡ b → IsHead ws (Some x)
    → (n ≤ greatest ws → byte_in (clone_image n cs) i ≡ byte_of (before n ws) i) → byte_in (cond b x.image (clone_image n cs)) i ≡ byte_of (before n ws) i
snap_by true n ws x cs i is head rest =
    head.2 i ∙ ap (λ xs. byte_of xs i) (sym (before_all n ws (omega (arith, lt_from x.seq n is, head.1))))
snap_by false n ws x cs i is head rest = rest (omega (arith, not_from x.seq n is, head.1))

reads_snap : (n d : ℕ) (ws : List Write) (o : Option Head) (cs : List KeptClone) (i : ℕ) → IsHead ws o → All (AsOne d ws) (map (λ c. c.span) cs)
    → All (HasState ws) cs → (n ≤ greatest ws → list_any (has n) (map (λ c. c.span) cs) ≡ false → before n ws ≡ [])
    → byte_in (snap_image n o cs) i ≡ byte_of (before n ws) i
reads_snap n d ws None cs i none ones states covered = ap (λ xs. byte_of (before n xs) i) (sym none)
reads_snap n d ws (Some x) cs i head ones states covered =
    snap_by (nat_lt x.seq n) n ws x cs i refl head (λ least. reads_clone n d ws cs i ones states (covered least))

-- the bytes of a state that stands
pub reads_state : (a : At) (b i : ℕ) (h : List Step) (s : StoreState) → StandsFor h s → status_of s.numbers a ≡ Standing
    → byte_in (image_at a (object_at s.objects b)) i ≡ object_byte a b h i
reads_state at.Head b i h s stands is = reads_head (writes b h) (object_at s.objects b).head i (stands.objects b).head
reads_state (at.Snap n) b i h s stands is =
    let o = object_at s.objects b in
    let holds : Holds (writes b h) (kept b h) o = stands.objects b in
    let back : kept b h ≡ map (λ c. c.span) o.clones = sym holds.clones in
    let standing : is_standing (status h n) ≡ true = ap is_standing (sym (stands.statuses n) ∙ is) in
    reads_snap n (drawn h) (writes b h) o.head o.clones i holds.head (subst (All (AsOne (drawn h) (writes b h))) back (kept_as_one b h)) holds.bytes
    (λ least none. covers b n h standing least (ap (list_any (has n)) back ∙ none))
