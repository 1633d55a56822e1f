-- The operations of a write's pieces bring its bytes to their objects.
use Rattle.std.proofs.Common.{◌≡◌, refl, sym, ap, ◌∙◌, ℕ, ◌+◌, ◌-◌, ◌*◌, ◌<◌, ◌≤◌, ◌==◌, All, length, take, drop, reverse, List, [], ◌∷◌, ◌++◌, append_assoc, arith, ⊎_elim}
use Rattle.std.proofs.Math.ListN.{drop_of_length-le}
use Rattle.std.proofs.lemmas.Bool.{cond_both, and_from, and_parts, both_ways, eq-eqb, eqb-true, cases_lt}
use Rattle.std.proofs.lemmas.List.{drop-drop, length-take, reverse-append}
use Rattle.std.proofs.lemmas.List.Elements.{All-head, All-tail}
use Rattle.cs_geom.specs.declared.places.Piece.{Piece}
use Rattle.cs_geom.specs.declared.places.TheConstants.{OBJECT_SIZE}
use Rattle.cs_geom.specs.Cuts.{CoversOnce, CutsRange, LiesInOne, part_of, pieces_of}
use Rattle.cs_geom.specs.Places.{HasPlaces, offset_of, end_of}
use Rattle.cs_geom.proofs.Cutting.{pieces_of-cuts}
use Rattle.cs_ids.specs.declared.objects.Obj.{Obj}
use Rattle.cs_snapctx.specs.Context.{Context}
use Rattle.cs_laws.specs.declared.objects.ObjOp.{ObjOp}
use Rattle.cs_laws.specs.Image.{byte_over}
use Rattle.cs_laws.specs.Objects.{byte_of, object, same_object}
use Rattle.cs_laws.specs.Operations.{operation, operations}
use Rattle.cs_theorems.proofs.Overlays.{over_before, over_behind, over_cut, over_moved, over_none}

pub object_append : (obj : Obj) (xs ys : List ObjOp) → object obj (xs ++ ys) ≡ object obj xs ++ object obj ys
object_append obj [] ys = refl
object_append obj (x ∷ xs) ys =
    cond_both (same_object x.obj obj) (x ∷ object obj (xs ++ ys)) (object obj (xs ++ ys))
    (λ zs. zs ≡ object obj (x ∷ xs) ++ object obj ys)
    (λ same. rw same (ap (λ zs. x ∷ zs) (object_append obj xs ys)))
    (λ other. rw other (object_append obj xs ys))

-- the object of a file
abbrev object_at : ℕ → ℕ → Obj
object_at f p = record { ino = f; index = p }

-- a piece that lies on another object doesn't reach the place
reaches_none : (p j : ℕ) (x : Piece) (bytes : List ℕ) (below : ℕ) → j < OBJECT_SIZE → HasPlaces x → LiesInOne OBJECT_SIZE x → (x.index ≡ p → ⊥)
    → length bytes ≤ x.len → byte_over (offset_of x) bytes (OBJECT_SIZE * p + j) below ≡ below
reaches_none p j x bytes below small places (k, low, high) other few =
    ⊎_elim
    (λ early. over_before (offset_of x) bytes (OBJECT_SIZE * p + j) below (omega (arith, places.same_offset, places.in_object)))
    (λ late. over_behind (offset_of x) bytes (OBJECT_SIZE * p + j) below (omega (arith, places.same_offset, places.in_object)))
    (cases_lt p x.index)

-- the operation of one piece
one_piece : (tid f off : ℕ) (bytes : List ℕ) (ctx : Context) (p j : ℕ) (x : Piece) (os : List ObjOp) → j < OBJECT_SIZE → HasPlaces x
    → LiesInOne OBJECT_SIZE x
    → byte_of (object (object_at f p) (operation tid f off bytes ctx x ∷ []) ++ os) j
    ≡ byte_over (offset_of x) (part_of off bytes x) (OBJECT_SIZE * p + j) (byte_of os j)
one_piece tid f off bytes ctx p j x os small places within =
    let o : ObjOp = operation tid f off bytes ctx x in
    cond_both (same_object o.obj (object_at f p)) (o ∷ []) [] (λ zs. byte_of (zs ++ os) j ≡ byte_over (offset_of x) (part_of off bytes x) (OBJECT_SIZE * p + j) (byte_of os j))
    (λ same.
    let index : x.index ≡ p = eqb-true x.index p (and_parts (f == f) (x.index == p) same).1 in
    sym (over_moved x.obj_off (OBJECT_SIZE * p) (part_of off bytes x) j (byte_of os j))
    ∙ (ap (λ k. byte_over k (part_of off bytes x) (j + OBJECT_SIZE * p) (byte_of os j)) (omega (arith, places.same_offset, index))
    ∙ ap (λ k. byte_over (offset_of x) (part_of off bytes x) k (byte_of os j)) (omega arith)))
    (λ differs.
    let other : x.index ≡ p → ⊥ = λ same. absurd (both_ways (same_object o.obj (object_at f p)) differs
    (and_from (f == f) (x.index == p) (eq-eqb f f refl) (eq-eqb x.index p same))) in
    sym (reaches_none p j x (part_of off bytes x) (byte_of os j) small places within other (omega (arith, length-take x.len (drop (offset_of x - off) bytes)))))

-- the operations of pieces that cover the bytes from `low` on
all_pieces : (tid f off : ℕ) (bytes : List ℕ) (ctx : Context) (p j low : ℕ) (xs : List Piece) (os : List ObjOp) → j < OBJECT_SIZE → off ≤ low
    → CoversOnce low (off + length bytes) xs → All HasPlaces xs → All (LiesInOne OBJECT_SIZE) xs
    → byte_of (object (object_at f p) (reverse (operations tid f off bytes ctx xs)) ++ os) j
    ≡ byte_over low (drop (low - off) bytes) (OBJECT_SIZE * p + j) (byte_of os j)
all_pieces tid f off bytes ctx p j low [] os small after covers places within =
    sym (ap (λ bs. byte_over low bs (OBJECT_SIZE * p + j) (byte_of os j)) (drop_of_length-le bytes (omega (arith, covers)))
    ∙ over_none low (OBJECT_SIZE * p + j) (byte_of os j))
all_pieces tid f off bytes ctx p j low (x ∷ xs) os small after covers places within =
    let i : ℕ = OBJECT_SIZE * p + j in
    let first : List ObjOp = operation tid f off bytes ctx x ∷ [] in
    let rest : List ObjOp = operations (tid + 1) f off bytes ctx xs in
    let begins : offset_of x ≡ low = covers.0 in
    let skipped : List ℕ = drop (low - off) bytes in
    let split : object (object_at f p) (reverse (operations tid f off bytes ctx (x ∷ xs))) ++ os
    ≡ object (object_at f p) (reverse rest) ++ (object (object_at f p) first ++ os)
    = ap (λ zs. object (object_at f p) zs ++ os) (reverse-append first rest)
    ∙ (ap (λ zs. zs ++ os) (object_append (object_at f p) (reverse rest) first)
    ∙ append_assoc (object (object_at f p) (reverse rest)) (object (object_at f p) first) os) in
    let others = all_pieces (tid + 1) f off bytes ctx p j (end_of x) xs (object (object_at f p) first ++ os) small (omega (arith, begins)) covers.1
    (All-tail HasPlaces x xs places) (All-tail (LiesInOne OBJECT_SIZE) x xs within) in
    let here = one_piece tid f off bytes ctx p j x os small (All-head HasPlaces x xs places) (All-head (LiesInOne OBJECT_SIZE) x xs within) in
    let part : part_of off bytes x ≡ take x.len skipped = ap (λ n. take x.len (drop (n - off) bytes)) begins in
    let behind : drop (end_of x - off) bytes ≡ drop x.len skipped
    = ap (λ n. drop n bytes) (omega (arith, begins, after)) ∙ sym (drop-drop x.len (low - off) bytes) in
    ap (λ zs. byte_of zs j) split ∙ (others
    ∙ (ap (λ b. byte_over (end_of x) (drop (end_of x - off) bytes) i b) here
    ∙ (ap (λ bs. byte_over (end_of x) bs i (byte_over (offset_of x) (part_of off bytes x) i (byte_of os j))) behind
    ∙ (ap (λ bs. byte_over (end_of x) (drop x.len skipped) i (byte_over (offset_of x) bs i (byte_of os j))) part
    ∙ (ap (λ n. byte_over (n + x.len) (drop x.len skipped) i (byte_over n (take x.len skipped) i (byte_of os j))) begins
    ∙ over_cut low x.len skipped i (byte_of os j))))))

-- those of a whole write
pub pieces_over : (tid f off : ℕ) (bytes : List ℕ) (ctx : Context) (p j : ℕ) (os : List ObjOp) → j < OBJECT_SIZE
    → byte_of (object (object_at f p) (reverse (operations tid f off bytes ctx (pieces_of OBJECT_SIZE off (length bytes)))) ++ os) j
    ≡ byte_over off bytes (OBJECT_SIZE * p + j) (byte_of os j)
pieces_over tid f off bytes ctx p j os small =
    let cuts : CutsRange OBJECT_SIZE off (length bytes) (pieces_of OBJECT_SIZE off (length bytes)) = pieces_of-cuts OBJECT_SIZE off (length bytes) (omega arith) in
    let none : off - off ≡ 0 = omega arith in
    all_pieces tid f off bytes ctx p j off (pieces_of OBJECT_SIZE off (length bytes)) os small (omega arith) cuts.covered cuts.placed cuts.within
    ∙ ap (λ n. byte_over off (drop n bytes) (OBJECT_SIZE * p + j) (byte_of os j)) none
