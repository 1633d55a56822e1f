-- The pieces of a write, and their operations.
use Rattle.std.proofs.Common.{◌≡◌, refl, sym, ap, ℕ, zero, suc, ◌+◌, ◌-◌, drop, ◌≤◌, true, ◌&&◌, nat_le, List, [], ◌∷◌, ◌++◌, Some, length, slice_get, All, arith}
use Rattle.std.proofs.lemmas.List.{length-take}
use Rattle.std.proofs.lemmas.List.Elements.{All-nil, All-cons, All-head, All-tail}
use Rattle.std.proofs.lemmas.Bool.{and_parts}
use Rattle.std.proofs.lemmas.Bool.Decides.{nat_tests}
use Rattle.cs_geom.specs.declared.places.Piece.{Piece}
use Rattle.cs_geom.specs.declared.places.TheConstants.{OBJECT_SIZE}
use Rattle.cs_geom.specs.Places.{offset_of, end_of, HasPlaces}
use Rattle.cs_geom.specs.Cuts.{CoversOnce, LiesInOne, CutsRange, part_of, pieces_of}
use Rattle.cs_geom.proofs.Cutting.{length-pieces_of, pieces_of-cuts}
use Rattle.cs_snapctx.specs.Context.{Context}
use Rattle.cs_laws.specs.declared.objects.ObjOp.{ObjOp}
use Rattle.cs_laws.specs.Fits.{is_write, most_written, greatest_end}
use Rattle.cs_laws.specs.Operations.{operation, operations}

-- the piece lies in the range, and in its object
pub record IsPieceOf (off len : ℕ) (p : Piece) : Type 0 where
  pub from : off ≤ offset_of p
  pub to : end_of p ≤ off + len
  pub object : p.obj_off + p.len ≤ 65536

covers_up : (low high : ℕ) (ps : List Piece) → CoversOnce low high ps → low ≤ high
covers_up low high [] c = omega (arith, c)
covers_up low high (p ∷ ps) c = omega (arith, c.0, covers_up (end_of p) high ps c.1)

-- a piece in one object ends where the object does, or before
in_object : (p : Piece) → HasPlaces p → LiesInOne OBJECT_SIZE p → p.obj_off + p.len ≤ 65536
in_object p placed within = omega (arith, placed.in_object, placed.same_offset, within.1, within.2)

each_piece : (off len low : ℕ) (ps : List Piece) → off ≤ low → CoversOnce low (off + len) ps → All HasPlaces ps → All (LiesInOne OBJECT_SIZE) ps
    → All (IsPieceOf off len) ps
each_piece off len low [] above c placed within = All-nil (IsPieceOf off len)
each_piece off len low (p ∷ ps) above c placed within =
    All-cons (IsPieceOf off len) p ps
    (record {
      from = omega (arith, c.0);
      to = covers_up (end_of p) (off + len) ps c.1;
      object = in_object p (All-head HasPlaces p ps placed) (All-head (LiesInOne OBJECT_SIZE) p ps within);
    })
    (each_piece off len (end_of p) ps (omega (arith, c.0)) c.1 (All-tail HasPlaces p ps placed) (All-tail (LiesInOne OBJECT_SIZE) p ps within))

pub all_pieces : (off len : ℕ) (ps : List Piece) → CutsRange OBJECT_SIZE off len ps → All (IsPieceOf off len) ps
all_pieces off len ps cuts = each_piece off len off ps (omega arith) cuts.covered cuts.placed cuts.within

pub first_piece : (off len : ℕ) (p : Piece) (rest all : List Piece) → all ≡ p ∷ rest → All (IsPieceOf off len) all → IsPieceOf off len p
first_piece off len p rest all is each = All-head (IsPieceOf off len) p rest (rw is at each)

-- the operations of pieces, and of those behind them
pub operations_append : (tid f off : ℕ) (bytes : List ℕ) (ctx : Context) (ps qs : List Piece)
    → operations tid f off bytes ctx (ps ++ qs) ≡ operations tid f off bytes ctx ps ++ operations (tid + length ps) f off bytes ctx qs
operations_append tid f off bytes ctx [] qs =
    let same : tid + length {A = Piece} [] ≡ tid = omega arith in
    rw same refl
operations_append tid f off bytes ctx (p ∷ ps) qs =
    let same : tid + length (p ∷ ps) ≡ (tid + 1) + length ps = omega arith in
    rw same (ap (λ os. operation tid f off bytes ctx p ∷ os) (operations_append (tid + 1) f off bytes ctx ps qs))

-- a write has fewer bytes than an object
pub write_small : (off : ℕ) (bytes : List ℕ) → is_write off bytes ≡ true → length bytes ≤ OBJECT_SIZE
write_small off bytes fit =
    let parts = and_parts (nat_le 1 (length bytes) && nat_le (length bytes) most_written) (nat_le (off + length bytes) greatest_end) fit in
    let small = and_parts (nat_le 1 (length bytes)) (nat_le (length bytes) most_written) parts.0 in
    grind (arith, nat_tests, small.1)

-- one piece more
pub one_more : (tid f off : ℕ) (bytes : List ℕ) (ctx : Context) (done : List Piece) (p : Piece) (n : ℕ) (op : ObjOp) (before after : List ObjOp)
    → n ≡ tid + length done → op ≡ operation n f off bytes ctx p → before ≡ operations tid f off bytes ctx done → after ≡ before ++ op ∷ []
    → after ≡ operations tid f off bytes ctx (done ++ p ∷ [])
one_more tid f off bytes ctx done p n op before after number is made grown =
    rw (grown, is, made, number) (sym (operations_append tid f off bytes ctx done (p ∷ [])))

-- the bytes of an operation of a piece of the range fit into its object
piece_fits : (off : ℕ) (bytes : List ℕ) (p : Piece) → IsPieceOf off (length bytes) p → p.obj_off + length (part_of off bytes p) ≤ 65536
piece_fits off bytes p is = omega (arith, is.object, length-take p.len (drop (offset_of p - off) bytes))

each_fits : (tid f off : ℕ) (bytes : List ℕ) (ctx : Context) (ps : List Piece) → All (IsPieceOf off (length bytes)) ps
    → All (λ op. op.off + length op.bytes ≤ 65536) (operations tid f off bytes ctx ps)
each_fits tid f off bytes ctx [] is = All-nil (λ (op : ObjOp). op.off + length op.bytes ≤ 65536)
each_fits tid f off bytes ctx (p ∷ ps) is =
    All-cons (λ op. op.off + length op.bytes ≤ 65536) (operation tid f off bytes ctx p) (operations (tid + 1) f off bytes ctx ps)
    (piece_fits off bytes p (All-head (IsPieceOf off (length bytes)) p ps is))
    (each_fits (tid + 1) f off bytes ctx ps (All-tail (IsPieceOf off (length bytes)) p ps is))

-- the operations of a write fit into their objects
pub operations_fit : (tid f off : ℕ) (bytes : List ℕ) (ctx : Context)
    → All (λ op. op.off + length op.bytes ≤ 65536) (operations tid f off bytes ctx (pieces_of OBJECT_SIZE off (length bytes)))
operations_fit tid f off bytes ctx =
    each_fits tid f off bytes ctx (pieces_of OBJECT_SIZE off (length bytes))
    (all_pieces off (length bytes) (pieces_of OBJECT_SIZE off (length bytes)) (pieces_of-cuts OBJECT_SIZE off (length bytes) (omega arith)))

-- there is one for each piece
pub length_operations : (tid f off : ℕ) (bytes : List ℕ) (ctx : Context) (ps : List Piece) → length (operations tid f off bytes ctx ps) ≡ length ps
length_operations tid f off bytes ctx [] = refl
length_operations tid f off bytes ctx (p ∷ ps) = ap suc (length_operations (tid + 1) f off bytes ctx ps)

pub few_operations : (tid f off : ℕ) (bytes : List ℕ) (ctx : Context) → is_write off bytes ≡ true
    → length (operations tid f off bytes ctx (pieces_of OBJECT_SIZE off (length bytes))) ≤ 2
few_operations tid f off bytes ctx fit =
    omega (
      arith,
      length_operations tid f off bytes ctx (pieces_of OBJECT_SIZE off (length bytes)),
      length-pieces_of OBJECT_SIZE off (length bytes) (omega arith) (write_small off bytes fit),
    )

-- with the numbers from the first on
pub numbered : (tid f off : ℕ) (bytes : List ℕ) (ctx : Context) (ps : List Piece) (k : ℕ) (op : ObjOp)
    → slice_get (operations tid f off bytes ctx ps) k ≡ Some op → op.tid ≡ tid + k
numbered tid f off bytes ctx [] k op e = absurd cc
numbered tid f off bytes ctx (p ∷ ps) zero op e =
    let is : operation tid f off bytes ctx p ≡ op = cc in
    omega (arith, ap (λ (o : ObjOp). o.tid) is)
numbered tid f off bytes ctx (p ∷ ps) (suc k) op e = omega (arith, numbered (tid + 1) f off bytes ctx ps k op e)
