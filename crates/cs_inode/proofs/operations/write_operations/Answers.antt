use Rattle.std.proofs.Common.{◌≡◌, ◌∙◌, sym, ap, ◌+◌, ◌≤◌, [], ◌∷◌, ◌++◌, length, arith, append_assoc, All}
use Rattle.std.proofs.lemmas.List.{append-nil, length-append}
use Rattle.std.proofs.lemmas.List.Elements.{All-tail}
use Rattle.cs_geom.specs.declared.places.TheConstants.{OBJECT_SIZE}
use Rattle.cs_geom.specs.Cuts.{CutsRange, pieces_of}
use Rattle.cs_geom.proofs.Cutting.{pieces_of-only}
use Rattle.cs_inode.proofs.Pieces.{IsPieceOf, all_pieces, first_piece, one_more, write_small}
use Rattle.cs_inode.proofs.operations.write_operations.Goals as goal

pub loop-piece-init : goal.loop-piece-init
loop-piece-init c =
    let same = c.into_iter-piece-iterator.ensures.into_iter_gives in
    let split = c.split_objects-piece-items.ensures in
    let cuts : CutsRange OBJECT_SIZE c.args.off (length c.args.bytes.now) c.into_iter-piece-iterator.result = rw (same, sym c.from.ensures) split.cuts in
    let few : length c.into_iter-piece-iterator.result ≤ 2 = rw same (split.at_most_two (write_small c.args.off c.args.bytes.now c.requires.fits)) in
    record {
      can = tt;
      finite = tt;
      whole = sym (pieces_of-only OBJECT_SIZE c.args.off (length c.args.bytes.now) c.into_iter-piece-iterator.result cuts);
      pieces = all_pieces c.args.off (length c.args.bytes.now) c.into_iter-piece-iterator.result cuts;
      some = omega (arith, c.get-number.ensures.range, c.get-number.ensures.value);
      number = omega (arith, c.get-number.ensures.value);
      few = omega (arith, few);
      made = c.new-ops.ensures;
    }

pub operation-requires-clause-number : goal.operation-requires-clause-number
operation-requires-clause-number c =
    let i = c.loop-piece.invariant in
    (omega (arith, i.some, i.number), omega (arith, i.number, i.few, ap length c.in-Some.ensures.steps, c.requires.number))

pub operation-requires-clause-from : goal.operation-requires-clause-from
operation-requires-clause-from c =
    let all = c.loop-piece.piece-iterator in
    (first_piece c.args.off (length c.args.bytes.now) c.in-Some.piece c.next.new.self all c.in-Some.ensures.steps c.loop-piece.invariant.pieces).from

pub operation-requires-clause-to : goal.operation-requires-clause-to
operation-requires-clause-to c =
    let all = c.loop-piece.piece-iterator in
    (first_piece c.args.off (length c.args.bytes.now) c.in-Some.piece c.next.new.self all c.in-Some.ensures.steps c.loop-piece.invariant.pieces).to

pub loop-piece-preserved : goal.loop-piece-preserved
loop-piece-preserved c =
    let i = c.loop-piece.invariant in
    let p = c.in-Some.piece in
    let done = c.loop-piece.yielded in
    let rest = c.next.new.self in
    let steps : c.loop-piece.piece-iterator ≡ p ∷ rest = c.in-Some.ensures.steps in
    let pieces : All (IsPieceOf c.args.off (length c.args.bytes.now)) (p ∷ rest) = rw steps at i.pieces in
    let long : length (done ++ p ∷ []) ≡ length done + 1 = length-append done (p ∷ []) in
    record {
      can = tt;
      finite = tt;
      whole = i.whole ∙ (ap (λ ps. done ++ ps) steps ∙ sym (append_assoc done (p ∷ []) rest));
      pieces = All-tail (IsPieceOf c.args.off (length c.args.bytes.now)) p rest pieces;
      some = i.some;
      number = omega (arith, i.number, long);
      few = omega (arith, i.few, long, ap length steps);
      made =
          one_more c.args.tid c.args.file c.args.off c.args.bytes.now c.args.context.now done p c.loop-piece.number c.in_ok-operation.field-0
          c.loop-piece.ops c.push.new.self i.number c.in_ok-operation.ensures i.made c.in_ok-push.ensures.ok;
    }

pub returns : goal.returns
returns c =
    let i = c.loop-piece.invariant in
    let all : pieces_of OBJECT_SIZE c.args.off (length c.args.bytes.now) ≡ c.loop-piece.yielded =
    i.whole ∙ (ap (λ ps. c.loop-piece.yielded ++ ps) c.in-None.ensures.steps.0 ∙ append-nil c.loop-piece.yielded) in
    rw all i.made
