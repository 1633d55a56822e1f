use Rattle.std.proofs.Common.{◌≡◌, ◌∙◌, refl, sym, ap, ◌+◌, ◌∷◌, ◌++◌, length, arith}
use Rattle.cs_geom.specs.declared.places.TheConstants.{OBJECT_SIZE}
use Rattle.cs_geom.specs.Cuts.{CutsRange}
use Rattle.cs_laws.specs.Answers.{bytes_from}
use Rattle.cs_laws.specs.Objects.{object_byte}
use Rattle.cs_objstore.specs.Files.{file_byte}
use Rattle.cs_objstore.proofs.Reading.{AreLeft, all_left, left_fits, left_next, one_more_read, length_bytes}
use Rattle.cs_objstore.proofs.files.read_file.Goals as goal

pub loop-piece-init : goal.loop-piece-init
loop-piece-init g c =
    let same = c.into_iter-piece-iterator.ensures.into_iter_gives in
    let cuts : CutsRange OBJECT_SIZE c.args.off c.args.count c.into_iter-piece-iterator.result =
    rw (same, sym c.from.ensures, sym c.from-2.ensures) c.split_objects-piece-items.ensures.cuts in
    record {
      can = tt;
      finite = tt;
      left = rw c.in_ok-bytes.ensures (all_left c.args.off c.args.count c.into_iter-piece-iterator.result cuts);
      bytes = rw c.in_ok-bytes.ensures refl;
      kept = refl;
      later = omega arith;
    }

pub read_part-requires-after_bounds : goal.read_part-requires-after_bounds
read_part-requires-after_bounds g c κs within =
    let left : AreLeft c.args.off c.args.count (length c.loop-piece.bytes) (c.in-Some.piece ∷ c.next.new.self) =
    rw c.in-Some.ensures.steps at c.loop-piece.invariant.left in
    left_fits c.args.off c.args.count (length c.loop-piece.bytes) c.in-Some.piece c.next.new.self left

pub loop-piece-preserved : goal.loop-piece-preserved
loop-piece-preserved g c =
    let i = c.loop-piece.invariant in
    let p = c.in-Some.piece in
    let got = length c.loop-piece.bytes in
    let left : AreLeft c.args.off c.args.count got (p ∷ c.next.new.self) = rw c.in-Some.ensures.steps at i.left in
    let part : c.as_slice.result.now ≡ bytes_from (object_byte c.args.at (record { ino = c.args.file; index = p.index }) (g.O.ObjStore.ops c.args.store.now)) p.obj_off p.len =
    rw i.kept at (c.as_slice.ensures.value ∙ c.in_ok-part.ensures.bytes) in
    let grown : c.append.new.self ≡ c.loop-piece.bytes ++ c.as_slice.result.now = c.in_ok-append.ensures.ok in
    let bytes : c.append.new.self ≡ bytes_from (file_byte c.args.at c.args.file (g.O.ObjStore.ops c.args.store.now)) c.args.off (got + p.len) =
    grown ∙ one_more_read c.args.at c.args.file c.args.off c.args.count got (g.O.ObjStore.ops c.args.store.now) p c.next.new.self c.loop-piece.bytes c.as_slice.result.now left i.bytes part in
    let long : length c.append.new.self ≡ got + p.len =
    ap length bytes ∙ length_bytes (file_byte c.args.at c.args.file (g.O.ObjStore.ops c.args.store.now)) c.args.off (got + p.len) in
    record {
      can = tt;
      finite = tt;
      left = rw long (left_next c.args.off c.args.count got p c.next.new.self left);
      bytes = rw long bytes;
      kept = c.in_ok-part.ensures.kept ∙ i.kept;
      later = omega (arith, i.later, c.in_ok-part.ensures.faults.later);
    }
