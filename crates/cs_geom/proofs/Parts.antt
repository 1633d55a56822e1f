-- The parts that pieces have of the bytes of their range.
use Rattle.std.proofs.Common.{◌≡◌, ℕ, ◌+◌, ◌-◌, ◌≤◌, List, [], ◌∷◌, ◌++◌, length, take, drop, sym, ◌∙◌, ap, arith}
use Rattle.std.proofs.Math.ListN.{drop_of_length-le}
use Rattle.std.proofs.lemmas.List.{take-append-drop, drop-drop}
use Rattle.std.specs.List.{flat_map}
use Rattle.cs_geom.specs.declared.places.Piece.{Piece}
use Rattle.cs_geom.specs.Places.{offset_of, end_of}
use Rattle.cs_geom.specs.Cuts.{CoversOnce, part_of}

-- the parts of pieces that cover the range from `low` on are its bytes from `low` on
pub flat_map-part_of : (off : ℕ) (bytes : List ℕ) (low : ℕ) (ps : List Piece) → off ≤ low → CoversOnce low (off + length bytes) ps → flat_map (part_of off bytes) ps ≡ drop (low - off) bytes
flat_map-part_of off bytes low [] after covered = sym (drop_of_length-le bytes (omega arith))
flat_map-part_of off bytes low (p ∷ ps) after covered =
    let begins : offset_of p - off ≡ low - off = omega (arith, covered.0) in
    let ends : end_of p - off ≡ low - off + p.len = omega (arith, covered.0) in
    let first : part_of off bytes p ≡ take p.len (drop (low - off) bytes) = ap (λ n. take p.len (drop n bytes)) begins in
    let others : flat_map (part_of off bytes) ps ≡ drop p.len (drop (low - off) bytes) =
    flat_map-part_of off bytes (end_of p) ps (omega (arith, covered.0)) covered.1 ∙ ap (λ n. drop n bytes) ends ∙ sym (drop-drop p.len (low - off) bytes)
    in ap (λ front. front ++ flat_map (part_of off bytes) ps) first ∙ ap (λ rest. take p.len (drop (low - off) bytes) ++ rest) others ∙ take-append-drop p.len (drop (low - off) bytes)
