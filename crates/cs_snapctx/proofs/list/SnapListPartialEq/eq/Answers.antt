use Rattle.std.proofs.lemmas.Bool.Decides.{Decides-eqb}
use Rattle.std.proofs.lemmas.Slice.Eq.{slice_eq-Decides}
use Rattle.cs_snapctx.proofs.list.SnapListPartialEq.eq.Goals as goal

-- `==` of slices of numbers tells whether they are the same list
pub returns-clause-equal : goal.returns-clause-equal
returns-clause-equal c =
    rw (c.as_slice.ensures, c.as_slice-2.ensures) at (slice_eq-Decides Decides-eqb c.as_slice.result.now c.as_slice-2.result.now c.eq.result c.eq.ensures)
