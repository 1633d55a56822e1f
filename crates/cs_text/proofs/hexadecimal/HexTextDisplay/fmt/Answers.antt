use Rattle.std.proofs.Common.{rules, sym, ◌∙◌, ap, [], ◌++◌, append_assoc, append-nil}
use Rattle.std.proofs.Output.{has_written_append, has_written_of_eq}
use Rattle.std.proofs.lemmas.List.{nil_from_length}
use Rattle.cs_text.specs.Hex.{hex_text}
use Rattle.cs_text.proofs.HexPairs.{hex_text-append}
use Rattle.cs_text.proofs.hexadecimal.HexTextDisplay.fmt.Goals as goal

pub loop-piece-init : goal.loop-piece-init
loop-piece-init g c = (search rules, tt, search rules, λ plain. ([], search rules, search rules))

pub loop-piece-preserved : goal.loop-piece-preserved
loop-piece-preserved g c =
    let steps = c.in-Some.ensures.steps in (
      search rules,
      tt,
      steps.0 ∙ c.loop-piece.invariant.2,
      λ plain.
          let so_far = c.loop-piece.invariant.3 plain in (
            so_far.0 ++ c.in-Some.piece.now,
            has_written_of_eq _ _ _ _ _ (sym (hex_text-append so_far.0 c.in-Some.piece.now))
                (has_written_append _ _ _ _ _ _ so_far.1 (search rules)),
            append_assoc so_far.0 _ _ ∙ ap (λ t. so_far.0 ++ t) (sym steps.1.0) ∙ so_far.2,
          ),
    )

pub returns-clause-writes : goal.returns-clause-writes
returns-clause-writes g c = λ plain _.
    let so_far = c.loop-piece.invariant.3 plain in
    let none = nil_from_length _ c.in-None.ensures.steps.1.0 in
    has_written_of_eq _ _ _ _ _ (ap hex_text (rw (none, append-nil) at so_far.2)) so_far.1
