use Rattle.std.proofs.Common.{◌≡◌, ◌+◌, ◌<◌, ◌∙◌, ap, refl, length, slice_index, length-append, arith}
use Rattle.std.proofs.lemmas.List.{map-append}
use Rattle.std.specs.Map.{values_of}
use Rattle.cs_refs.proofs.Entries.{insert_entry-undrawn, each-begun}
use Rattle.cs_refs.proofs.table.Refs.begin.Goals as goal

pub invariant_of-self-2 : goal.invariant_of-self-2
invariant_of-self-2 c =
    let number : c.after-number.result ≡ slice_index c.self.inside.begun c.args.caller + 1 =
    rw (← c.get-index.ensures.value) c.after-number.ensures in
    let above : slice_index c.self.inside.begun c.args.caller < c.after-number.result = omega arith in
    let inside : c.args.caller < length c.self.inside.begun = omega (arith, c.get-index.ensures.value, c.get-index.ensures.range) in
    let entries = c.in_ok-insert.ensures.entries ∙ insert_entry-undrawn _ c.self.inside.live _ _ c.self.invariant.each above in
    rw (c.get-index.ensures.value, c.get.ensures.value) (record {
      each = rw entries (each-begun _ _ _ refl refl inside above _ c.self.invariant.each);
      few = rw entries (rw length-append (omega (arith, c.len.ensures.len, c.if-len-ge-MOST_LIVE.false)));
    })

pub returns-clause-live : goal.returns-clause-live
returns-clause-live c =
    let number : c.after-number.result ≡ slice_index c.self.inside.begun c.args.caller + 1 =
    rw (← c.get-index.ensures.value) c.after-number.ensures in
    let above : slice_index c.self.inside.begun c.args.caller < c.after-number.result = omega arith in
    let entries = c.in_ok-insert.ensures.entries ∙ insert_entry-undrawn _ c.self.inside.live _ _ c.self.invariant.each above in
    rw (← c.self.view_is) (ap values_of entries ∙ map-append _ c.self.inside.live.entries _)
