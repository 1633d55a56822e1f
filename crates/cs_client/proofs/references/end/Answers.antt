use Rattle.std.proofs.Common.{rules, ◌≡◌, ◌∙◌, sym, ap, false, Some, slice_index, subst}
use Rattle.cs_laws.specs.declared.events.RefName.TheVariants as names
use Rattle.cs_laws.specs.References.{named}
use Rattle.cs_parts.specs.References.{has_ref, ref_named, without_ref}
use Rattle.cs_client.specs.Views.{AreTables, Files}
use Rattle.cs_client.proofs.Counts.{ended_lives, ended_other, ends_counted, named_kept, never_absent, stopped_context, stopped_row, without_absent}
use Rattle.cs_client.proofs.Puts.{Puts, put_places, put_rows}
use Rattle.cs_client.proofs.references.end.Goals as goal

pub returns-in_default-end-clause-refs : goal.returns-in_default-end-clause-refs
returns-in_default-end-clause-refs c =
    let absent : has_ref c.args.caller c.in-Own.number c.args.refs.now.live ≡ false = sym c.in_default-end.ensures.lived in
    record {
      live = c.end.ensures.live ∙ without_absent c.args.caller c.in-Own.number c.args.refs.now.live absent;
      begun = λ d. ap (λ ns. slice_index ns d) c.end.ensures.begun;
    }

pub returns-in_default-end-clause-tables : goal.returns-in_default-end-clause-tables
returns-in_default-end-clause-tables c = λ sent t.
    let absent : has_ref c.args.caller c.in-Own.number c.args.refs.now.live ≡ false = sym c.in_default-end.ensures.lived in
    let same : c.end.new.self.live ≡ c.args.refs.now.live = c.end.ensures.live ∙ without_absent c.args.caller c.in-Own.number c.args.refs.now.live absent in
    subst (λ rs. AreTables c.args.files.now rs sent) (sym same) t

pub unreachable-requires : goal.unreachable-requires
unreachable-requires c =
    let r = c.in-Some.ended in
    let found : named c.args.caller (names.Own c.in-Own.number) c.args.refs.now.live ≡ Some r = sym c.in-Some.ensures.ended in
    let kept = named_kept c.args.files.now c.args.caller (names.Own c.in-Own.number) r c.args.refs.now.live c.requires.tables found in
    never_absent c.args.files.now r.file kept (sym c.in_default-get_mut.ensures.value)

pub stop-requires : goal.stop-requires
stop-requires c may =
    let r = c.in-Some.ended in
    let x = c.in-Some-get_mut.row.now in
    let found : ref_named c.args.caller c.in-Own.number c.args.refs.now.live ≡ Some r = sym c.in-Some.ensures.ended in
    let row = c.requires.tables.1.rows r.file x (sym c.in-Some-get_mut.ensures.value) in
    ends_counted c.args.refs.now.live c.args.caller c.in-Own.number r c.requires.tables.0 x.inode found row may

pub returns-clause-tables : goal.returns-clause-tables
returns-clause-tables c = λ sent t.
    let old = c.args.files.now in
    let rs = c.args.refs.now.live in
    let n = c.in-Own.number in
    let r = c.in-Some.ended in
    let x = c.in-Some-get_mut.row.now in
    let i = c.stop.new.inode in
    let new : Files = c.get_mut.follows.lender (record x { inode = i }) in
    let put : Puts old new r.file x i = record { had = sym c.in-Some-get_mut.ensures.value; rows = λ g. search rules } in
    let found : ref_named c.args.caller n rs ≡ Some r = sym c.in-Some.ensures.ended in
    let now : AreTables new (without_ref c.args.caller n rs) sent =
    put_rows old new r.file x i rs (without_ref c.args.caller n rs) sent sent put t
    (λ row. rw c.stop.ensures (stopped_row rs c.args.caller n r sent x.inode found row))
    (λ f j other row. ended_other rs c.args.caller n r sent f j found other row)
    (ended_lives old rs c.args.caller n t.lives) in
    subst (λ qs. AreTables new qs sent) (sym c.end.ensures.live) now

pub returns-clause-places : goal.returns-clause-places
returns-clause-places c =
    let x = c.in-Some-get_mut.row.now in
    let i = c.stop.new.inode in
    let new : Files = c.get_mut.follows.lender (record x { inode = i }) in
    let put : Puts c.args.files.now new c.in-Some.ended.file x i = record { had = sym c.in-Some-get_mut.ensures.value; rows = λ g. search rules } in
    put_places c.args.files.now new c.in-Some.ended.file x i put (stopped_context c.in-Some.ended.bits x.inode i c.stop.ensures)
