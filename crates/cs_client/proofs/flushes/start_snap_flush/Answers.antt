use Rattle.std.proofs.Common.{rules, sym}
use Rattle.cs_client.specs.Views.{Files}
use Rattle.cs_client.proofs.Puts.{Puts, put_places}
use Rattle.cs_client.proofs.Steps.{context_snap_flushed, snap_rows}
use Rattle.cs_client.proofs.flushes.start_snap_flush.Goals as goal

pub flush_snaps-requires : goal.flush_snaps-requires
flush_snaps-requires c = c.requires c.args.file c.in_ok-row.row.now (sym c.in_ok-row.ensures.value)

pub returns-clause-rows : goal.returns-clause-rows
returns-clause-rows c =
    let r = c.in_ok-row.row.now in
    let i = c.flush_snaps.new.self in
    let new : Files = c.get_mut.follows.lender (record r { inode = i }) in
    let put : Puts c.args.files.now new c.args.file r i = record { had = sym c.in_ok-row.ensures.value; rows = λ g. search rules } in
    snap_rows c.args.files.now new c.args.file r i c.args.tid c.flush_snaps.result c.flush_snaps.ensures.answer put c.flush_snaps.ensures.after

pub returns-clause-places : goal.returns-clause-places
returns-clause-places c =
    let r = c.in_ok-row.row.now in
    let i = c.flush_snaps.new.self in
    let new : Files = c.get_mut.follows.lender (record r { inode = i }) in
    let put : Puts c.args.files.now new c.args.file r i = record { had = sym c.in_ok-row.ensures.value; rows = λ g. search rules } in
    put_places c.args.files.now new c.args.file r i put (context_snap_flushed c.args.tid r.inode i c.flush_snaps.ensures.after)
