use Rattle.std.proofs.Common.{rules, sym}
use Rattle.cs_client.specs.Views.{Files, SameRows}
use Rattle.cs_client.proofs.Puts.{Puts, put_places, put_same, same_places}
use Rattle.cs_client.proofs.Steps.{context_flushed, flush_rows}
use Rattle.cs_client.proofs.flushes.start_flush.Goals as goal

pub flush-requires : goal.flush-requires
flush-requires c = c.requires c.args.file c.in-Some.row.now (sym c.in-Some.ensures.value)

pub returns-in_err-flush-clause-places : goal.returns-in_err-flush-clause-places
returns-in_err-flush-clause-places c =
    let r = c.in-Some.row.now in
    let i = c.flush.new.self in
    let new : Files = c.get_mut.follows.lender (record r { inode = i }) in
    let put : Puts c.args.files.now new c.args.file r i = record { had = sym c.in-Some.ensures.value; rows = λ g. search rules } in
    same_places c.args.files.now new (put_same c.args.files.now new c.args.file r i put c.in_err-flush.ensures.err)

pub returns-in_err-flush-clause-err : goal.returns-in_err-flush-clause-err
returns-in_err-flush-clause-err c =
    let r = c.in-Some.row.now in
    let i = c.flush.new.self in
    let new : Files = c.get_mut.follows.lender (record r { inode = i }) in
    let put : Puts c.args.files.now new c.args.file r i = record { had = sym c.in-Some.ensures.value; rows = λ g. search rules } in
    let same : SameRows c.args.files.now new = put_same c.args.files.now new c.args.file r i put c.in_err-flush.ensures.err in
    search rules

pub returns-clause-rows : goal.returns-clause-rows
returns-clause-rows c =
    let r = c.in-Some.row.now in
    let i = c.flush.new.self in
    let new : Files = c.get_mut.follows.lender (record r { inode = i }) in
    let put : Puts c.args.files.now new c.args.file r i = record { had = sym c.in-Some.ensures.value; rows = λ g. search rules } in
    flush_rows c.args.files.now new c.args.file r i c.args.tid c.in_ok-flush.field-0 c.in_ok-flush.ensures.answer put c.in_ok-flush.ensures.after

pub returns-clause-places : goal.returns-clause-places
returns-clause-places c =
    let r = c.in-Some.row.now in
    let i = c.flush.new.self in
    let new : Files = c.get_mut.follows.lender (record r { inode = i }) in
    let put : Puts c.args.files.now new c.args.file r i = record { had = sym c.in-Some.ensures.value; rows = λ g. search rules } in
    put_places c.args.files.now new c.args.file r i put (context_flushed c.args.tid r.inode i c.in_ok-flush.ensures.after)
