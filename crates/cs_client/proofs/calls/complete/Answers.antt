use Rattle.std.proofs.Common.{rules, sym, ap}
use Rattle.cs_caps.specs.Client.{completed}
use Rattle.cs_inode.specs.Inodes.{FileInode}
use Rattle.cs_client.specs.Views.{Files}
use Rattle.cs_client.proofs.Likes.{like_caps}
use Rattle.cs_client.proofs.Puts.{Puts, put_places, put_tables}
use Rattle.cs_client.proofs.Steps.{done_rows}
use Rattle.cs_client.proofs.calls.complete.Goals as goal

pub returns-clause-rows : goal.returns-clause-rows
returns-clause-rows c =
    let r = c.in_ok-row.row.now in
    let i = c.check.new.self in
    let new : Files = c.get_mut.follows.lender (record r { inode = i }) in
    let put : Puts c.args.files.now new c.args.file r i = record { had = sym c.in_ok-row.ensures.value; rows = λ g. search rules } in
    done_rows c.args.files.now new c.args.file r i c.check.result put c.check.ensures.after

pub returns-clause-tables : goal.returns-clause-tables
returns-clause-tables c =
    let r = c.in_ok-row.row.now in
    let i = c.check.new.self in
    let new : Files = c.get_mut.follows.lender (record r { inode = i }) in
    let put : Puts c.args.files.now new c.args.file r i = record { had = sym c.in_ok-row.ensures.value; rows = λ g. search rules } in
    put_tables c.args.files.now new c.args.file r i put (like_caps r.inode i (completed r.inode.caps c.check.result) c.check.ensures.after)

pub returns-clause-places : goal.returns-clause-places
returns-clause-places c =
    let r = c.in_ok-row.row.now in
    let i = c.check.new.self in
    let new : Files = c.get_mut.follows.lender (record r { inode = i }) in
    let put : Puts c.args.files.now new c.args.file r i = record { had = sym c.in_ok-row.ensures.value; rows = λ g. search rules } in
    put_places c.args.files.now new c.args.file r i put (ap (λ (k : FileInode). k.context) c.check.ensures.after)
