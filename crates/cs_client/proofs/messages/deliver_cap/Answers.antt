use Rattle.std.proofs.Common.{rules, sym, ap}
use Rattle.cs_inode.specs.Inodes.{FileInode}
use Rattle.cs_parts.specs.Capabilities.{delivered}
use Rattle.cs_client.specs.Views.{Files}
use Rattle.cs_client.proofs.Likes.{like_caps}
use Rattle.cs_client.proofs.Puts.{Puts, put_places, put_tables}
use Rattle.cs_client.proofs.messages.deliver_cap.Goals as goal

pub returns-clause-tables : goal.returns-clause-tables
returns-clause-tables c =
    let r = c.in-Some.row.now in
    let i = c.deliver_cap.new.self in
    let new : Files = c.get_mut.follows.lender (record r { inode = i }) in
    let put : Puts c.args.files.now new c.args.file r i = record { had = sym c.in-Some.ensures.value; rows = λ g. search rules } in
    put_tables c.args.files.now new c.args.file r i put (like_caps r.inode i (delivered r.inode.caps c.args.bits c.args.seq c.args.max) c.deliver_cap.ensures)

pub returns-clause-places : goal.returns-clause-places
returns-clause-places c =
    let r = c.in-Some.row.now in
    let i = c.deliver_cap.new.self in
    let new : Files = c.get_mut.follows.lender (record r { inode = i }) in
    let put : Puts c.args.files.now new c.args.file r i = record { had = sym c.in-Some.ensures.value; rows = λ g. search rules } in
    put_places c.args.files.now new c.args.file r i put (ap (λ (k : FileInode). k.context) c.deliver_cap.ensures)
