use Rattle.std.proofs.Common.{rules, refl, sym}
use Rattle.cs_client.specs.Views.{Files}
use Rattle.cs_client.proofs.Puts.{Puts, put_homes, put_same, put_tables, same_tables}
use Rattle.cs_client.proofs.told.change.Goals as goal

pub returns-then-not-is_below_touched-clause-tables : goal.returns-then-not-is_below_touched-clause-tables
returns-then-not-is_below_touched-clause-tables c =
    let r = c.in-Some.row.now in
    let new : Files = c.get_mut.follows.lender r in
    let put : Puts c.args.files.now new c.args.file r r.inode = record { had = sym c.in-Some.ensures.value; rows = λ g. search rules } in
    same_tables c.args.files.now new (put_same c.args.files.now new c.args.file r r.inode put refl)

pub returns-then-not-is_below_touched-clause-homes : goal.returns-then-not-is_below_touched-clause-homes
returns-then-not-is_below_touched-clause-homes c =
    let r = c.in-Some.row.now in
    let new : Files = c.get_mut.follows.lender r in
    let put : Puts c.args.files.now new c.args.file r r.inode = record { had = sym c.in-Some.ensures.value; rows = λ g. search rules } in
    put_homes c.args.files.now new c.args.file r r.inode put

pub returns-in_err-change_inode-clause-tables : goal.returns-in_err-change_inode-clause-tables
returns-in_err-change_inode-clause-tables c =
    let r = c.in-Some.row.now in
    let i = c.change_inode.new.inode in
    let new : Files = c.get_mut.follows.lender (record r { inode = i }) in
    let put : Puts c.args.files.now new c.args.file r i = record { had = sym c.in-Some.ensures.value; rows = λ g. search rules } in
    put_tables c.args.files.now new c.args.file r i put c.change_inode.ensures.like

pub returns-in_err-change_inode-clause-homes : goal.returns-in_err-change_inode-clause-homes
returns-in_err-change_inode-clause-homes c =
    let r = c.in-Some.row.now in
    let i = c.change_inode.new.inode in
    let new : Files = c.get_mut.follows.lender (record r { inode = i }) in
    let put : Puts c.args.files.now new c.args.file r i = record { had = sym c.in-Some.ensures.value; rows = λ g. search rules } in
    put_homes c.args.files.now new c.args.file r i put

pub returns-clause-tables : goal.returns-clause-tables
returns-clause-tables c =
    let r = c.in-Some.row.now in
    let i = c.change_inode.new.inode in
    let new : Files = c.get_mut.follows.lender (record r { inode = i }) in
    let put : Puts c.args.files.now new c.args.file r i = record { had = sym c.in-Some.ensures.value; rows = λ g. search rules } in
    put_tables c.args.files.now new c.args.file r i put c.change_inode.ensures.like

pub returns-clause-homes : goal.returns-clause-homes
returns-clause-homes c =
    let r = c.in-Some.row.now in
    let i = c.change_inode.new.inode in
    let new : Files = c.get_mut.follows.lender (record r { inode = i }) in
    let put : Puts c.args.files.now new c.args.file r i = record { had = sym c.in-Some.ensures.value; rows = λ g. search rules } in
    put_homes c.args.files.now new c.args.file r i put
