use Rattle.std.proofs.Common.{rules, ◌≡◌, ◌∙◌, ◌+◌, ◌≤◌, sym, length, Some}
use Rattle.cs_inode.specs.Inodes.{write_operations, written}
use Rattle.cs_laws.specs.Fits.{greatest_end}
use Rattle.cs_laws.specs.References.{named}
use Rattle.cs_client.specs.Views.{Files, SameRows}
use Rattle.cs_client.proofs.Counts.{named_kept, never_absent}
use Rattle.cs_client.proofs.Likes.{like_written, written_context}
use Rattle.cs_client.proofs.Puts.{Puts, put_places, put_same, put_tables, same_places, same_tables}
use Rattle.cs_client.proofs.Written.{fitting, write_ends}
use Rattle.cs_client.proofs.writes.write.Goals as goal

pub unreachable-requires : goal.unreachable-requires
unreachable-requires g c =
    let r = c.in-Some.live in
    let found : named c.args.caller c.args.name c.args.refs.now.live ≡ Some r = sym c.find.ensures ∙ c.in-Some.is in
    let kept = named_kept c.args.files.now c.args.caller c.args.name r c.args.refs.now.live c.requires.tables found in
    never_absent c.args.files.now r.file kept (sym c.in_default-get_mut.ensures.value)

pub apply_all-requires-after_bounds : goal.apply_all-requires-after_bounds
apply_all-requires-after_bounds g c κs within =
    let i = c.in-Some-get_mut.row.now.inode in
    let ops : c.as_slice-3.result.now ≡ write_operations c.after-tid.result c.args.off c.as_slice-2.result.now i = cc (c.in_ok-ops.ensures.operations) in
    rw ops (fitting c.after-tid.result c.args.off c.as_slice-2.result.now i)

pub returns-in_err-ops-clause-tables : goal.returns-in_err-ops-clause-tables
returns-in_err-ops-clause-tables g c =
    let r = c.in-Some-get_mut.row.now in
    let i = c.write.new.self in
    let f = c.in-Some.live.file in
    let new : Files = c.get_mut.follows.lender (record r { inode = i }) in
    let put : Puts c.args.files.now new f r i = record { had = sym c.in-Some-get_mut.ensures.value; rows = λ g. search rules } in
    let same : SameRows c.args.files.now new = put_same c.args.files.now new f r i put c.in_err-ops.ensures.err in
    same_tables c.args.files.now new same

pub returns-in_err-ops-clause-places : goal.returns-in_err-ops-clause-places
returns-in_err-ops-clause-places g c =
    let r = c.in-Some-get_mut.row.now in
    let i = c.write.new.self in
    let f = c.in-Some.live.file in
    let new : Files = c.get_mut.follows.lender (record r { inode = i }) in
    let put : Puts c.args.files.now new f r i = record { had = sym c.in-Some-get_mut.ensures.value; rows = λ g. search rules } in
    let same : SameRows c.args.files.now new = put_same c.args.files.now new f r i put c.in_err-ops.ensures.err in
    same_places c.args.files.now new same

pub returns-in_err-apply_all-clause-tables : goal.returns-in_err-apply_all-clause-tables
returns-in_err-apply_all-clause-tables g c =
    let r = c.in-Some-get_mut.row.now in
    let i = c.write.new.self in
    let f = c.in-Some.live.file in
    let new : Files = c.get_mut.follows.lender (record r { inode = i }) in
    let put : Puts c.args.files.now new f r i = record { had = sym c.in-Some-get_mut.ensures.value; rows = λ g. search rules } in
    let end = c.args.off + length c.args.bytes.now in
    let small : end ≤ greatest_end = write_ends c.args.off c.args.bytes.now c.requires.fits in
    let is : i ≡ written end c.args.clock r.inode = rw c.as_slice-2.ensures at c.in_ok-ops.ensures.after in
    put_tables c.args.files.now new f r i put (like_written end c.args.clock r.inode i small is)

pub returns-in_err-apply_all-clause-places : goal.returns-in_err-apply_all-clause-places
returns-in_err-apply_all-clause-places g c =
    let r = c.in-Some-get_mut.row.now in
    let i = c.write.new.self in
    let f = c.in-Some.live.file in
    let new : Files = c.get_mut.follows.lender (record r { inode = i }) in
    let put : Puts c.args.files.now new f r i = record { had = sym c.in-Some-get_mut.ensures.value; rows = λ g. search rules } in
    let end = c.args.off + length c.args.bytes.now in
    let small : end ≤ greatest_end = write_ends c.args.off c.args.bytes.now c.requires.fits in
    let is : i ≡ written end c.args.clock r.inode = rw c.as_slice-2.ensures at c.in_ok-ops.ensures.after in
    put_places c.args.files.now new f r i put (written_context end c.args.clock r.inode i is)

pub returns-clause-tables : goal.returns-clause-tables
returns-clause-tables g c =
    let r = c.in-Some-get_mut.row.now in
    let i = c.write.new.self in
    let f = c.in-Some.live.file in
    let new : Files = c.get_mut.follows.lender (record r { inode = i }) in
    let put : Puts c.args.files.now new f r i = record { had = sym c.in-Some-get_mut.ensures.value; rows = λ g. search rules } in
    let end = c.args.off + length c.args.bytes.now in
    let small : end ≤ greatest_end = write_ends c.args.off c.args.bytes.now c.requires.fits in
    let is : i ≡ written end c.args.clock r.inode = rw c.as_slice-2.ensures at c.in_ok-ops.ensures.after in
    put_tables c.args.files.now new f r i put (like_written end c.args.clock r.inode i small is)

pub returns-clause-places : goal.returns-clause-places
returns-clause-places g c =
    let r = c.in-Some-get_mut.row.now in
    let i = c.write.new.self in
    let f = c.in-Some.live.file in
    let new : Files = c.get_mut.follows.lender (record r { inode = i }) in
    let put : Puts c.args.files.now new f r i = record { had = sym c.in-Some-get_mut.ensures.value; rows = λ g. search rules } in
    let end = c.args.off + length c.args.bytes.now in
    let small : end ≤ greatest_end = write_ends c.args.off c.args.bytes.now c.requires.fits in
    let is : i ≡ written end c.args.clock r.inode = rw c.as_slice-2.ensures at c.in_ok-ops.ensures.after in
    put_places c.args.files.now new f r i put (written_context end c.args.clock r.inode i is)
