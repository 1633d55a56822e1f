use Rattle.std.proofs.Common.{rules, ◌≡◌, ◌∙◌, sym, Some}
use Rattle.cs_laws.specs.References.{named}
use Rattle.cs_client.specs.Views.{Files}
use Rattle.cs_client.proofs.Counts.{named_kept, never_absent}
use Rattle.cs_client.proofs.Likes.{like_mode, mode_context, mode_kept}
use Rattle.cs_client.proofs.Puts.{Puts, put_places, put_same, put_tables}
use Rattle.cs_client.proofs.references.chmod.Goals as goal

pub unreachable-requires : goal.unreachable-requires
unreachable-requires c =
    let r = c.in-Some.live in
    let found : named c.args.caller c.args.name c.args.refs.now.live ≡ Some r = sym c.find.ensures ∙ c.in-Some.is in
    let kept = named_kept c.args.files.now c.args.caller c.args.name r c.args.refs.now.live c.requires.tables found in
    never_absent c.args.files.now r.file kept (sym c.in_default-get_mut.ensures.value)

pub returns-in-Done-clause-tables : goal.returns-in-Done-clause-tables
returns-in-Done-clause-tables c =
    let r = c.in-Some-get_mut.row.now in
    let i = c.chmod.new.self in
    let new : Files = c.get_mut.follows.lender (record r { inode = i }) in
    let put : Puts c.args.files.now new c.in-Some.live.file r i = record { had = sym c.in-Some-get_mut.ensures.value; rows = λ g. search rules } in
    put_tables c.args.files.now new c.in-Some.live.file r i put (like_mode c.args.mode r.inode i c.chmod.ensures.after)

pub returns-in-Done-clause-places : goal.returns-in-Done-clause-places
returns-in-Done-clause-places c =
    let r = c.in-Some-get_mut.row.now in
    let i = c.chmod.new.self in
    let new : Files = c.get_mut.follows.lender (record r { inode = i }) in
    let put : Puts c.args.files.now new c.in-Some.live.file r i = record { had = sym c.in-Some-get_mut.ensures.value; rows = λ g. search rules } in
    put_places c.args.files.now new c.in-Some.live.file r i put (mode_context c.args.mode r.inode i c.chmod.ensures.after)

pub returns-in-Snap-clause-rows : goal.returns-in-Snap-clause-rows
returns-in-Snap-clause-rows c =
    let r = c.in-Some-get_mut.row.now in
    let i = c.chmod.new.self in
    let new : Files = c.get_mut.follows.lender (record r { inode = i }) in
    let put : Puts c.args.files.now new c.in-Some.live.file r i = record { had = sym c.in-Some-get_mut.ensures.value; rows = λ g. search rules } in
    put_same c.args.files.now new c.in-Some.live.file r i put
    (mode_kept c.args.mode r.inode i (sym c.in-Snap.is ∙ c.chmod.ensures.answer) c.chmod.ensures.after)

pub returns-in-Snap-clause-tables : goal.returns-in-Snap-clause-tables
returns-in-Snap-clause-tables c =
    let r = c.in-Some-get_mut.row.now in
    let i = c.chmod.new.self in
    let new : Files = c.get_mut.follows.lender (record r { inode = i }) in
    let put : Puts c.args.files.now new c.in-Some.live.file r i = record { had = sym c.in-Some-get_mut.ensures.value; rows = λ g. search rules } in
    put_tables c.args.files.now new c.in-Some.live.file r i put (like_mode c.args.mode r.inode i c.chmod.ensures.after)

pub returns-in-Snap-clause-places : goal.returns-in-Snap-clause-places
returns-in-Snap-clause-places c =
    let r = c.in-Some-get_mut.row.now in
    let i = c.chmod.new.self in
    let new : Files = c.get_mut.follows.lender (record r { inode = i }) in
    let put : Puts c.args.files.now new c.in-Some.live.file r i = record { had = sym c.in-Some-get_mut.ensures.value; rows = λ g. search rules } in
    put_places c.args.files.now new c.in-Some.live.file r i put (mode_context c.args.mode r.inode i c.chmod.ensures.after)
