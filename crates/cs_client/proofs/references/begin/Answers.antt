use Rattle.std.proofs.Common.{rules, ◌≡◌, ◌∷◌, ◌++◌, [], refl, sym, subst, true, length, arith}
use Rattle.cs_parts.specs.declared.references.Live.{Live}
use Rattle.cs_refs.specs.Table.{writers_of}
use Rattle.cs_client.specs.Views.{AreTables, Files, is_kept}
use Rattle.cs_client.proofs.Counts.{begun_lives, begun_other, fewer, started_context, started_row, writers_few}
use Rattle.cs_client.proofs.Puts.{Puts, put_places, put_rows}
use Rattle.cs_client.proofs.references.begin.Goals as goal

pub start-requires-clause-few : goal.start-requires-clause-few
start-requires-clause-few c =
    let rs = c.args.refs.now.live in
    let x = c.in-Some-get_mut.row.now in
    let row = c.requires.tables.1.rows c.args.file x (sym c.in-Some-get_mut.ensures.value) in
    let room : length rs ≡ 256 → ⊥ = λ full. let err = c.in-Ok.ensures.full.1 full in absurd (cc) in
    omega (arith, row.writers, fewer (writers_of c.args.file rs) (length rs) (writers_few c.args.file rs) c.in-Ok.ensures.few room)

pub returns-in-Some-get_mut-clause-tables : goal.returns-in-Some-get_mut-clause-tables
returns-in-Some-get_mut-clause-tables c = λ sent t.
    let old = c.args.files.now in
    let rs = c.args.refs.now.live in
    let f = c.args.file in
    let x = c.in-Some-get_mut.row.now in
    let i = c.start.new.inode in
    let r : Live = record { caller = c.args.caller; number = c.in-Ok.number; file = f; bits = c.args.bits; end = c.args.end; tag = c.in-Yes.tag } in
    let new : Files = c.get_mut.follows.lender (record x { inode = i }) in
    let put : Puts old new f x i = record { had = sym c.in-Some-get_mut.ensures.value; rows = λ g. search rules } in
    let kept : is_kept old f ≡ true = rw (put.had) refl in
    let now : AreTables new (rs ++ r ∷ []) sent =
    put_rows old new f x i rs (rs ++ r ∷ []) sent sent put t
    (λ row. rw c.start.ensures (started_row rs r sent f x.inode refl row))
    (λ g j other row. begun_other rs r sent g j other row)
    (begun_lives old rs r t.lives kept) in
    subst (λ qs. AreTables new qs sent) (sym c.in-Ok.ensures.live) now

pub returns-in-Some-get_mut-clause-places : goal.returns-in-Some-get_mut-clause-places
returns-in-Some-get_mut-clause-places c =
    let x = c.in-Some-get_mut.row.now in
    let i = c.start.new.inode in
    let new : Files = c.get_mut.follows.lender (record x { inode = i }) in
    let put : Puts c.args.files.now new c.args.file x i = record { had = sym c.in-Some-get_mut.ensures.value; rows = λ g. search rules } in
    put_places c.args.files.now new c.args.file x i put (started_context c.args.bits x.inode i c.start.ensures)
