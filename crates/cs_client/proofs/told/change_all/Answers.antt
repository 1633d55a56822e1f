use Rattle.std.proofs.Common.{◌≡◌, ◌∙◌, ◌+◌, ◌∷◌, [], ◌++◌, refl, ap, take, false, arith}
use Rattle.std.proofs.lemmas.List.{length-take, take_more}
use Rattle.cs_tree.specs.Directories.{path_of}
use Rattle.cs_client.specs.Views.{is_among}
use Rattle.cs_client.proofs.AllTold.{byte_small, count_small, next_count, next_rises, next_rows, next_stays}
use Rattle.cs_client.proofs.Once.{front_without}
use Rattle.cs_client.proofs.told.change_all.Goals as goal

pub overflow_add-count : goal.overflow_add-count
overflow_add-count c =
    let made = c.args.made.now in
    let small = count_small (path_of c.args.tree.now) c.args.realms.now c.args.files.now (take c.loop-file.file-index made) in
    omega (
      arith,
      small,
      length-take c.loop-file.file-index made,
      c.loop-file.invariant.count,
      c.requires.few,
      c.loop-file-test.true,
      c.from-count.ensures,
      byte_small c.in_ok-needed.needed,
    )

pub change-requires-clause-rises : goal.change-requires-clause-rises
change-requires-clause-rises c =
    let made = c.args.made.now in
    next_rises (path_of c.args.tree.now) c.args.realms.now c.args.files.now c.loop-file.files (take c.loop-file.file-index made) c.file-item.result
    c.loop-file.invariant.rows
    (front_without made c.loop-file.file-index c.file-item.result c.loop-file-test.true c.file-item.is c.requires.once) c.requires.rises

pub change-requires-clause-stay : goal.change-requires-clause-stay
change-requires-clause-stay c followed =
    let made = c.args.made.now in
    next_stays (path_of c.args.tree.now) c.args.realms.now c.args.touched.now c.args.files.now c.loop-file.files (take c.loop-file.file-index made)
    c.file-item.result c.loop-file.invariant.rows
    (front_without made c.loop-file.file-index c.file-item.result c.loop-file-test.true c.file-item.is c.requires.once) (c.requires.stay followed)

pub returns-in_err-needed-clause-tables : goal.returns-in_err-needed-clause-tables
returns-in_err-needed-clause-tables c = λ rs sent t. c.change.ensures.tables rs sent (c.loop-file.invariant.tables rs sent t)

pub returns-in_err-needed-clause-homes : goal.returns-in_err-needed-clause-homes
returns-in_err-needed-clause-homes c = λ f. c.change.ensures.homes f ∙ c.loop-file.invariant.homes f

pub loop-file-init : goal.loop-file-init
loop-file-init c = record {
  count = refl;
  rows = λ f. refl;
  tables = λ rs sent t. t;
  homes = λ f. refl;
}

pub loop-file-preserved : goal.loop-file-preserved
loop-file-preserved c =
    let i = c.loop-file.invariant in
    let up = path_of c.args.tree.now in
    let ts = c.args.realms.now in
    let old = c.args.files.now in
    let mid = c.loop-file.files in
    let new = c.change.new.files in
    let made = c.args.made.now in
    let f = c.file-item.result in
    let b = c.in_ok-needed.needed in
    let fs = take c.loop-file.file-index made in
    let more : take (c.loop-file.file-index + 1) made ≡ fs ++ f ∷ [] = rw (← c.file-item.is) at
    (take_more made c.loop-file.file-index f c.loop-file-test.true) in
    let absent : is_among f fs ≡ false = front_without made c.loop-file.file-index f c.loop-file-test.true c.file-item.is c.requires.once in
    rw more (record {
      count = ap (λ k. c.loop-file.count + k) c.from-count.ensures ∙ next_count up ts old mid new fs f c.loop-file.count b i.rows
          c.in_ok-needed.ensures.ok absent i.count;
      rows = next_rows up ts old mid new fs f b i.rows c.in_ok-needed.ensures.ok absent;
      tables = λ rs sent t. c.change.ensures.tables rs sent (i.tables rs sent t);
      homes = λ g. c.change.ensures.homes g ∙ i.homes g;
    })
