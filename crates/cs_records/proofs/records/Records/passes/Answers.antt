use Rattle.std.proofs.Common.{◌≡◌, ◌∙◌, ◌==◌, ◌||◌, not, nat_cmp, nat_le, is_le, true, sym, ap}
use Rattle.std.proofs.lemmas.List.{take-append-drop}
use Rattle.cs_laws.specs.Covering.{passes}
use Rattle.cs_records.specs.Names.{has_names}
use Rattle.cs_records.specs.Records.{all}
use Rattle.cs_records.specs.Sinces.{since_in}
use Rattle.cs_records.proofs.IndexedNow.{passes_now}
use Rattle.cs_records.proofs.Tables.{low_test}
use Rattle.cs_records.proofs.records.Records.passes.Goals as goal

pub returns-else-not-is_realm : goal.returns-else-not-is_realm
returns-else-not-is_realm c =
    let s = c.args.snap in
    let d = c.args.dir in
    let t = c.self.inside.index in
    let rs = c.self.inside.records.items in
    let whole : all c.args.self.now ≡ rs = ap all (sym c.self.view_is) ∙ take-append-drop c.self.inside.durable rs in
    let realm : ((d == 1) || has_names t.names d) ≡ true = sym c.is_realm.ensures ∙ c.if-not-is_realm.false in
    c.le.ensures
    ∙ (ap (λ n. is_le (nat_cmp n s)) c.of.ensures
    ∙ (low_test (since_in t.sinces d) s
    ∙ (ap (λ b. not b || nat_le (since_in t.sinces d) s) (sym realm)
    ∙ (passes_now rs t s d c.self.invariant.index ∙ ap (λ xs. passes s xs d) (sym whole)))))
