use Rattle.std.proofs.Common.{◌≡◌, ◌++◌, map, position, Some, slice_set, ◌∙◌, ap}
use Rattle.cs_snapctx.specs.Records.{is_of, with_record}
use Rattle.cs_realms.specs.Renewals.{put_all, renewed, answered_changes}
use Rattle.cs_realms.proofs.Places.{place_known, placed}
use Rattle.cs_realms.proofs.Renewing.{replaced_contexts, replaced_answer}
use Rattle.cs_realms.proofs.realms.Realms.replace.Goals as goal

at_place : (c : goal.After-from_vec) → position (is_of c.args.r.now.realm) c.self.inside.records.items ≡ Some c.args.place
at_place c = rw c.self.view_is c.requires

renewed_is : (c : goal.After-from_vec) → c.in_ok-renewed.renewed.items ≡ map (renewed c.args.r.now c.self.inside.records.items) c.self.inside.records.items
renewed_is c = c.in_ok-renewed.ensures ∙ ap (λ rs. map (renewed c.args.r.now rs) rs) c.as_slice.ensures.value

taken_in : (c : goal.After-from_vec) → slice_set c.self.inside.records.items c.args.place c.in_ok-last.last ≡ with_record c.args.r.now c.self.inside.records.items
taken_in c = ap (slice_set c.self.inside.records.items c.args.place) c.in_ok-last.ensures ∙ placed c.args.r.now c.self.inside.records.items c.args.place (at_place c)

pub invariant_of-self : goal.invariant_of-self
invariant_of-self c =
    let rs = c.self.inside.records.items in
    let cs = c.self.inside.contexts.items in
    let put : c.put_in.new.contexts.items ≡ put_all (map (renewed c.args.r.now rs) rs) cs = c.put_in.ensures.contexts ∙ ap (λ ws. put_all ws cs) (renewed_is c) in
    rw (taken_in c, put) (replaced_contexts c.args.r.now rs cs c.self.invariant (place_known c.args.r.now.realm rs c.args.place (at_place c)))

pub returns-clause-records : goal.returns-clause-records
returns-clause-records c = rw (← c.self.view_is) (taken_in c)

pub returns-clause-changed : goal.returns-clause-changed
returns-clause-changed c =
    let rs = c.self.inside.records.items in
    let cs = c.self.inside.contexts.items in
    let listed : c.put_in.new.changes.items ≡ answered_changes rs (map (renewed c.args.r.now rs) rs) cs =
    c.put_in.ensures.changes
    ∙ (ap (λ ys. ys ++ answered_changes c.as_slice-3.result.now c.in_ok-renewed.renewed.items cs) c.in_ok-changes.ensures.items
    ∙ (ap (λ ys. answered_changes ys c.in_ok-renewed.renewed.items cs) c.as_slice-3.ensures.value ∙ ap (λ ws. answered_changes rs ws cs) (renewed_is c))) in
    rw (← c.self.view_is, taken_in c)
    (c.from_vec.ensures ∙ (listed ∙ replaced_answer c.args.r.now rs cs c.self.invariant (place_known c.args.r.now.realm rs c.args.place (at_place c))))
