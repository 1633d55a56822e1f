use Rattle.std.proofs.Common.{◌≡◌, false, [], ◌∷◌, ◌++◌, None, map, ◌∙◌, ap}
use Rattle.cs_snapctx.specs.Contexts.{context_of}
use Rattle.cs_snapctx.specs.Records.{is_known, with_record}
use Rattle.cs_realms.specs.Renewals.{put_all, renewed, answered_changes}
use Rattle.cs_realms.proofs.Renewing.{added_contexts, added_answer, of_end}
use Rattle.cs_realms.proofs.realms.Realms.add.Goals as goal

unknown : (c : goal.After-from_vec) → is_known c.args.r.now.realm c.self.inside.records.items ≡ false
unknown c = rw c.self.view_is c.requires

renewed_is : (c : goal.After-from_vec) → c.in_ok-renewed.renewed.items ≡ map (renewed c.args.r.now c.self.inside.records.items) c.self.inside.records.items
renewed_is c = c.in_ok-renewed.ensures ∙ ap (λ rs. map (renewed c.args.r.now rs) rs) c.as_slice-2.ensures.value

own : (c : goal.After-from_vec) → c.in_ok-own.own ≡ context_of (with_record c.args.r.now c.self.inside.records.items) c.args.r.now
own c = c.in_ok-own.ensures ∙ ap (λ rs. context_of (with_record c.args.r.now rs) c.args.r.now) c.as_slice.ensures.value

kept : (c : goal.After-from_vec) → c.in_ok-kept.field-0.kept ≡ context_of (with_record c.args.r.now c.self.inside.records.items) c.args.r.now
kept c = ap (λ n. n.kept) c.in_ok-kept.ensures ∙ own c

answered : (c : goal.After-from_vec) → c.in_ok-kept.field-0.answered ≡ context_of (with_record c.args.r.now c.self.inside.records.items) c.args.r.now
answered c = ap (λ n. n.answered) c.in_ok-kept.ensures ∙ own c

taken_in : (c : goal.After-from_vec) → c.push_reserved.new.self.items ≡ with_record c.args.r.now c.self.inside.records.items
taken_in c =
    let rs = c.self.inside.records.items in
    c.push_reserved.ensures.items
    ∙ (ap (λ ys. ys ++ c.in_ok-last.last ∷ []) c.in_ok-reserve.ensures.items
    ∙ (ap (λ x. rs ++ x ∷ []) c.in_ok-last.ensures ∙ of_end c.args.r.now rs (unknown c)))

with_own : (c : goal.After-from_vec)
    → c.push.new.self.items ≡ c.self.inside.contexts.items ++ context_of (with_record c.args.r.now c.self.inside.records.items) c.args.r.now ∷ []
with_own c =
    let pushed : c.push.new.self.items ≡ c.self.inside.contexts.items ++ c.in_ok-kept.field-0.kept ∷ [] = c.in_ok-push.ensures.items in
    pushed ∙ ap (λ x. c.self.inside.contexts.items ++ x ∷ []) (kept c)

pub invariant_of-self-2 : goal.invariant_of-self-2
invariant_of-self-2 c =
    let rs = c.self.inside.records.items in
    let cs = c.self.inside.contexts.items in
    let put : c.put_in.new.contexts.items ≡ put_all (map (renewed c.args.r.now rs) rs) (cs ++ context_of (with_record c.args.r.now rs) c.args.r.now ∷ []) =
    c.put_in.ensures.contexts ∙ (ap (λ ws. put_all ws c.push.new.self.items) (renewed_is c) ∙ ap (put_all (map (renewed c.args.r.now rs) rs)) (with_own c)) in
    rw (taken_in c, put) (added_contexts c.args.r.now rs cs c.self.invariant (unknown c))

pub returns-clause-records : goal.returns-clause-records
returns-clause-records c = rw (← c.self.view_is) (taken_in c)

pub returns-clause-changed : goal.returns-clause-changed
returns-clause-changed c =
    let rs = c.self.inside.records.items in
    let cs = c.self.inside.contexts.items in
    let r = c.args.r.now in
    let after = c.push.new.self.items in
    let listed : c.put_in.new.changes.items ≡ answered_changes rs (map (renewed r rs) rs) (cs ++ context_of (with_record r rs) r ∷ []) =
    c.put_in.ensures.changes
    ∙ (ap (λ ys. ys ++ answered_changes c.as_slice-4.result.now c.in_ok-renewed.renewed.items after) c.in_ok-changes.ensures.items
    ∙ (ap (λ ys. answered_changes ys c.in_ok-renewed.renewed.items after) (c.as_slice-4.ensures.value ∙ c.in_ok-reserve.ensures.items)
    ∙ (ap (λ ws. answered_changes rs ws after) (renewed_is c) ∙ ap (answered_changes rs (map (renewed r rs) rs)) (with_own c)))) in
    let pushed : c.push_reserved-2.new.self.items ≡ c.put_in.new.changes.items ++ record { realm = r.realm; old = None; new = c.in_ok-kept.field-0.answered } ∷ [] =
    c.push_reserved-2.ensures.items in
    rw (← c.self.view_is, taken_in c)
    (c.from_vec.ensures
    ∙ (pushed
    ∙ (ap (λ ys. ys ++ record { realm = r.realm; old = None; new = c.in_ok-kept.field-0.answered } ∷ []) listed
    ∙ (ap (λ x. answered_changes rs (map (renewed r rs) rs) (cs ++ context_of (with_record r rs) r ∷ []) ++ record { realm = r.realm; old = None; new = x } ∷ []) (answered c)
    ∙ added_answer r rs cs c.self.invariant (unknown c)))))
