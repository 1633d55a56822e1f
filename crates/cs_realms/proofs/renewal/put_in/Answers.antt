use Rattle.std.proofs.Common.{◌≡◌, ◌<◌, Some, None, length, get_or, set, sym, ◌∙◌, ap, subst, arith, vec_capacity, vec_len}
use Rattle.cs_realms.proofs.Puts.{none_put, none_told, one_put, one_told}
use Rattle.cs_realms.proofs.renewal.put_in.Goals as goal
use Rattle.cs_realms.proofs.renewal.put_in.Goals.{in-Some, in_default}

pub loop-place-preserved : goal.loop-place-preserved
loop-place-preserved c =
    let k = c.loop-place.place in
    let xs = c.args.records.now in
    let ws = c.loop-place.renewed.items in
    let cs = c.loop-place.contexts.items in
    let within : k < length xs = omega arith in
    let in_renewed : k < length ws = omega arith in
    let in_contexts : k < length cs = omega arith in
    elim c.match-take.branch [
      | in-Some w ↦
          let n = w.in-Some.one in
          let x = w.index-records-place.result in
          let old = w.replace-old.result in
          let is : c.index_mut.result.now ≡ Some n = sym c.take.ensures.value ∙ w.in-Some.is in
          let here : get_or ws k (Some n) ≡ Some n = subst (λ z. get_or ws k z ≡ z) is (sym c.index_mut.ensures.value) in
          let was : get_or cs k old ≡ old = subst (λ z. get_or cs k z ≡ z) (sym w.replace-old.ensures.value) (sym w.index_mut-in-Some.ensures.value) in
          let next : c.match-take.contexts.items ≡ set cs k n.kept = ap (λ v. v.items) w.contexts-is ∙ ap (λ z. set cs k z) w.replace-old.ensures.after in
          let more = ap (λ v. v.items) w.changes-is ∙ w.push_reserved.ensures.items in
          record {
            contexts = one_put k ws c.take.new.self n cs _ _ in_renewed in_contexts here next c.loop-place.invariant.contexts;
            changes = one_told k xs x ws c.take.new.self n cs _ old c.loop-place.changes.items _ _ _ within in_renewed in_contexts (sym w.index-records-place.is) here was next more (ap (λ i. record { realm = i; old = Some old; new = n.answered }) (ap (λ z. z.realm) (sym w.index-records-place.is))) c.loop-place.invariant.changes;
            renewed_len = omega arith;
            contexts_len = omega (arith, ap vec_len w.contexts-is);
            room = omega (arith, ap vec_len w.changes-is, w.push_reserved.ensures.len);
            capacity = ap vec_capacity w.changes-is ∙ (w.push_reserved.ensures.capacity ∙ c.loop-place.invariant.capacity);
          }
      | in_default w ↦
          let is : c.index_mut.result.now ≡ None = sym c.take.ensures.value ∙ w.in_default.is in
          let here : get_or ws k None ≡ None = subst (λ z. get_or ws k z ≡ z) is (sym c.index_mut.ensures.value) in
          let next : c.match-take.contexts.items ≡ cs = ap (λ v. v.items) w.contexts-is in
          let more : c.match-take.changes.items ≡ c.loop-place.changes.items = ap (λ v. v.items) w.changes-is in
          record {
            contexts = none_put k ws c.take.new.self cs _ _ in_renewed in_contexts here next c.loop-place.invariant.contexts;
            changes = none_told k xs ws c.take.new.self cs _ c.loop-place.changes.items _ _ within in_renewed in_contexts here next more c.loop-place.invariant.changes;
            renewed_len = omega arith;
            contexts_len = omega (arith, ap vec_len w.contexts-is);
            room = omega (arith, ap vec_len w.changes-is);
            capacity = ap vec_capacity w.changes-is ∙ c.loop-place.invariant.capacity;
          }
    ]
