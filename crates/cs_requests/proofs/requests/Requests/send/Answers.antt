use Rattle.std.proofs.Common.{◌≡◌, ◌<◌, ◌++◌, ◌∷◌, ◌∙◌, [], ap, refl, arith}
use Rattle.std.proofs.lemmas.List.{map-append}
use Rattle.std.specs.Map.{values_of}
use Rattle.cs_requests.specs.declared.requests.OpenReq.{OpenReq}
use Rattle.cs_requests.specs.Requests.{sent_as}
use Rattle.cs_requests.proofs.Lists.{entries-sent, insert_entry-sent}
use Rattle.cs_requests.proofs.requests.Requests.send.Goals as goal

-- the request that is taken
abbrev request : goal.After-self-1 → OpenReq
request c = sent_as c.after-tid.result c.args.caller c.in_ok-copy.field-0

above : (c : goal.After-self-1) → c.self.inside.sent < c.after-tid.result
above c = omega (arith, c.after-tid.ensures)

entries_are : (c : goal.After-self-1) → c.insert.new.self.entries
    ≡ c.self.inside.requests.entries ++ (c.after-tid.result, request c) ∷ []
entries_are c = c.in_ok-insert.ensures.entries ∙ insert_entry-sent _ c.self.inside.requests c.after-tid.result
    (request c) c.self.invariant.each (above c)

pub invariant_of-self-2 : goal.invariant_of-self-2
invariant_of-self-2 c = rw (c.get-self-inside.ensures.value, entries_are c) (entries-sent _ _ _ _ c.self.invariant refl (above c))

pub returns-clause-requests : goal.returns-clause-requests
returns-clause-requests c =
    let added : values_of c.insert.new.self.entries ≡ values_of c.self.inside.requests.entries ++ request c ∷ [] = ap values_of
    (entries_are c) ∙ map-append _ c.self.inside.requests.entries _ in
    λ j. record {
      sent = c.get-self-inside.ensures.value j;
      requests = (added
          ∙ (λ k. (c.self.view_is k).requests ++ sent_as c.after-tid.result c.args.caller (c.in_ok-copy.ensures k) ∷ [])) j;
    }
