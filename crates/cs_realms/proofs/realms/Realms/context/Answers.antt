use Rattle.std.proofs.Common.{◌≡◌, None, Some, position, sym, ◌∙◌, ap}
use Rattle.std.specs.List.{slice_get}
use Rattle.std.specs.Option.{option_copied, option_map}
use Rattle.cs_snapctx.specs.Contexts.{context, context_of}
use Rattle.cs_snapctx.specs.Records.{is_of, record_of}
use Rattle.cs_realms.proofs.Places.{found_in, looked_up, none_kept, not_found}
use Rattle.cs_realms.proofs.realms.Realms.context.Goals as goal

unknown : (c : goal.After-from_residual) → option_copied c.from_residual.result ≡ context c.self.inside.records.items c.args.realm
unknown c =
    let rs = c.self.inside.records.items in
    let none : position (is_of c.args.realm) rs ≡ None = rw c.as_slice.ensures.value at (sym c.place_of.ensures ∙ c.in_err-place.was) in
    ap option_copied c.from_residual.ensures ∙ ap (option_map (context_of rs)) (sym (not_found (is_of c.args.realm) rs none))

pub returns-in_err-place-clause-value : goal.returns-in_err-place-clause-value
returns-in_err-place-clause-value c = rw (← c.self.view_is) (unknown c)

pub returns-in_err-place-clause-unknown : goal.returns-in_err-place-clause-unknown
returns-in_err-place-clause-unknown c =
    rw (← c.self.view_is) (none_kept (context_of c.self.inside.records.items) c.from_residual.result (record_of c.args.realm c.self.inside.records.items) (unknown c))

known : (c : goal.After-get) → option_copied c.get.result ≡ context c.self.inside.records.items c.args.realm
known c =
    let rs = c.self.inside.records.items in
    let place = c.in_ok-place.place in
    let some : position (is_of c.args.realm) rs ≡ Some place = rw c.as_slice.ensures.value at (sym c.place_of.ensures ∙ c.in_ok-place.was) in
    looked_up c.deref.result.now place c.get.result c.get.ensures.lookup
    ∙ (ap (λ cs. slice_get cs place) (c.deref.ensures.value ∙ c.self.invariant.contexts) ∙ found_in (context_of rs) (is_of c.args.realm) rs place some)

pub returns-clause-value : goal.returns-clause-value
returns-clause-value c = rw (← c.self.view_is) (known c)

pub returns-clause-unknown : goal.returns-clause-unknown
returns-clause-unknown c =
    rw (← c.self.view_is) (none_kept (context_of c.self.inside.records.items) c.get.result (record_of c.args.realm c.self.inside.records.items) (known c))
