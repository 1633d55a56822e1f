-- The contexts that a record renews.
use Rattle.std.specs.Prelude.{ℕ, zero, suc, Bool, false, true, List, [], ◌∷◌, Option, Some, None, if◌then◌else◌}
use Rattle.std.specs.List.{cons_option}
use Rattle.std.specs.Option.{option_map, option_map_or}
use Rattle.cs_snapctx.specs.declared.realm.RealmRecord.{RealmRecord}
use Rattle.cs_snapctx.specs.Context.{Context}
use Rattle.cs_snapctx.specs.Contexts.{context_of}
use Rattle.cs_snapctx.specs.Records.{is_of, record_of, with_record}
use Rattle.cs_realms.specs.Changes.{is_same}
use Rattle.cs_realms.specs.declared.changed.Change.{Change}
use Rattle.cs_realms.specs.declared.renewal.Renewed.{Renewed}

-- going up from the realm of x, over known parents, ends within n realms, none of which is realm j
abbrev pub leads_clear : ℕ → List RealmRecord → ℕ → RealmRecord → Bool
leads_clear zero rs j x = false
leads_clear (suc n) rs j x =
    if is_of j x then false else option_map_or (λ p. option_map_or (leads_clear n rs j) (record_of p rs) false) x.parent true

-- the last record of the realm of x, once r is taken in
abbrev pub newest : RealmRecord → RealmRecord → RealmRecord
newest r x = if is_of r.realm x then r else x

-- a context twice, where it isn't as it was
abbrev pub news : Context → Context → Option Renewed
news b c = if is_same (Some b) c then None else Some (record { kept = c; answered = c })

-- the context of the realm of x, where taking r in changes it
abbrev pub renewed : RealmRecord → List RealmRecord → RealmRecord → Option Renewed
renewed r rs x = news (context_of rs x) (context_of (with_record r rs) (newest r x))

-- the contexts, with the renewed ones in their places
abbrev pub put_all : List (Option Renewed) → List Context → List Context
put_all [] cs = cs
put_all (w ∷ ws) [] = []
put_all (w ∷ ws) (c ∷ cs) = option_map_or (λ n. n.kept) w c ∷ put_all ws cs

-- the change of the context c of realm i
abbrev pub answered_change : ℕ → Context → Option Renewed → Option Change
answered_change i c w = option_map (λ n. record { realm = i; old = Some c; new = n.answered }) w

abbrev pub answered_changes : List RealmRecord → List (Option Renewed) → List Context → List Change
answered_changes [] ws cs = []
answered_changes (x ∷ xs) [] cs = []
answered_changes (x ∷ xs) (w ∷ ws) [] = []
answered_changes (x ∷ xs) (w ∷ ws) (c ∷ cs) = cons_option (answered_change x.realm c w) (answered_changes xs ws cs)
