-- The contexts of the realms, from their last records alone.
use Rattle.std.specs.Prelude.{ℕ, zero, suc, List, Option, length, map}
use Rattle.std.specs.Option.{option_map, option_map_or}
use Rattle.cs_snapctx.specs.declared.realm.RealmRecord.{RealmRecord}
use Rattle.cs_snapctx.specs.Context.{Context, empty_context, merged}
use Rattle.cs_snapctx.specs.Records.{parent_record, record_of}

-- the context of the realm of r, whose parent has the context `above`
abbrev pub under : Context → RealmRecord → Context
under above r = merged r.own r.prior r.own_seq above r.since

-- the context of the realm of r, made of at most n realms: itself and those above it
abbrev pub context_within : ℕ → List RealmRecord → RealmRecord → Context
context_within zero rs r = empty_context
context_within (suc n) rs r = under (option_map_or (context_within n rs) (parent_record rs r) empty_context) r

-- no way up is longer than there are realms
abbrev pub context_of : List RealmRecord → RealmRecord → Context
context_of rs r = context_within (length rs) rs r

-- the context of realm i, if it is known
abbrev pub context : List RealmRecord → ℕ → Option Context
context rs i = option_map (context_of rs) (record_of i rs)

abbrev pub all_contexts : List RealmRecord → List Context
all_contexts rs = map (context_of rs) rs
