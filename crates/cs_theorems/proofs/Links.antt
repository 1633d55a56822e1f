-- The realm records that messages carry, and those that the log has.
use Rattle.std.proofs.Common.{◌≡◌, ℕ, List, [], ◌∷◌, ◌++◌, Option}
use Rattle.std.specs.List.{filter_map}
use Rattle.cs_snapctx.specs.declared.realm.RealmRecord.{RealmRecord}
use Rattle.cs_snapctx.specs.Records.{changed_record, with_records}
use Rattle.cs_laws.specs.declared.messages.Message.{Message}
use Rattle.cs_laws.specs.declared.records.Record.{Record}
use Rattle.cs_laws.specs.Carried.{realms_on}
use Rattle.cs_laws.specs.Realms.{realm_record}

abbrev pub IsFront : List Record → List Record → Type 0
IsFront us vs = (ws : List Record) × (vs ≡ us ++ ws)

-- the records of the realms, by the log
abbrev pub realm_at : (ℕ → List ℕ) → List Record → ℕ → Option RealmRecord
realm_at up rs d = realm_record (up d) rs d

-- sent d: the record of d that was sent last, if any; now d: its record now
abbrev pub differing_at : (ℕ → Option RealmRecord) → (ℕ → Option RealmRecord) → List ℕ → List RealmRecord
differing_at sent now ds = filter_map (λ d. changed_record (sent d) (now d)) ds

-- what messages carry, those left out that carry no realm records
abbrev pub carried : List Message → List (List RealmRecord)
carried q = filter_map realms_on q

-- what the client will have behind all that flies; q: what the messages to it carry
abbrev pub last_had : List RealmRecord → List (List RealmRecord) → List RealmRecord
last_had ts [] = ts
last_had ts (now ∷ q) = last_had (with_records now ts) q
