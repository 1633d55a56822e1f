-- What the object store and the server's log hold at one moment.
use Rattle.std.specs.Prelude.{◌≡◌, ℕ, List, []}
use Rattle.cs_laws.specs.declared.answers.Entry.{Entry}
use Rattle.cs_laws.specs.declared.objects.ObjOp.{ObjOp}
use Rattle.cs_laws.specs.Agreement.{Agrees}
use Rattle.cs_laws.specs.History as history
use Rattle.cs_laws.specs.Logged.{LogIs}

pub record Held : Type 0 where
  -- the operations that were applied to the store, the newest first
  pub ops : List ObjOp
  -- the bytes of each record of the log, the oldest first
  pub records : List (List ℕ)
  -- how many of these, from the first on, are durable
  pub durable : ℕ

-- nothing was applied to the store, and the log has no records
pub record IsBlank (held : Held) : Type 0 where
  pub store : held.ops ≡ []
  pub log : held.records ≡ []
  pub durable : held.durable ≡ 0

-- the log has the records of a journal, and those are durable that it says
abbrev pub LogsJournal : List Entry → Held → Type 0
LogsJournal h held = LogIs held.records held.durable (history.durable h) (history.fresh h)

-- both agree with a journal, in three parts: the store lists exactly the operations that it implies, the log has its records, and from the
-- two each state of a file that isn't owed reads back as its writes
abbrev pub AgreesAt : List Entry → Held → Type 0
AgreesAt h held = Agrees held.ops held.records held.durable h
