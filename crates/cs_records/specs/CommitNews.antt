-- What a commit tells the client, where the realm records that were sent last are those that the durable records give.
use Rattle.std.specs.Prelude.{ℕ, List, [], ◌∷◌, ◌++◌}
use Rattle.std.specs.List.{filter_map}
use Rattle.cs_snapctx.specs.declared.realm.RealmRecord.{RealmRecord}
use Rattle.cs_snapctx.specs.Records.{changed_record}
use Rattle.cs_laws.specs.declared.messages.Message.{Message}
use Rattle.cs_laws.specs.declared.records.Record.{Record}
use Rattle.cs_laws.specs.Realms.{realm_record}
use Rattle.cs_laws.specs.Standing.{news_of}

-- the realm records that differ from those before; path: the path of each directory; ds: the directories, parents first
abbrev pub changed_records : (ℕ → List ℕ) → List ℕ → List Record → List Record → List RealmRecord
changed_records path ds before after = filter_map (λ d. changed_record (realm_record (path d) before d) (realm_record (path d) after d)) ds

-- the messages on these records; before: the records before them
abbrev pub commit_news : (ℕ → List ℕ) → List ℕ → List Record → List Record → List Message
commit_news path ds before [] = []
commit_news path ds before (r ∷ rs) = news_of before (changed_records path ds before (before ++ r ∷ [])) r.body ∷ commit_news path ds (before ++ r ∷ []) rs
