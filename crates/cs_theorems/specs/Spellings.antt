-- What stands in the server's log and what is on its way to the server has a spelling in bytes.
use Rattle.std.specs.Prelude.{◌≡◌, true, List}
use Rattle.std.specs.List.{All}
use Rattle.cs_laws.specs.declared.answers.Entry.{Entry}
use Rattle.cs_laws.specs.History.{stand, to_server}
use Rattle.cs_laws.specs.Spellings.{message_fits, record_fits}

abbrev pub RecordsFit : List Entry → Type 0
RecordsFit h = All (λ r. record_fits r ≡ true) (stand h)

abbrev pub MessagesFit : List Entry → Type 0
MessagesFit h = All (λ m. message_fits m ≡ true) (to_server h)
