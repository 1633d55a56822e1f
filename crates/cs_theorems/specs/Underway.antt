-- The messages that can be on their way.
use Rattle.std.specs.Prelude.{◌≡◌, ℕ, List, true, false, Option, Some, None}
use Rattle.cs_laws.specs.declared.answers.Entry.{Entry}
use Rattle.cs_laws.specs.declared.messages.Message.{Message}
use Rattle.cs_laws.specs.Carried.{file_of, is_for_client}
use Rattle.cs_laws.specs.ClientKnows.{client_knows}

-- known: whether there is a file of this number
abbrev pub IfFile : (ℕ → Type 0) → Option ℕ → Type 0
IfFile Known None = Unit {0}
IfFile Known (Some f) = Known f

abbrev pub ForClient : (ℕ → Type 0) → Message → Type 0
ForClient Known m = (is_for_client m ≡ true) × IfFile Known (file_of m)

abbrev pub ForServer : (ℕ → Type 0) → Message → Type 0
ForServer Known m = (is_for_client m ≡ false) × IfFile Known (file_of m)

-- a message that can be on its way to the client
abbrev pub IsToldClient : List Entry → Message → Type 0
IsToldClient h m = ForClient (λ f. client_knows h f ≡ true) m

-- a message that can be on its way to the server
abbrev pub IsToldServer : List Entry → Message → Type 0
IsToldServer h m = ForServer (λ f. client_knows h f ≡ true) m
