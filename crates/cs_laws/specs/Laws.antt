-- The laws of a journal.
use Rattle.std.specs.Option.{option_map}
use Rattle.std.specs.Prelude.{◌≡◌, ℕ, ◌+◌, ◌==◌, ◌⊎◌, Bool, true, false, List, [], ◌∷◌, ◌++◌, Option, Some, None, flat_map, if◌then◌else◌}
use Rattle.cs_bits.specs.declared.Caps.{Caps}
use Rattle.cs_bits.specs.Bits.{covers, meet, minus, no_caps}
use Rattle.cs_parts.specs.declared.references.Live.{Live}
use Rattle.cs_laws.specs.declared.events.Event.{Event}
use Rattle.cs_laws.specs.declared.events.Event.TheVariants as events
use Rattle.cs_laws.specs.declared.events.RefName.{RefName}
use Rattle.cs_laws.specs.declared.events.RefName.TheVariants as names
use Rattle.cs_laws.specs.declared.answers.Answer.{Answer}
use Rattle.cs_laws.specs.declared.answers.Answer.TheVariants as answers
use Rattle.cs_laws.specs.declared.answers.Entry.{Entry}
use Rattle.cs_laws.specs.declared.records.Record.{Record}
use Rattle.cs_laws.specs.declared.records.RecordBody.{RecordBody}
use Rattle.cs_laws.specs.declared.records.RecordBody.TheVariants as bodies
use Rattle.cs_laws.specs.declared.requests.OpAnswer.{OpAnswer}
use Rattle.cs_laws.specs.Answers.{may_change_mode, may_read, may_write}
use Rattle.cs_laws.specs.Carried.{flush_in}
use Rattle.cs_laws.specs.Events.{clock}
use Rattle.cs_laws.specs.Flushes.{Flush}
use Rattle.cs_laws.specs.History.{client, context, live, sent, server, stand, used}
use Rattle.cs_laws.specs.Lists.{Each, Member, RisesFrom}
use Rattle.cs_laws.specs.Owed.{is_acked}
use Rattle.cs_laws.specs.Leases.{lease, looked_up}
use Rattle.cs_laws.specs.Names.{names}
use Rattle.cs_laws.specs.Namespace.{entry_at}
use Rattle.cs_laws.specs.Requests.{Reply, is_saved, replies}
use Rattle.cs_laws.specs.Sessions.{is_active, is_broken, server_state}
use Rattle.cs_laws.specs.Standing.{answer_kept}

-- Histories have the newest entry first, so what is before an entry is what stands behind it in the list.

-- it holds of the history and of each one that it goes on from
abbrev pub InEveryPrefix : (List Entry → Type 0) → List Entry → Type 0
InEveryPrefix P h = (before new : List Entry) → h ≡ new ++ before → P before

-- Uses are issued: each write, read and change of mode that is done is done on a live reference of the caller, or of caller 0,
-- that has the right to it, and all whose bits were issued when it began.

-- the entry began the reference, and its bits were issued then
abbrev pub BeganHere : Live → Event → Answer → List Entry → Type 0
BeganHere r (events.Begin caller file bits end) (answers.Ref number) h =
    (r ≡ record { caller = caller; number = number; file = file; bits = bits; end = end; tag = (context h file).seq })
    × (covers (client h file).issued bits ≡ true)
BeganHere r _ _ h = ⊥

-- some entry did
abbrev pub WasIssued : List Entry → Live → Type 0
WasIssued [] r = ⊥
WasIssued (x ∷ h) r = BeganHere r x.event x.answer h ⊎ WasIssued h r

-- the name that a caller uses is that of the reference
abbrev pub IsNamed : ℕ → RefName → Live → Type 0
IsNamed caller (names.Own number) r = (r.caller ≡ caller) × (r.number ≡ number)
IsNamed caller (names.Kept number) r = (r.caller ≡ 0) × (r.number ≡ number)

pub record IsIssued (may : Caps → Bool) (caller : ℕ) (name : RefName) (h : List Entry) : Type 0 where
  pub reference : Live
  pub named : IsNamed caller name reference
  pub lives : Member reference (live h)
  pub permitted : may reference.bits ≡ true
  pub issued : WasIssued h reference

abbrev pub UseIsIssued : Event → Answer → List Entry → Type 0
UseIsIssued (events.Write caller name off bytes) answers.Wrote h = IsIssued may_write caller name h
UseIsIssued (events.Read caller name off len) (answers.Bytes bytes) h = IsIssued may_read caller name h
UseIsIssued (events.Chmod caller name mode) answers.Done h = IsIssued may_change_mode caller name h
UseIsIssued _ _ h = Unit {0}

abbrev pub UsesAreIssued : List Entry → Type 0
UsesAreIssued [] = Unit {0}
UsesAreIssued (x ∷ h) = UseIsIssued x.event x.answer h × UsesAreIssued h

-- Acknowledgements are free: at each no bit is in use that was implemented before it and isn't among its bits.

abbrev pub AckIsFree : Event → Answer → List Entry → Type 0
AckIsFree (events.Check f) (answers.Ack seq bits) h = meet (minus (client h f).implemented bits) (used h f) ≡ no_caps
AckIsFree _ _ h = Unit {0}

abbrev pub AcksAreFree : List Entry → Type 0
AcksAreFree [] = Unit {0}
AcksAreFree (x ∷ h) = AckIsFree x.event x.answer h × AcksAreFree h

-- Flushes stand once, in order.

-- the number of a flush, if it is of the file
abbrev pub tid_on : ℕ → Option Flush → List ℕ
tid_on f None = []
tid_on f (Some x) = if x.file == f then x.tid ∷ [] else []

-- the numbers of a file's flushes among these records, in order
abbrev pub tids : ℕ → List Record → List ℕ
tids f rs = flat_map (λ r. tid_on f (flush_in r.body)) rs

-- how often a number stands in a list
abbrev pub times : ℕ → List ℕ → ℕ
times n [] = 0
times n (x ∷ xs) = if x == n then times n xs + 1 else times n xs

-- the numbers of each file's standing flushes rise strictly
abbrev pub FlushesRise : List Entry → Type 0
FlushesRise h = (f : ℕ) → RisesFrom 0 (tids f (stand h))

-- a flush that is acknowledged in the first history stands exactly once in the later one
abbrev pub AckedStandOnce : List Entry → List Entry → Type 0
AckedStandOnce h later = Each (λ x. is_acked h x ≡ true → times x.tid (tids x.file (stand later)) ≡ 1) (sent h)

pub record FlushesStandOnce (h : List Entry) : Type 0 where
  pub rise : InEveryPrefix FlushesRise h
  pub once : InEveryPrefix (λ later. InEveryPrefix (λ before. AckedStandOnce before later) later) h

-- Held covers implemented: while the server's session isn't broken, the server takes for held each bit that the client
-- implements.

abbrev pub IsCovered : List Entry → Type 0
IsCovered h = is_broken (server_state h) ≡ false → (f : ℕ) → covers (server h f).held (client h f).implemented ≡ true

abbrev pub HeldCoversImplemented : List Entry → Type 0
HeldCoversImplemented h = InEveryPrefix IsCovered h

-- Requests stand once, in order.

abbrev pub request_tids_of : RecordBody → List ℕ
request_tids_of (bodies.Request tid op answer) = tid ∷ []
request_tids_of _ = []

-- the numbers of the requests among these records, in order
abbrev pub request_tids : List Record → List ℕ
request_tids rs = flat_map (λ r. request_tids_of r.body) rs

-- the numbers of the standing requests rise strictly
abbrev pub RequestsRise : List Entry → Type 0
RequestsRise h = RisesFrom 0 (request_tids (stand h))

-- the request of a number stands exactly once in the history, with this answer
pub record StandsOnce (h : List Entry) (t : ℕ) (answer : OpAnswer) : Type 0 where
  pub once : times t (request_tids (stand h)) ≡ 1
  pub answered : answer_kept t (stand h) ≡ Some answer

-- of a request the client was told in the first history that its record is durable: it stands exactly once in the later one, with the
-- answer with which it stands in the first one
abbrev pub SavedStandOnce : List Entry → List Entry → Type 0
SavedStandOnce h later = (t : ℕ) → is_saved h t ≡ true → (a : OpAnswer) × (StandsOnce h t a × StandsOnce later t a)

pub record RequestsStandOnce (h : List Entry) : Type 0 where
  pub rise : InEveryPrefix RequestsRise h
  pub once : InEveryPrefix (λ later. InEveryPrefix (λ before. SavedStandOnce before later) later) h

-- Replies stand: while the server's session is active, each request to which an answer was delivered stands once, with that answer.

abbrev pub AnsweredStand : List Entry → Type 0
AnsweredStand h = is_active (server_state h) ≡ true → Each (λ r. StandsOnce h r.tid r.answer) (replies h)

abbrev pub RepliesStand : List Entry → Type 0
RepliesStand h = InEveryPrefix AnsweredStand h

-- Leases stand: while the server's session is active, an entry on which the client has a lease that a look-up would tell stands in the
-- namespace, with the inode that it would tell.

abbrev pub LeasedStand : List Entry → Type 0
LeasedStand h =
    is_active (server_state h) ≡ true → (d : ℕ) (name : List ℕ) (i : ℕ) → looked_up (lease h d name) (clock h) ≡ answers.Hit i
    → option_map (λ e. e.ino) (entry_at (names h) d name) ≡ Some i

abbrev pub LeasesStand : List Entry → Type 0
LeasesStand h = InEveryPrefix LeasedStand h

-- All of them

pub record Laws (h : List Entry) : Type 0 where
  pub uses_are_issued : UsesAreIssued h
  pub acks_are_free : AcksAreFree h
  pub flushes_stand_once : FlushesStandOnce h
  pub held_covers_implemented : HeldCoversImplemented h
  pub requests_stand_once : RequestsStandOnce h
  pub replies_stand : RepliesStand h
  pub leases_stand : LeasesStand h
