-- What a call leaves of the client, sends and writes.
use Rattle.std.specs.Prelude.{◌≡◌, ℕ, ◌+◌, ◌<◌, ◌≤◌, ◌==◌, ◌||◌, Bool, true, false, List, [], ◌∷◌, ◌++◌, Option, Some, None, length, if◌then◌else◌}
use Rattle.std.specs.BTreeMap.{get}
use Rattle.std.specs.Option.{option_map_or}
use Rattle.std.specs.Ordering.{nat_cmp}
use Rattle.cs_parts.specs.declared.references.Live.{Live}
use Rattle.cs_tree.specs.declared.directories.Directory.{Directory}
use Rattle.cs_tree.specs.Directories.{depth_of, has_directory, inos, path_of}
use Rattle.cs_refs.specs.Table.{RefTable, begun_of}
use Rattle.cs_inode.specs.declared.answers.FlushStep.{FlushStep}
use Rattle.cs_inode.specs.declared.answers.FlushStep.TheVariants as flush
use Rattle.cs_inode.specs.declared.answers.SnapStep.{SnapStep}
use Rattle.cs_inode.specs.declared.answers.SnapStep.TheVariants as snap
use Rattle.cs_inode.specs.Answers.{flush_answer, flush_snaps_answer}
use Rattle.cs_inode.specs.Inodes.{write_operations}
use Rattle.cs_laws.specs.declared.events.Event.{Event}
use Rattle.cs_laws.specs.declared.events.Event.TheVariants as events
use Rattle.cs_laws.specs.declared.answers.Answer.{Answer}
use Rattle.cs_laws.specs.declared.answers.Answer.TheVariants as answers
use Rattle.cs_laws.specs.declared.messages.Message.{Message}
use Rattle.cs_laws.specs.declared.messages.Message.TheVariants as messages
use Rattle.cs_laws.specs.declared.objects.ObjOp.{ObjOp}
use Rattle.cs_laws.specs.Events.{begun_then, clock_then}
use Rattle.cs_laws.specs.References.{live_then, named}
use Rattle.cs_laws.specs.Tree.{with_directory}
use Rattle.cs_client.specs.declared.file.ClientFile.{ClientFile}
use Rattle.cs_client.specs.Requests.{lease_after, lease_of, request_sent, requests_after}
use Rattle.cs_client.specs.Rows.{row_after}
use Rattle.cs_client.specs.Views.{ClientView, Files, is_kept}

-- When it may be called

-- the event is one of the client's own
abbrev pub is_call : Event → Bool
is_call (events.Dir d p) = true
is_call (events.File f p) = true
is_call (events.Clock t) = true
is_call (events.Begin caller f bits end) = true
is_call (events.End caller name) = true
is_call (events.Write caller name off bytes) = true
is_call (events.Read caller name off len) = true
is_call (events.Chmod caller name mode) = true
is_call (events.Check f) = true
is_call (events.Flush f) = true
is_call (events.FlushSnaps f) = true
is_call (events.Lookup caller d name) = true
is_call (events.Req caller op) = true
is_call _ = false

-- a directory or a file of the client has the inode
abbrev pub is_in_use : ℕ → List Directory → Files → Bool
is_in_use i tree files = has_directory i tree || is_kept files i

-- the inode is new, and the directory p is one of the tree
pub record IsNewIn (i p : ℕ) (tree : List Directory) (files : Files) : Type 0 where
  pub unused : is_in_use i tree files ≡ false
  pub parent : has_directory p tree ≡ true

-- of an inode that is new to it the client is told together with a directory p that it knows
abbrev pub IsNewInode : ℕ → ℕ → ClientView → Type 0
IsNewInode i p v = IsNewIn i p v.tree v.files

-- a directory or a file of which it is told is new to it
abbrev pub IsNewTo : ClientView → Event → Type 0
IsNewTo v (events.Dir d p) = IsNewInode d p v
IsNewTo v (events.File f p) = IsNewInode f p v
IsNewTo v _ = Unit {0}

-- there are numbers left to draw
pub record HasNumbers (v : ClientView) : Type 0 where
  pub operations : v.operations < 99998
  pub flushes : v.flushes < 99998
  pub begun : (c : ℕ) → begun_of c v.refs < 99998
  pub requests : v.requests.sent < 99998

-- at most so many numbers of each kind were drawn
pub record HasDrawn (k : ℕ) (v : ClientView) : Type 0 where
  pub operations : v.operations ≤ k
  pub flushes : v.flushes ≤ k
  pub begun : (c : ℕ) → begun_of c v.refs ≤ k
  pub requests : v.requests.sent ≤ k

-- What it leaves

-- a directory was added below another one
pub record AddsDirectory (d p : ℕ) (old new : List Directory) : Type 0 where
  pub members : (e : ℕ) → has_directory e new ≡ ((d == e) || has_directory e old)
  pub order : inos new ≡ with_directory (depth_of new) d (inos old)
  pub paths : (e : ℕ) → path_of new e ≡ (if d == e then d ∷ path_of old p else path_of old e)

abbrev pub TreeAfter : Event → Answer → List Directory → List Directory → Type 0
TreeAfter (events.Dir d p) answers.Made old new = AddsDirectory d p old new
TreeAfter _ _ old new = new ≡ old

abbrev pub made_after : Event → Answer → List ℕ → List ℕ
made_after (events.File f p) answers.Made fs = fs ++ f ∷ []
made_after _ _ fs = fs

-- the seq of the context of a file that is kept
abbrev pub seq_of : Files → ℕ → ℕ
seq_of files f = option_map_or (λ r. r.inode.context.seq) (get nat_cmp files f) 0

-- seq f: the seq of f's context before
pub record RefsAfter (e : Event) (a : Answer) (seq : ℕ → ℕ) (old new : RefTable) : Type 0 where
  pub live : new.live ≡ live_then e a seq old.live
  pub begun : (c : ℕ) → begun_of c new ≡ begun_then e a c (begun_of c old)

abbrev pub flushes_after : Event → Answer → ℕ → ℕ
flushes_after (events.Flush f) (answers.Flush tid) n = n + 1
flushes_after (events.FlushSnaps f) (answers.FlushSnap tid follows) n = n + 1
flushes_after _ _ n = n

-- those of a write on a reference, with numbers from the next one on; count: how many were drawn
abbrev pub operations_on : Option Live → ℕ → List ℕ → ℕ → Files → List ObjOp
operations_on None off bytes count files = []
operations_on (Some r) off bytes count files =
    option_map_or (λ x. write_operations (count + 1) off bytes x.inode) (get nat_cmp files r.file) []

-- named: the reference that the write names, if it lives
abbrev pub written_operations : Option Live → ℕ → List ℕ → Answer → ℕ → Files → List ObjOp
written_operations named off bytes answers.Wrote count files = operations_on named off bytes count files
written_operations named off bytes _ count files = []

-- the operations of a call, in order; v: the client before it
abbrev pub call_operations : Event → Answer → ClientView → List ObjOp
call_operations (events.Write caller name off bytes) a v = written_operations (named caller name v.refs.live) off bytes a v.operations v.files
call_operations _ a v = []

pub record Called (old new : ClientView) (e : Event) (a : Answer) : Type 0 where
  pub clock : new.clock ≡ clock_then e a old.clock
  pub tree : TreeAfter e a old.tree new.tree
  pub realms : new.realms ≡ old.realms
  pub rows : (f : ℕ) → get nat_cmp new.files f ≡ row_after e a old f
  pub made : new.made ≡ made_after e a old.made
  pub refs : RefsAfter e a (seq_of old.files) old.refs new.refs
  pub requests : new.requests ≡ requests_after e a old.requests
  pub leases : (d : ℕ) (name : List ℕ) → lease_of new.leases d name ≡ lease_after e a d name (lease_of old.leases d name)
  pub operations : new.operations ≡ old.operations + length (call_operations e a old)
  pub flushes : new.flushes ≡ flushes_after e a old.flushes

-- What it sends to the server

abbrev pub check_sent : ℕ → Answer → List Message
check_sent f (answers.Ack seq bits) = messages.CapAck f seq bits ∷ []
check_sent f _ = []

abbrev pub flush_message : ℕ → FlushStep → List Message
flush_message f (flush.Sent x) = messages.Flush f x.tid x.follows x.meta ∷ []
flush_message f _ = []

-- row: the file's before
abbrev pub flush_sent : ℕ → Answer → Option ClientFile → List Message
flush_sent f (answers.Flush tid) row = option_map_or (λ r. flush_message f (flush_answer tid r.inode)) row []
flush_sent f _ row = []

abbrev pub snap_message : ℕ → SnapStep → List Message
snap_message f (snap.Sent x) = messages.FlushSnap f x.tid x.follows x.meta ∷ []
snap_message f _ = []

abbrev pub flush_snaps_sent : ℕ → Answer → Option ClientFile → List Message
flush_snaps_sent f (answers.FlushSnap tid follows) row = option_map_or (λ r. snap_message f (flush_snaps_answer tid r.inode)) row []
flush_snaps_sent f _ row = []

-- v: the client before the call
abbrev pub call_sent : Event → Answer → ClientView → List Message
call_sent (events.Check f) a v = check_sent f a
call_sent (events.Flush f) a v = flush_sent f a (get nat_cmp v.files f)
call_sent (events.FlushSnaps f) a v = flush_snaps_sent f a (get nat_cmp v.files f)
call_sent (events.Req caller op) a v = request_sent op a
call_sent _ a v = []

-- When it calls the lent store

abbrev pub has_some : List ℕ → Bool
has_some [] = false
has_some (b ∷ bs) = true

abbrev pub write_calls : Answer → Bool
write_calls answers.Wrote = true
write_calls _ = false

abbrev pub read_calls : Answer → Bool
read_calls (answers.Bytes bytes) = has_some bytes
read_calls _ = false

-- a call that is answered so calls the store
abbrev pub calls_store : Event → Answer → Bool
calls_store (events.Write caller name off bytes) a = write_calls a
calls_store (events.Read caller name off len) a = read_calls a
calls_store _ a = false
