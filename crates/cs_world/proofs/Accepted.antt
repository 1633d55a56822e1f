-- A side accepts the message that is delivered to it.
use Rattle.std.proofs.Common.{◌≡◌, ◌∙◌, refl, sym, ap, subst, ℕ, ◌+◌, ◌<◌, ◌≤◌, ◌||◌, Bool, true, false, cond, List, [], ◌∷◌, length, Option, Some, None, is_some, arith}
use Rattle.std.proofs.lemmas.Bool.{true≢false}
use Rattle.std.specs.List.{All}
use Rattle.std.specs.Option.{option_and_then, option_map}
use Rattle.cs_snapctx.specs.declared.realm.RealmRecord.{RealmRecord}
use Rattle.cs_snapctx.specs.Records.{with_record, with_records}
use Rattle.cs_tree.specs.Directories.{path_of}
use Rattle.cs_laws.specs.declared.answers.Entry.{Entry}
use Rattle.cs_laws.specs.declared.messages.Message.{Message}
use Rattle.cs_laws.specs.declared.messages.Message.TheVariants as messages
use Rattle.cs_laws.specs.declared.requests.OpAnswer.{OpAnswer}
use Rattle.cs_laws.specs.declared.requests.OpAnswer.TheVariants as replies_of
use Rattle.cs_laws.specs.declared.requests.ReqOp.{ReqOp}
use Rattle.cs_laws.specs.declared.requests.ReqOp.TheVariants as ops
use Rattle.cs_laws.specs.Carried.{is_for_client}
use Rattle.cs_laws.specs.Context.{differs, path_context}
use Rattle.cs_laws.specs.ClientKnows.{client_dir, client_home, client_knows}
use Rattle.cs_laws.specs.Flushes.{flush_record}
use Rattle.cs_laws.specs.History.{context, durable, fresh, realms, sent, stand, to_client, to_server}
use Rattle.cs_laws.specs.Made.{Made, made_by}
use Rattle.cs_laws.specs.Names.{names}
use Rattle.cs_laws.specs.Namespace.{Names, first_made, has_dir, next_ino}
use Rattle.cs_laws.specs.Requests.{has_reply, op_of, replies, requests}
use Rattle.cs_laws.specs.Runs.{IsRun}
use Rattle.cs_laws.specs.ServerKnows.{server_dir, server_knows}
use Rattle.cs_laws.specs.Spellings.{message_fits}
use Rattle.cs_requests.specs.declared.requests.OpenReq.{OpenReq}
use Rattle.cs_requests.specs.RequestTable.{RequestTable}
use Rattle.cs_requests.specs.Requests.{open_at}
use Rattle.cs_client.specs.Calls.{IsNewIn}
use Rattle.cs_client.specs.Messages.{Accepts, ParentsAreKnown}
use Rattle.cs_client.specs.Requests.{op_without_answer, unanswered}
use Rattle.cs_client.specs.Told.{ContextsRise, RisesIn}
use Rattle.cs_client.specs.Views.{ClientView, is_kept}
use Rattle.cs_mds.specs.Views.{IsWhole, ServerView}
use Rattle.cs_files.specs.Laws.{TellsNext}
use Rattle.cs_files.specs.Rows.{inode}
use Rattle.cs_files.proofs.Told.{context_rises}
use Rattle.cs_theorems.specs.Realms as told
use Rattle.cs_theorems.specs.Realms.{TellsKnownParents}
use Rattle.cs_theorems.specs.Underway.{IsToldClient}
use Rattle.cs_theorems.proofs.Acks.{run_acked}
use Rattle.cs_theorems.proofs.Applying.{run_tells_known}
use Rattle.cs_theorems.proofs.Asks.{asks_run, unsafe_next}
use Rattle.cs_theorems.proofs.FlushReplays.{flushes_numbered}
use Rattle.cs_theorems.proofs.Flying.{first_reply}
use Rattle.cs_theorems.proofs.Listed.{Member, member_first, member_left}
use Rattle.cs_theorems.proofs.Numbered.{run_numbered, upto_numbered}
use Rattle.cs_theorems.proofs.Sides.{named_dirs}
use Rattle.cs_theorems.proofs.Spelled.{messages_fit}
use Rattle.cs_theorems.proofs.Standing.{HasTid, has_record, tid_has}
use Rattle.cs_theorems.proofs.Underway.{received_known, told_known}
use Rattle.cs_theorems.proofs.Unused.{made_few, no_dir_yet, no_file_yet}
use Rattle.cs_world.specs.OpenRequests.{open_requests, request_table}
use Rattle.cs_world.specs.Parts.{ClientAt, ServerAt}
use Rattle.cs_world.proofs.Opens.{first_answer, first_op}
use Rattle.cs_world.proofs.Rows.{is_known}
use Rattle.cs_world.proofs.Serves.{knows}

-- The client

-- an acknowledgement that is on its way is of a flush that was sent
sent_before : (p : ℕ) (h : List Entry) (f tid : ℕ) → IsRun p h → Member (messages.FlushAck f tid) (to_client h) → tid ≤ length (sent h)
sent_before p h f tid run there =
    let found : HasTid f tid _ = tid_has f tid (durable h) ((run_acked p h run f).flying (messages.FlushAck f tid) there) in
    let stands : Member (flush_record found.flush) (stand h) = member_left _ (durable h) (fresh h) (has_record found.flush (durable h) found.there) in
    let was : Member found.flush (sent h) = (flushes_numbered p h run).standing (flush_record found.flush) stands in
    omega (arith, found.tid, upto_numbered (sent h) (run_numbered p h run) found.flush was)

parents_known : (ts now : List RealmRecord) → told.ParentsAreKnown ts now → ParentsAreKnown ts now
parents_known ts [] i = tt
parents_known ts (t ∷ now) i = (i.0, parents_known (with_record t ts) now i.1)

kept_is : (h : List Entry) (v : ClientView) (f : ℕ) → ClientAt h v → client_knows h f ≡ true → is_kept v.files f ≡ true
kept_is h v f i known = rw (i.rows f, known) refl

-- Answers to requests

-- the operation of an open request without an answer is that which was sent
pub unanswered_is : (h : List Entry) (t : ℕ) → has_reply t (replies h) ≡ false → unanswered t (open_requests h) ≡ op_of t (requests h)
unanswered_is h t none = at (open_at t (open_requests h)) (first_answer h t none) ∙ first_op h t none
  where
    by : (o : Option OpAnswer) (op : ReqOp) → o ≡ None → cond (is_some o) None (Some op) ≡ Some op
    by None op is = refl
    by (Some a) op is = absurd cc

    at : (o : Option OpenReq) → option_and_then (λ (r : OpenReq). r.answer) o ≡ None → option_and_then op_without_answer o ≡ option_map (λ (r : OpenReq). r.op) o
    at None is = refl
    at (Some r) is = by r.answer r.op is

-- only an inode that was made makes something
made_only : (op : Option ReqOp) (o : OpAnswer) (m : Made) → made_by op o ≡ m ∷ [] → (i : ℕ) × (o ≡ replies_of.Made i)
made_only (Some (ops.Mkdir d name)) (replies_of.Made i) m is = (i, refl)
made_only (Some (ops.Create d name)) (replies_of.Made i) m is = (i, refl)
made_only _ _ m is = absurd cc

module _ (p : ℕ) (h : List Entry) (run : IsRun p h) (v : ClientView) (i : ClientAt h v) (rest : List Message) where
  pub unanswered_at : (t : ℕ) → has_reply t (replies h) ≡ false → unanswered t v.requests.requests ≡ op_of t (requests h)
  unanswered_at t none = ap (λ (x : RequestTable). unanswered t x.requests) i.requests ∙ unanswered_is h t none

  -- what it tells that was made is new
  new_made : (t : ℕ) (o : OpAnswer) (ttl : ℕ) → to_client h ≡ messages.Unsafe t o ttl ∷ rest → (m : Made) → made_by (op_of t (requests h)) o ≡ m ∷ []
      → IsNewIn m.ino m.dir v.tree v.files
  new_made t o ttl first m is =
      let told = made_only (op_of t (requests h)) o m is in
      let new = ((unsafe_next p h run t o ttl rest first).first (first_reply p h run t o ttl rest first)).makes told.0 told.1 in
      let same : m ≡ new.made =
      let one : m ∷ [] ≡ new.made ∷ [] = sym is ∙ (ap (λ x. made_by (op_of t (requests h)) x) told.1 ∙ new.is) in cc in
      record {
        unused =
            (λ k. i.tree.known m.ino k || (ap is_some (i.rows m.ino) ∙ is_known (client_knows h m.ino) _ _) k)
            ∙ subst (λ j. (client_dir h j || client_knows h j) ≡ false) (sym (ap (λ (x : Made). x.ino) same ∙ new.ino))
            ((λ k. new.no_dir k || new.no_file k));
        parent = i.tree.known m.dir ∙ subst (λ (x : Made). client_dir h x.dir ≡ true) (sym same) new.above;
      }

  rises : (number realm : ℕ) (now : List RealmRecord) → to_client h ≡ messages.Snap number realm now ∷ rest
      → ContextsRise (path_of v.tree) (with_records now v.realms) v.files
  rises number realm now first f = subst (λ o. RisesIn (path_of v.tree) (with_records now v.realms) o) (sym (i.rows f)) (at (client_knows h f))
    where
      next : TellsNext h number realm now
      next = record { rest = rest; first = first }

      moves : differs (context h f) (path_context (path_of v.tree (client_home h f)) (with_records now v.realms)) ≡ true
          → (context h f).seq < (path_context (path_of v.tree (client_home h f)) (with_records now v.realms)).seq
      moves = rw (i.tree.paths (client_home h f), i.realms) (context_rises p h run number realm now f next)

      at : (b : Bool) → RisesIn (path_of v.tree) (with_records now v.realms) (cond b (Some (record { inode = inode h f; home = client_home h f })) None)
      at true = moves
      at false = tt

  pub accepted : (m : Message) → to_client h ≡ m ∷ rest → IsToldClient h m → Accepts v m
  accepted (messages.Cap f seq bits end) first told = kept_is h v f i told.1
  accepted (messages.FlushAck f tid) first told = record {
    kept = kept_is h v f i told.1;
    sent = let small : tid ≤ length (sent h) = sent_before p h f tid run (member_first (messages.FlushAck f tid) rest (to_client h) first) in omega (arith, small, i.flushes);
  }
  accepted (messages.Snap number realm now) first told = record {
    parents = rw i.realms (parents_known (realms h) now (subst (λ q. TellsKnownParents (realms h) q) first (run_tells_known p h run)));
    rises = rises number realm now first;
  }
  accepted (messages.Unsafe tid o ttl) first told = λ m is.
      new_made tid o ttl first m (ap (λ op. made_by op o) (sym (unanswered_at tid (first_reply p h run tid o ttl rest first))) ∙ is)
  accepted (messages.Safe tid) first told = tt
  accepted (messages.Unlease d name) first told = tt
  accepted (messages.Req tid ino op) first told = absurd (true≢false (sym told.0))
  accepted (messages.CapAck f seq bits) first told = absurd (true≢false (sym told.0))
  accepted (messages.Flush f tid follows meta) first told = absurd (true≢false (sym told.0))
  accepted (messages.FlushSnap f tid follows meta) first told = absurd (true≢false (sym told.0))

pub client_accepts : (p : ℕ) (h : List Entry) (v : ClientView) (m : Message) (rest : List Message) → IsRun p h → ClientAt h v → to_client h ≡ m ∷ rest → Accepts v m
client_accepts p h v m rest run i first = accepted p h run v i rest m first (told_known p h m rest run first)

-- The server

pub is_for_server : (p : ℕ) (h : List Entry) (m : Message) (rest : List Message) → IsRun p h → to_server h ≡ m ∷ rest → is_for_client m ≡ false
is_for_server p h m rest run first = (received_known p h run m (member_first m rest (to_server h) first)).0

pub fits_server : (p : ℕ) (h : List Entry) (m : Message) (rest : List Message) → IsRun p h → to_server h ≡ m ∷ rest → message_fits m ≡ true
fits_server p h m rest run first = let P : List Message → Type 0 = λ q. All (λ x. message_fits x ≡ true) q in first_of m rest (subst P first (messages_fit p h run))
  where
    first_of : (m : Message) (q : List Message) → All (λ x. message_fits x ≡ true) (m ∷ q) → message_fits m ≡ true
    first_of m q all = all 0 m (omega arith)

-- the server's tables are whole, and few inodes were drawn

pub is_whole : (p : ℕ) (h : List Entry) (s : ServerView) → IsRun p h → ServerAt h s → IsWhole s
is_whole p h s run i = record {
  dirs = λ d is. i.tree.known d ∙ named_dirs h (asks_run p h run) d (sym (ap (λ ns. has_dir ns d) i.names) ∙ is);
  new = λ j above.
      let yet : next_ino (names h) ≤ j = subst (λ ns. first_made + ns.made ≤ j) i.names above in
      (λ k. i.tree.known j k || knows p h s i j k) ∙ (λ k. no_dir_yet p h run j yet k || no_file_yet p h run j yet k);
}

pub has_inodes : (p : ℕ) (h : List Entry) (s : ServerView) → IsRun p h → ServerAt h s → length h < 10000 → s.names.made < 89999
has_inodes p h s run i room = omega (arith, ap (λ (ns : Names). ns.made) i.names, made_few p h run, room)
