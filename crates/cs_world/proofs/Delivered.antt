-- The parts after a delivery.
use Rattle.std.proofs.Common.{◌≡◌, ◌∙◌, refl, sym, ap, subst, ℕ, ◌==◌, Bool, true, false, cond, List, [], ◌∷◌, ◌++◌, drop, nat_lt, reverse, Some, None}
use Rattle.std.proofs.lemmas.Bool.{true≢false}
use Rattle.std.proofs.lemmas.List.{append-nil}
use Rattle.std.specs.BTreeMap.{get}
use Rattle.std.specs.Option.{option_map}
use Rattle.std.specs.Ordering.{nat_cmp}
use Rattle.cs_snapctx.specs.declared.realm.RealmRecord.{RealmRecord}
use Rattle.cs_snapctx.specs.Context.{Context}
use Rattle.cs_snapctx.specs.Records.{with_records}
use Rattle.cs_tree.specs.Directories.{path_of}
use Rattle.cs_refs.specs.Table.{begun_of}
use Rattle.cs_inode.specs.Calls.{needs_snap_at, with_caps, with_context_at}
use Rattle.cs_inode.specs.Inodes.{after_ack, new_inode}
use Rattle.cs_laws.specs.declared.events.Event.TheVariants as events
use Rattle.cs_laws.specs.declared.answers.Answer.{Answer}
use Rattle.cs_laws.specs.declared.answers.Answer.TheVariants as answers
use Rattle.cs_laws.specs.declared.answers.Entry.{Entry}
use Rattle.cs_laws.specs.declared.messages.Message.{Message}
use Rattle.cs_laws.specs.declared.messages.Message.TheVariants as messages
use Rattle.cs_laws.specs.declared.requests.OpAnswer.{OpAnswer}
use Rattle.cs_laws.specs.Answers.{answer, answer_flushed, answer_received, answer_requested, answer_to_client_of, answer_to_mds_of, count_made, held_after}
use Rattle.cs_laws.specs.Carried.{is_for_client, realms_of}
use Rattle.cs_laws.specs.Context.{path_context, with_first}
use Rattle.cs_laws.specs.ClientKnows.{client_files, client_knows, client_file_path, client_home}
use Rattle.cs_laws.specs.Flight.{to_client_then}
use Rattle.cs_laws.specs.History.{context, durable, fresh, realms, server, stand, to_client, to_server}
use Rattle.cs_laws.specs.Leases.{lease}
use Rattle.cs_laws.specs.Namespace.{is_named}
use Rattle.cs_laws.specs.Runs.{IsRun}
use Rattle.cs_laws.specs.Standing.{greatest_request, greatest_tid}
use Rattle.cs_client.specs.declared.file.ClientFile.{ClientFile}
use Rattle.cs_client.specs.Messages as client
use Rattle.cs_client.specs.Messages.{Accepts, Delivered, delivered_row}
use Rattle.cs_client.specs.Replies.{lease_told, requests_told}
use Rattle.cs_client.specs.Requests.{lease_of}
use Rattle.cs_client.specs.Rows.{at_file}
use Rattle.cs_client.specs.Told.{count_changed, needs_at, told_row}
use Rattle.cs_client.specs.Views.{ClientView}
use Rattle.cs_mds.specs.Answers as server_side
use Rattle.cs_mds.specs.Answers.{message_sent}
use Rattle.cs_mds.specs.Served.{Served}
use Rattle.cs_mds.specs.Views.{ServerView}
use Rattle.cs_files.specs.Rows.{inode}
use Rattle.cs_files.proofs.Delivered.{can_deliver}
use Rattle.cs_files.proofs.Told.{context_told, count_is}
use Rattle.cs_world.specs.OpenRequests.{request_table}
use Rattle.cs_world.specs.Parts.{After, ClientAt, LinksAt, ServerAt, client_row}
use Rattle.cs_world.proofs.Client.{TreeAt}
use Rattle.cs_world.proofs.Recorded.{delivered_records}
use Rattle.cs_world.proofs.Replies.{files_after, leases_after, row_after, table_after, table_closed, tree_after}
use Rattle.cs_world.proofs.Rows.{at_known, only_known, row_by, row_is, row_is_by}
use Rattle.cs_world.proofs.Serves.{server_after, stands}

abbrev delivered : Answer → List Entry → List Entry
delivered a h = record { event = events.ToClient; answer = a } ∷ h

-- To the client

module _ (p : ℕ) (h : List Entry) (run : IsRun p h) (v : ClientView) (i : ClientAt h v) where
  -- the client after a message, by what it makes of its parts
  client_delivered : (m : Message) (a : Answer) (w : ClientView) → Delivered v w m → TreeAt (delivered a h) w.tree
      → with_records (realms_of m) (realms h) ≡ realms (delivered a h) → ((f : ℕ) → delivered_row m v f ≡ client_row (delivered a h) f)
      → w.made ≡ reverse (client_files (delivered a h)) → requests_told m v.requests ≡ request_table (delivered a h)
      → ((d : ℕ) (name : List ℕ) → lease_told m v.requests v.clock d name (lease_of v.leases d name) ≡ lease (delivered a h) d name)
      → ClientAt (delivered a h) w
  client_delivered m a w c tree now rows made table leases = record {
    clock = c.clock ∙ i.clock;
    tree = tree;
    realms = c.realms ∙ (ap (λ ts. with_records (realms_of m) ts) i.realms ∙ now);
    rows = λ f. c.rows f ∙ rows f;
    made = made;
    live = ap (λ t. t.live) c.refs ∙ i.live;
    begun = λ d. ap (λ t. begun_of d t) c.refs ∙ i.begun d;
    requests = c.requests ∙ table;
    leases = λ d name. c.leases d name ∙ leases d name;
    operations = c.operations ∙ i.operations;
    flushes = c.flushes ∙ i.flushes;
  }

  -- a row that the message may change
  row_told : (a : Answer) (f : ℕ) → a ≡ answer p h events.ToClient → row_by h events.ToClient a f ≡ client_row (delivered a h) f
  row_told a f is = row_is_by p h events.ToClient a f run is (can_deliver h)

  -- Files whose contexts follow

  module _ (number realm : ℕ) (now : List RealmRecord) (rest : List Message) (first : to_client h ≡ messages.Snap number realm now ∷ rest) where
    abbrev told_of : ℕ → Context
    told_of f = path_context (client_file_path h f) (with_records now (realms h))

    context_is : (f : ℕ) → path_context (path_of v.tree (client_home h f)) (with_records now v.realms) ≡ told_of f
    context_is f = λ k. path_context (i.tree.paths (client_home h f) k) (with_records now (i.realms k))

    abbrev needs : ℕ → Bool
    needs f = needs_at (path_of v.tree) (with_records now v.realms) (get nat_cmp v.files f)

    needs_is : (f : ℕ) → client_knows h f ≡ true → needs f ≡ needs_snap_at (told_of f) (inode h f)
    needs_is f known = rw (i.rows f, known) (ap (λ c. needs_snap_at c (inode h f)) (context_is f))

    count_told : count_changed (path_of v.tree) (with_records now v.realms) v.files v.made ≡ count_made h told_of (client_files h)
    count_told =
        ap (λ fs. count_changed (path_of v.tree) (with_records now v.realms) v.files fs) i.made
        ∙ sym (count_is p h run told_of needs needs_is)

    rows_told : (made f : ℕ) → option_map (told_row (path_of v.tree) (with_records now v.realms)) (get nat_cmp v.files f)
        ≡ row_by h events.ToClient (answers.SnapTold number realm made) f
    rows_told made f = ap (λ o. option_map (told_row (path_of v.tree) (with_records now v.realms)) o) (i.rows f) ∙ at (client_knows h f)
      where
        same : path_context (path_of v.tree (client_home h f)) (with_records now v.realms) ≡ context (delivered (answers.SnapTold number realm made) h) f
        same = context_is f ∙ sym (context_told h number realm made now f (record { rest = rest; first = first }))

        at : (b : Bool) → option_map (told_row (path_of v.tree) (with_records now v.realms)) (cond b (Some (record { inode = inode h f; home = client_home h f })) None)
            ≡ row_is b
            (cond b (with_context_at (context (delivered (answers.SnapTold number realm made) h) f) (inode h f))
            (new_inode f (context (delivered (answers.SnapTold number realm made) h) f))) (client_home h f)
        at true = ap (λ c. Some (let r : ClientFile = record { inode = with_context_at c (inode h f); home = client_home h f } in r)) same
        at false = refl

  -- The parts after a delivery to the client

  links_told : (m : Message) (a : Answer) (qs rest : List Message) → to_client h ≡ m ∷ rest → qs ≡ to_server h → drop 1 (to_client h) ≡ to_client (delivered a h)
      → to_server h ≡ to_server (delivered a h) → LinksAt (delivered a h) rest qs
  links_told m a qs rest first there less same = record { to_client = sym (ap (λ q. drop 1 q) first) ∙ less; to_server = there ∙ same }

  pub told_steps : (m : Message) (a : Answer) (w : ClientView) (s : ServerView) (qs rest : List Message) → to_client h ≡ m ∷ rest → Accepts v m
      → a ≡ client.message_answer v m → Delivered v w m → ServerAt h s → qs ≡ to_server h → After p h events.ToClient a w s rest qs
  told_steps (messages.Cap f seq bits end) a w s qs rest first ok said c j there =
      let P : Answer → Type 0 = λ b. After p h events.ToClient b w s rest qs in
      let is : answers.Cap f seq bits end ≡ answer p h events.ToClient = sym (ap (λ q. answer_to_client_of h q) first) in
      let known : P (answers.Cap f seq bits end) = record {
        answer = is;
        client =
            client_delivered (messages.Cap f seq bits end) (answers.Cap f seq bits end) w c (subst (λ tree. TreeAt h tree) (sym c.tree) i.tree) refl
            (λ g. ap (λ o. at_file f (with_caps bits seq end) g o) (i.rows g)
            ∙ (at_known (f == g) (client_knows h g) (with_caps bits seq end) (inode h g) (client_home h g)
            ∙ (only_known (client_knows h g) _ _ (client_home h g) ∙ row_told (answers.Cap f seq bits end) g is)))
            (c.made ∙ i.made) i.requests i.leases;
        server = j;
        links = links_told (messages.Cap f seq bits end) (answers.Cap f seq bits end) qs rest first there refl refl;
      } in
      subst P (sym said) known
  told_steps (messages.FlushAck f tid) a w s qs rest first ok said c j there =
      let P : Answer → Type 0 = λ b. After p h events.ToClient b w s rest qs in
      let is : answers.FlushAck f tid ≡ answer p h events.ToClient = sym (ap (λ q. answer_to_client_of h q) first) in
      let known : P (answers.FlushAck f tid) = record {
        answer = is;
        client =
            client_delivered (messages.FlushAck f tid) (answers.FlushAck f tid) w c (subst (λ tree. TreeAt h tree) (sym c.tree) i.tree) refl
            (λ g. ap (λ o. at_file f (after_ack tid) g o) (i.rows g)
            ∙ (at_known (f == g) (client_knows h g) (after_ack tid) (inode h g) (client_home h g)
            ∙ (only_known (client_knows h g) _ _ (client_home h g) ∙ row_told (answers.FlushAck f tid) g is)))
            (c.made ∙ i.made) i.requests i.leases;
        server = j;
        links = links_told (messages.FlushAck f tid) (answers.FlushAck f tid) qs rest first there refl refl;
      } in
      subst P (sym said) known
  told_steps (messages.Snap number realm now) a w s qs rest first ok said c j there =
      let P : Answer → Type 0 = λ b. After p h events.ToClient b w s rest qs in
      let n : ℕ = count_changed (path_of v.tree) (with_records now v.realms) v.files v.made in
      let is : answers.SnapTold number realm n ≡ answer p h events.ToClient =
      ap (λ k. answers.SnapTold number realm k) (count_told number realm now rest first) ∙ sym (ap (λ q. answer_to_client_of h q) first) in
      let known : P (answers.SnapTold number realm n) = record {
        answer = is;
        client =
            client_delivered (messages.Snap number realm now) (answers.SnapTold number realm n) w c (subst (λ tree. TreeAt h tree) (sym c.tree) i.tree)
            (sym (ap (λ q. with_first q (realms h)) first))
            (λ f. rows_told number realm now rest first n f ∙ row_told (answers.SnapTold number realm n) f is)
            (c.made ∙ i.made) i.requests i.leases;
        server = j;
        links = links_told (messages.Snap number realm now) (answers.SnapTold number realm n) qs rest first there refl refl;
      } in
      subst P (sym said) known
  told_steps (messages.Unsafe tid o ttl) a w s qs rest first ok said c j there =
      let P : Answer → Type 0 = λ b. After p h events.ToClient b w s rest qs in
      let known : P (answers.Unsafe tid o) = record {
        answer = sym (ap (λ q. answer_to_client_of h q) first);
        client =
            client_delivered (messages.Unsafe tid o ttl) (answers.Unsafe tid o) w c (tree_after p h run v i tid o ttl rest first w.tree c.tree) refl
            (λ f. row_after p h run v i tid o ttl rest first f) (c.made ∙ files_after p h run v i tid o ttl rest first)
            (table_after p h run v i tid o ttl rest first) (λ d name. leases_after p h run v i tid o ttl rest first d name);
        server = j;
        links = links_told (messages.Unsafe tid o ttl) (answers.Unsafe tid o) qs rest first there refl refl;
      } in
      subst P (sym said) known
  told_steps (messages.Safe tid) a w s qs rest first ok said c j there =
      let P : Answer → Type 0 = λ b. After p h events.ToClient b w s rest qs in
      let known : P (answers.Safe tid) = record {
        answer = sym (ap (λ q. answer_to_client_of h q) first);
        client =
            client_delivered (messages.Safe tid) (answers.Safe tid) w c (subst (λ tree. TreeAt h tree) (sym c.tree) i.tree) refl i.rows
            (c.made ∙ i.made) (table_closed h v i tid) i.leases;
        server = j;
        links = links_told (messages.Safe tid) (answers.Safe tid) qs rest first there refl refl;
      } in
      subst P (sym said) known
  told_steps (messages.Unlease d name) a w s qs rest first ok said c j there =
      let P : Answer → Type 0 = λ b. After p h events.ToClient b w s rest qs in
      let known : P (answers.Unlease d name) = record {
        answer = sym (ap (λ q. answer_to_client_of h q) first);
        client =
            client_delivered (messages.Unlease d name) (answers.Unlease d name) w c (subst (λ tree. TreeAt h tree) (sym c.tree) i.tree) refl i.rows
            (c.made ∙ i.made) i.requests (λ e other. ap (λ was. cond (is_named e other d name) None was) (i.leases e other));
        server = j;
        links = links_told (messages.Unlease d name) (answers.Unlease d name) qs rest first there refl refl;
      } in
      subst P (sym said) known
  told_steps (messages.Req tid ino op) a w s qs rest first ok said c j there = absurd ok
  told_steps (messages.CapAck f seq bits) a w s qs rest first ok said c j there = absurd ok
  told_steps (messages.Flush f tid follows meta) a w s qs rest first ok said c j there = absurd ok
  told_steps (messages.FlushSnap f tid follows meta) a w s qs rest first ok said c j there = absurd ok

-- To the server

-- what the server answers is what the history says
pub heard_is : (p : ℕ) (h : List Entry) (s : ServerView) (m : Message) → ServerAt h s → server_side.message_answer s m ≡ answer_received h m
heard_is p h s (messages.CapAck f seq bits) i = ap (λ x. answers.CapAck f seq (held_after x seq bits)) (i.caps f)
heard_is p h s (messages.Flush f tid follows meta) i = ap (λ rs. answer_flushed rs f tid) (stands p h s i)
heard_is p h s (messages.FlushSnap f tid follows meta) i = ap (λ rs. answer_flushed rs f tid) (stands p h s i)
heard_is p h s (messages.Req tid ino op) i = λ k. answer_requested (stands p h s i k) (i.names k) tid op
heard_is p h s _ i = refl

pub heard_answer : (p : ℕ) (h : List Entry) (s : ServerView) (m : Message) (rest : List Message) (a : Answer) → ServerAt h s → to_server h ≡ m ∷ rest
    → a ≡ server_side.message_answer s m → a ≡ answer p h events.ToMds
heard_answer p h s m rest a i first said = said ∙ (heard_is p h s m i ∙ sym (ap (λ q. answer_to_mds_of h q) first))

abbrev received : Answer → List Entry → List Entry
received a h = record { event = events.ToMds; answer = a } ∷ h

-- the message is taken off the link
taken : (h : List Entry) (m : Message) (rest : List Message) (a : Answer) → is_for_client m ≡ false → a ≡ answer_received h m → to_server h ≡ m ∷ rest
    → rest ≡ to_server (received a h)
taken h m rest a away said first = sym (ap (λ q. drop 1 q) first) ∙ at m away said
  where
    flushed : (b : Bool) (f tid : ℕ) → a ≡ cond b (answers.Flushed f tid) (answers.FlushDup f tid) → drop 1 (to_server h) ≡ to_server (received a h)
    flushed true f tid is = subst (λ y. drop 1 (to_server h) ≡ to_server (received y h)) (sym is) refl
    flushed false f tid is = subst (λ y. drop 1 (to_server h) ≡ to_server (received y h)) (sym is) refl

    asked : (b : Bool) (tid : ℕ) (o again : OpAnswer) → a ≡ cond b (answers.Req tid o) (answers.ReqDup tid again) → drop 1 (to_server h) ≡ to_server (received a h)
    asked true tid o again is = subst (λ y. drop 1 (to_server h) ≡ to_server (received y h)) (sym is) refl
    asked false tid o again is = subst (λ y. drop 1 (to_server h) ≡ to_server (received y h)) (sym is) refl

    at : (m : Message) → is_for_client m ≡ false → a ≡ answer_received h m → drop 1 (to_server h) ≡ to_server (received a h)
    at (messages.CapAck f seq bits) away is = subst (λ y. drop 1 (to_server h) ≡ to_server (received y h)) (sym is) refl
    at (messages.Flush f tid follows meta) away is = flushed (nat_lt (greatest_tid f (stand h)) tid) f tid is
    at (messages.FlushSnap f tid follows meta) away is = flushed (nat_lt (greatest_tid f (stand h)) tid) f tid is
    at (messages.Req tid ino op) away is = asked (nat_lt (greatest_request (stand h)) tid) tid _ _ is
    at (messages.Cap f seq bits end) away is = absurd (true≢false away)
    at (messages.Unsafe tid o ttl) away is = absurd (true≢false away)
    at (messages.Unlease d name) away is = absurd (true≢false away)
    at (messages.Safe tid) away is = absurd (true≢false away)
    at (messages.FlushAck f tid) away is = absurd (true≢false away)
    at (messages.Snap number realm now) away is = absurd (true≢false away)

-- a repeated flush may be acknowledged, and a request is answered
again_then : (h : List Entry) (a : Answer) (q new : List Message) → q ++ message_sent a (durable h) ≡ to_client_then events.ToMds a (λ f. server h f) (durable h) new q
again_then h (answers.Req tid o) q new = refl
again_then h (answers.ReqDup tid o) q new = refl
again_then h (answers.FlushDup f tid) q new = refl
again_then h _ q new = append-nil q

pub received_steps : (p : ℕ) (h : List Entry) (m : Message) (a : Answer) (v : ClientView) (s t : ServerView) (ms ps rest : List Message) → to_server h ≡ m ∷ rest
    → is_for_client m ≡ false → ClientAt h v → ServerAt h s → a ≡ server_side.message_answer s m → Served (m ∷ []) s t events.ToMds a → ms ≡ to_client h
    → ps ≡ ms ++ message_sent a s.durable → After p h events.ToMds a v t ps rest
received_steps p h m a v s t ms ps rest first away i j said d there sent = record {
  answer = heard_answer p h s m rest a j first said;
  client = i;
  server = server_after h s t events.ToMds a (m ∷ []) refl (delivered_records h m rest a first) j d;
  links = record {
    to_client = sent ∙ ((λ k. there k ++ message_sent a (j.durable k)) ∙ again_then h a (to_client h) _);
    to_server = taken h m rest a away (said ∙ heard_is p h s m j) first;
  };
}
