-- The links after an event.
use Rattle.std.proofs.Common.{◌≡◌, ◌∙◌, refl, sym, ap, ℕ, Bool, true, false, cond, List, [], ◌∷◌, ◌++◌}
use Rattle.std.proofs.lemmas.List.{append-nil}
use Rattle.std.specs.BTreeMap.{get}
use Rattle.std.specs.Ordering.{nat_cmp}
use Rattle.cs_parts.specs.Capabilities.{granted, revoked}
use Rattle.cs_laws.specs.declared.events.Event.{Event}
use Rattle.cs_laws.specs.declared.events.Event.TheVariants as events
use Rattle.cs_laws.specs.declared.answers.Answer.{Answer}
use Rattle.cs_laws.specs.declared.answers.Answer.TheVariants as answers
use Rattle.cs_laws.specs.declared.answers.Entry.{Entry}
use Rattle.cs_laws.specs.declared.messages.Message.{Message}
use Rattle.cs_laws.specs.Answers.{answer, answer_flush, answer_flush_snaps}
use Rattle.cs_laws.specs.ClientKnows.{client_knows}
use Rattle.cs_laws.specs.Flight.{cap_message, to_client_then, to_server_then}
use Rattle.cs_laws.specs.Flushes.{flush_message}
use Rattle.cs_laws.specs.History.{durable, fresh, last_sent, present, server, snap, to_client, to_server}
use Rattle.cs_laws.specs.Runs.{IsRun}
use Rattle.cs_laws.specs.Standing.{news}
use Rattle.cs_laws.specs.ServerKnows.{server_dirs, server_path}
use Rattle.cs_records.specs.CommitNews.{commit_news}
use Rattle.cs_tree.specs.Directories.{inos, path_of}
use Rattle.cs_client.specs.Calls as calls
use Rattle.cs_client.specs.Calls.{call_sent, flush_sent, flush_snaps_sent, is_call, snap_message}
use Rattle.cs_client.specs.Views.{ClientView}
use Rattle.cs_mds.specs.Views.{ServerView}
use Rattle.cs_files.proofs.Flushes.{flush_sends, flush_snaps_sends}
use Rattle.cs_world.specs.Parts.{ClientAt, LinksAt, ServerAt}
use Rattle.cs_world.specs.Serving.{event_sent, is_served}
use Rattle.cs_world.proofs.News.{news_told}

-- To the server

flush_known : (b : Bool) (x : Answer) (tid : ℕ) → answers.Flush tid ≡ cond b x answers.Unknown → b ≡ true
flush_known true x tid is = refl
flush_known false x tid is = absurd (cc)

snap_known : (b : Bool) (x : Answer) (tid follows : ℕ) → answers.FlushSnap tid follows ≡ cond b x answers.Unknown → b ≡ true
snap_known true x tid follows is = refl
snap_known false x tid follows is = absurd (cc)

module _ (p : ℕ) (h : List Entry) (run : IsRun p h) (v : ClientView) (i : ClientAt h v) where
  flushed : (f tid : ℕ) → answers.Flush tid ≡ answer_flush h f → flush_sent f (answers.Flush tid) (get nat_cmp v.files f) ≡ flush_message (present h f tid) ∷ []
  flushed f tid is =
      rw (i.rows f, flush_known (client_knows h f) _ tid is) (ap (λ x. calls.flush_message f x) (flush_sends p h run f tid is))

  snap_flushed : (f tid follows : ℕ) → answers.FlushSnap tid follows ≡ answer_flush_snaps h f
      → flush_snaps_sent f (answers.FlushSnap tid follows) (get nat_cmp v.files f) ≡ flush_message (snap h f tid follows) ∷ []
  snap_flushed f tid follows is =
      rw (i.rows f, snap_known (client_knows h f) _ tid follows is) (ap (λ x. snap_message f x) (flush_snaps_sends p h run f tid follows is))

  sent_then : (e : Event) (a : Answer) (q : List Message) → is_call e ≡ true → a ≡ answer p h e → q ++ call_sent e a v ≡ to_server_then e a (present h) (snap h) q
  sent_then (events.Check f) (answers.Ack seq bits) q call is = refl
  sent_then (events.Check f) _ q call is = append-nil q
  sent_then (events.Flush f) (answers.Flush tid) q call is = ap (λ ms. q ++ ms) (flushed f tid is)
  sent_then (events.Flush f) _ q call is = append-nil q
  sent_then (events.FlushSnaps f) (answers.FlushSnap tid follows) q call is = ap (λ ms. q ++ ms) (snap_flushed f tid follows is)
  sent_then (events.FlushSnaps f) _ q call is = append-nil q
  sent_then (events.Dir d x) a q call is = append-nil q
  sent_then (events.File f x) a q call is = append-nil q
  sent_then (events.Clock t) a q call is = append-nil q
  sent_then (events.Begin c f bits end) a q call is = append-nil q
  sent_then (events.End c name) a q call is = append-nil q
  sent_then (events.Write c name off bytes) a q call is = append-nil q
  sent_then (events.Read c name off len) a q call is = append-nil q
  sent_then (events.Chmod c name mode) a q call is = append-nil q
  sent_then (events.Lookup c d name) a q call is = append-nil q
  sent_then (events.Req c op) (answers.Sent tid) q call is = refl
  sent_then (events.Req c op) _ q call is = append-nil q
  sent_then _ a q call is = absurd (cc)

-- an event of the client's own sends the client nothing
away_then : (e : Event) (a : Answer) (h : List Entry) → is_call e ≡ true → to_client h ≡ to_client (record { event = e; answer = a } ∷ h)
away_then (events.Dir d x) a h call = refl
away_then (events.File f x) a h call = refl
away_then (events.Clock t) a h call = refl
away_then (events.Begin c f bits end) a h call = refl
away_then (events.End c name) a h call = refl
away_then (events.Write c name off bytes) a h call = refl
away_then (events.Read c name off len) a h call = refl
away_then (events.Chmod c name mode) a h call = refl
away_then (events.Check f) a h call = refl
away_then (events.Flush f) a h call = refl
away_then (events.FlushSnaps f) a h call = refl
away_then (events.Lookup c d name) a h call = refl
away_then (events.Req c op) a h call = refl
away_then _ a h call = absurd (cc)

-- what the client sends at a call stands behind the messages to the server
pub called_links : (p : ℕ) (h : List Entry) (v : ClientView) (e : Event) (a : Answer) (ms qs rest : List Message) → IsRun p h → ClientAt h v → is_call e ≡ true
    → a ≡ answer p h e → LinksAt h ms qs → rest ≡ qs ++ call_sent e a v → LinksAt (record { event = e; answer = a } ∷ h) ms rest
called_links p h v e a ms qs rest run i call is links sent = record {
  to_client = links.to_client ∙ away_then e a h call;
  to_server = sent ∙ (ap (λ q. q ++ call_sent e a v) links.to_server ∙ sent_then p h run v i e a (to_server h) call is);
}

-- To the client

abbrev news_at : List Entry → List Message
news_at h = news (λ d. server_path h d) (server_dirs h) (last_sent h) (durable h) (fresh h)

module _ (p : ℕ) (h : List Entry) (run : IsRun p h) (s : ServerView) (i : ServerAt h s) where
  pub committed : commit_news (λ d. path_of s.tree d) (inos s.tree) s.durable s.fresh ≡ news_at h
  committed = (λ k. commit_news (λ d. i.tree.paths d k) (i.order k) (i.durable k) (i.fresh k)) ∙ sym (news_told p h run)

  served_then : (e : Event) (a : Answer) (q : List Message) → is_served e ≡ true → a ≡ answer p h e
      → q ++ event_sent e a s ≡ to_client_then e a (λ f. server h f) (durable h) (news_at h) q
  served_then (events.Grant f bits end) (answers.SentCap seq held) q is said = ap (λ x. q ++ cap_message f (granted x bits end) ∷ []) (i.caps f)
  served_then (events.Grant f bits end) _ q is said = append-nil q
  served_then (events.Revoke f bits) (answers.SentCap seq held) q is said = ap (λ x. q ++ cap_message f (revoked x bits) ∷ []) (i.caps f)
  served_then (events.Revoke f bits) _ q is said = append-nil q
  served_then (events.Snap d name) a q is said = append-nil q
  served_then (events.RmSnap n) a q is said = append-nil q
  served_then (events.Unlease d name) answers.SentUnlease q is said = refl
  served_then (events.Unlease d name) _ q is said = append-nil q
  served_then events.Commit (answers.Commit count) q is said = ap (λ ms. q ++ ms) committed
  served_then events.Commit _ q is said = absurd (cc)
  served_then _ a q is said = absurd (cc)

-- an event of the server's own sends the server nothing
here_then : (e : Event) (a : Answer) (h : List Entry) → is_served e ≡ true → to_server h ≡ to_server (record { event = e; answer = a } ∷ h)
here_then (events.Grant f bits end) a h is = refl
here_then (events.Revoke f bits) a h is = refl
here_then (events.Snap d name) a h is = refl
here_then (events.RmSnap n) a h is = refl
here_then (events.Unlease d name) a h is = refl
here_then events.Commit a h is = refl
here_then _ a h is = absurd (cc)

-- what the server sends at an event stands behind the messages to the client
pub served_links : (p : ℕ) (h : List Entry) (s : ServerView) (e : Event) (a : Answer) (ms qs rest : List Message) → IsRun p h → ServerAt h s → is_served e ≡ true
    → a ≡ answer p h e → LinksAt h ms qs → rest ≡ ms ++ event_sent e a s → LinksAt (record { event = e; answer = a } ∷ h) rest qs
served_links p h s e a ms qs rest run i is said links sent = record {
  to_client = sent ∙ (ap (λ q. q ++ event_sent e a s) links.to_client ∙ served_then p h run s i e a (to_client h) is said);
  to_server = links.to_server ∙ here_then e a h is;
}
