-- What an event records, by the message that is delivered: what it makes, and what it leaves of the namespace.
use Rattle.std.proofs.Common.{◌≡◌, ◌∙◌, refl, sym, ap, subst, ℕ, ◌++◌, true, false, List, [], ◌∷◌, Option, Some, None}
use Rattle.std.proofs.lemmas.List.{append-nil}
use Rattle.cs_laws.specs.declared.events.Event.{Event}
use Rattle.cs_laws.specs.declared.events.Event.TheVariants as events
use Rattle.cs_laws.specs.declared.answers.Answer.{Answer}
use Rattle.cs_laws.specs.declared.answers.Answer.TheVariants as answers
use Rattle.cs_laws.specs.declared.answers.Entry.{Entry}
use Rattle.cs_laws.specs.declared.messages.Message.{Message}
use Rattle.cs_laws.specs.declared.messages.Message.TheVariants as messages
use Rattle.cs_laws.specs.declared.records.Record.{Record}
use Rattle.cs_laws.specs.declared.requests.OpAnswer.{OpAnswer}
use Rattle.cs_laws.specs.Carried.{flush_on}
use Rattle.cs_laws.specs.Flushes.{Flush}
use Rattle.cs_laws.specs.History.{fresh, to_server}
use Rattle.cs_laws.specs.Made.{made_by, made_in}
use Rattle.cs_laws.specs.Names.{names_after}
use Rattle.cs_laws.specs.Namespace.{Names}
use Rattle.cs_laws.specs.Standing.{fresh_then, recorded, recorded_of, requested}
use Rattle.cs_mds.specs.Served.{made_then, names_then}
use Rattle.cs_theorems.proofs.Added.{added}
use Rattle.cs_world.specs.Serving.{is_served}

-- q: the message that is delivered to the server, if one is
pub record Records (h : List Entry) (e : Event) (a : Answer) (q : List Message) : Type 0 where
  pub fresh : fresh_then e a q (fresh h) ≡ fresh_then e a (to_server h) (fresh h)
  pub made : made_then e a q ≡ made_in (added e a (to_server h))
  pub names : (ns : Names) → names_then e a q ns ≡ names_after ns (added e a (to_server h))

-- An event of the server's own records no message

pub no_message : (e : Event) (a : Answer) (q : List Message) (rs : List Record) → is_served e ≡ true → fresh_then e a [] rs ≡ fresh_then e a q rs
no_message events.ToMds a q rs is = absurd (cc)
no_message (events.Snap d name) (answers.Snap number) q rs is = refl
no_message (events.Snap d name) _ q rs is = refl
no_message (events.RmSnap s) (answers.Removed t number) q rs is = refl
no_message (events.RmSnap s) _ q rs is = refl
no_message events.Commit (answers.Commit count) q rs is = refl
no_message events.Commit _ q rs is = refl
no_message _ a q rs is = refl

none_made : (e : Event) (a : Answer) (q : List Message) → is_served e ≡ true → made_then e a [] ≡ made_in (added e a q)
none_made events.ToMds a q is = absurd (cc)
none_made (events.Snap d name) (answers.Snap number) q is = refl
none_made (events.Snap d name) _ q is = refl
none_made (events.RmSnap s) (answers.Removed t number) q is = refl
none_made (events.RmSnap s) _ q is = refl
none_made _ a q is = refl

none_named : (e : Event) (a : Answer) (q : List Message) (ns : Names) → is_served e ≡ true → names_then e a [] ns ≡ names_after ns (added e a q)
none_named events.ToMds a q ns is = absurd (cc)
none_named (events.Dir d p) a q ns is = absurd (cc)
none_named (events.File f p) a q ns is = absurd (cc)
none_named (events.Snap d name) (answers.Snap number) q ns is = refl
none_named (events.Snap d name) _ q ns is = refl
none_named (events.RmSnap s) (answers.Removed t number) q ns is = refl
none_named (events.RmSnap s) _ q ns is = refl
none_named _ a q ns is = refl

pub served_records : (h : List Entry) (e : Event) (a : Answer) → is_served e ≡ true → Records h e a []
served_records h e a is = record {
  fresh = no_message e a (to_server h) (fresh h) is;
  made = none_made e a (to_server h) is;
  names = λ ns. none_named e a (to_server h) ns is;
}

-- What is recorded of the message that is delivered is recorded of all on the link

request_first : (o : OpAnswer) (m : Message) (rest : List Message) → requested o (m ∷ []) ≡ requested o (m ∷ rest)
request_first o (messages.Req tid ino op) rest = refl
request_first o _ rest = refl

pub news_first : (h : List Entry) (m : Message) (rest : List Message) (a : Answer) → to_server h ≡ m ∷ rest
    → fresh_then events.ToMds a (m ∷ []) (fresh h) ≡ fresh_then events.ToMds a (to_server h) (fresh h)
news_first h m rest a first = at a ∙ ap (λ q. fresh_then events.ToMds a q (fresh h)) (sym first)
  where
    at : (a : Answer) → fresh_then events.ToMds a (m ∷ []) (fresh h) ≡ fresh_then events.ToMds a (m ∷ rest) (fresh h)
    at (answers.Req tid o) = ap (λ rs. fresh h ++ rs) (request_first o m rest)
    at (answers.Flushed f tid) = refl
    at _ = refl

flush_makes : (o : Option Flush) → made_in (recorded_of o) ≡ []
flush_makes None = refl
flush_makes (Some x) = refl

flush_names : (o : Option Flush) (ns : Names) → names_after ns (recorded_of o) ≡ ns
flush_names None ns = refl
flush_names (Some x) ns = refl

made_first : (m : Message) (rest : List Message) (a : Answer) → made_then events.ToMds a (m ∷ []) ≡ made_in (added events.ToMds a (m ∷ rest))
made_first (messages.Req tid ino op) rest (answers.Req t o) = sym (append-nil (made_by (Some op) o))
made_first (messages.Req tid ino op) rest (answers.Flushed f t) = refl
made_first (messages.Req tid ino op) rest _ = refl
made_first m rest (answers.Flushed f t) = at m
  where
    at : (m : Message) → made_then events.ToMds (answers.Flushed f t) (m ∷ []) ≡ made_in (recorded_of (flush_on m))
    at (messages.Req tid ino op) = refl
    at (messages.Flush g tid follows meta) = refl
    at (messages.FlushSnap g tid follows meta) = refl
    at _ = refl
made_first _ rest (answers.Req t o) = refl
made_first _ rest _ = refl

named_first : (m : Message) (rest : List Message) (a : Answer) (ns : Names) → names_then events.ToMds a (m ∷ []) ns ≡ names_after ns (added events.ToMds a (m ∷ rest))
named_first (messages.Req tid ino op) rest (answers.Req t o) ns = refl
named_first (messages.Req tid ino op) rest (answers.Flushed f t) ns = refl
named_first (messages.Req tid ino op) rest _ ns = refl
named_first m rest (answers.Flushed f t) ns = at m
  where
    at : (m : Message) → names_then events.ToMds (answers.Flushed f t) (m ∷ []) ns ≡ names_after ns (recorded_of (flush_on m))
    at (messages.Req tid ino op) = refl
    at (messages.Flush g tid follows meta) = refl
    at (messages.FlushSnap g tid follows meta) = refl
    at _ = refl
named_first _ rest (answers.Req t o) ns = refl
named_first _ rest _ ns = refl

pub delivered_records : (h : List Entry) (m : Message) (rest : List Message) (a : Answer) → to_server h ≡ m ∷ rest → Records h events.ToMds a (m ∷ [])
delivered_records h m rest a first = record {
  fresh = news_first h m rest a first;
  made = made_first m rest a ∙ ap (λ q. made_in (added events.ToMds a q)) (sym first);
  names = λ ns. named_first m rest a ns ∙ ap (λ q. names_after ns (added events.ToMds a q)) (sym first);
}
