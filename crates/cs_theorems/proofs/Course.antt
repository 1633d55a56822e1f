-- What holds of contexts, tags and cap snaps in every run.
use Rattle.std.proofs.Common.{ℕ, List, [], ◌∷◌}
use Rattle.cs_laws.specs.declared.events.Event.{Event}
use Rattle.cs_laws.specs.declared.answers.Entry.{Entry}
use Rattle.cs_laws.specs.Journal.{entry}
use Rattle.cs_laws.specs.Runs.{IsRun}
use Rattle.cs_theorems.specs.Contexts.{ContextsNeverFall}
use Rattle.cs_theorems.specs.Snapshots.{TagsAreOfTheBegin}
use Rattle.cs_theorems.proofs.Contexts.{goes_on}
use Rattle.cs_theorems.proofs.Order.{Ordered, ordered_first, ordered_step}
use Rattle.cs_theorems.proofs.Blank.{AllBlank, SentAreKnown, blank_first, blank_step, sent_known_first, sent_known_step}
use Rattle.cs_theorems.proofs.Known.{LiveAreKnown, known_step, known_first}
use Rattle.cs_theorems.proofs.Settings.{Setting, setting_first, setting_step}
use Rattle.cs_theorems.proofs.Runs.{of_run}
use Rattle.cs_theorems.proofs.Shares.{shares_first, shares_step}
use Rattle.cs_theorems.proofs.Asks.{Asks, Goes, asks_run, goes_by}

pub record Course (h : List Entry) : Type 0 where
  pub setting : Setting h
  pub known : LiveAreKnown h
  pub blank : AllBlank h
  pub sent_known : SentAreKnown h
  pub order : Ordered h
  pub contexts : ContextsNeverFall h
  pub shares : TagsAreOfTheBegin h

pub course_first : Asks [] → Course []
course_first asks = record {
  setting = setting_first asks;
  known = known_first;
  blank = blank_first;
  sent_known = sent_known_first;
  order = ordered_first;
  contexts = tt;
  shares = shares_first;
}

pub course_step : (p : ℕ) (h : List Entry) (x : Event) → Goes p h x → Course h → Course (entry p h x ∷ h)
course_step p h x on i = record {
  setting = setting_step p h x on i.setting;
  known = known_step p h x i.known;
  blank = blank_step p h x i.known i.blank;
  sent_known = sent_known_step p h x i.sent_known;
  order = ordered_step p h x on i.setting i.known i.blank i.order;
  contexts = (λ f known. goes_on p h x f on i.setting known, i.contexts);
  shares = shares_step p h x i.order i.known i.shares;
}

pub course_run : (p : ℕ) (h : List Entry) → IsRun p h → Course h
course_run p h run = of_run p Course (course_first (asks_run p [] tt)) (λ g x fit before i. course_step p g x (goes_by p g x fit before) i) h run
