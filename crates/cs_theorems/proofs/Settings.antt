-- What contexts rest on, after each event of every journal: directories, records and the client's realm records.
use Rattle.std.proofs.Common.{List, ◌∷◌, [], ℕ}
use Rattle.cs_laws.specs.declared.events.Event.{Event}
use Rattle.cs_laws.specs.declared.answers.Entry.{Entry}
use Rattle.cs_laws.specs.Journal.{entry}
use Rattle.cs_theorems.proofs.Drawn.{DrawnAt, drawn_first, drawn_step}
use Rattle.cs_theorems.proofs.Linked.{LinkedAt, linked_first, linked_step}
use Rattle.cs_theorems.proofs.Listing.{ListingAt, listing_first, listing_step}
use Rattle.cs_theorems.proofs.Paths.{Housed, TreeAt, housed_first, housed_step, tree_first, tree_step}
use Rattle.cs_theorems.proofs.Asks.{Asks, Goes}

pub record Setting (h : List Entry) : Type 0 where
  pub tree : TreeAt h
  pub housed : Housed h
  pub listing : ListingAt h
  pub drawn : DrawnAt h
  pub front : LinkedAt h
  pub asks : Asks h

pub setting_first : Asks [] → Setting []
setting_first asks =
    record { tree = tree_first; housed = housed_first; listing = listing_first; drawn = drawn_first; front = linked_first; asks = asks }

pub setting_step : (p : ℕ) (h : List Entry) (x : Event) → Goes p h x → Setting h → Setting (entry p h x ∷ h)
setting_step p h x on i = record {
  tree = tree_step p h x i.tree;
  housed = housed_step p h x i.housed;
  listing = listing_step p h x i.tree i.listing;
  drawn = drawn_step p h x i.drawn;
  front = linked_step p h x on i.tree i.listing i.asks i.front;
  asks = on.now;
}
