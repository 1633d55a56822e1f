-- The server answers as the history says, and stands for it afterwards.
use Rattle.std.proofs.Common.{◌≡◌, ◌∙◌, refl, sym, ap, ℕ, ◌+◌, ◌<◌, ◌==◌, ◌||◌, not, Bool, true, false, cond, List, [], ◌∷◌, ◌++◌, length, Option, Some, None, is_some, arith}
use Rattle.std.proofs.lemmas.Bool.{or_parts}
use Rattle.std.proofs.lemmas.List.Folds.{list_any-append}
use Rattle.std.specs.BTreeMap.{get}
use Rattle.std.specs.Ordering.{nat_cmp}
use Rattle.cs_parts.specs.Capabilities.{granted, revoked}
use Rattle.cs_tree.specs.Directories.{depth_of, has_directory, inos, path_of}
use Rattle.cs_laws.specs.declared.events.Event.{Event}
use Rattle.cs_laws.specs.declared.events.Event.TheVariants as events
use Rattle.cs_laws.specs.declared.answers.Answer.{Answer}
use Rattle.cs_laws.specs.declared.answers.Answer.TheVariants as answers
use Rattle.cs_laws.specs.declared.answers.Entry.{Entry}
use Rattle.cs_laws.specs.declared.messages.Message.{Message}
use Rattle.cs_laws.specs.Answers.{answer, sent_cap}
use Rattle.cs_laws.specs.Capabilities.{server_then}
use Rattle.cs_laws.specs.Events.{is_setup, setup_file, setup_file_then}
use Rattle.cs_laws.specs.History.{fresh, stand, to_server}
use Rattle.cs_laws.specs.Made.{Made, dirs_with, home_with, is_made_dir, is_made_file, made_in, makes_dir, makes_file, path_with, with_made}
use Rattle.cs_laws.specs.Names.{names, setup_names, setup_names_then}
use Rattle.cs_laws.specs.Namespace.{has_dir}
use Rattle.cs_laws.specs.Runs.{IsRun, all_setup}
use Rattle.cs_laws.specs.ServerKnows.{server_dir, server_dirs, server_home, server_knows, server_made, server_path}
use Rattle.cs_laws.specs.Standing.{durable_then, fresh_then, greatest_number, has_snap_named}
use Rattle.cs_laws.specs.Tree.{directories, directories_then, home, home_then, is_directory, path, path_then, setup_dir, setup_dir_then, with_directory}
use Rattle.cs_mds.specs.Answers.{made_answer, names_answer, remove_answer, served_answer, unlease_answer}
use Rattle.cs_mds.specs.Served.{Served, home_after, home_among, made_then, names_then}
use Rattle.cs_mds.specs.Views.{ServerView}
use Rattle.cs_mds.specs.Views as views
use Rattle.cs_theorems.proofs.Added as added
use Rattle.cs_theorems.proofs.Counts.{fresh_few, snaps_few}
use Rattle.cs_theorems.proofs.Growth.{server_seq_small}
use Rattle.cs_theorems.proofs.Trees.{home_unmade, paths_append}
use Rattle.cs_world.specs.Parts.{ServerAt}
use Rattle.cs_world.specs.Serving.{HasNumber, is_served}
use Rattle.cs_world.proofs.Recorded.{Records}
use Rattle.cs_world.proofs.SetupNames.{early_dir, early_dirs, early_file, early_home, early_names, early_path, more_setup, setup_names_are}

some_home : (b : Bool) (d : ℕ) → is_some (cond b (Some d) None) ≡ b
some_home true d = refl
some_home false d = refl

module _ (p : ℕ) (h : List Entry) (s : ServerView) (i : ServerAt h s) where
  pub knows : (f : ℕ) → is_some (get nat_cmp s.homes f) ≡ server_knows h f
  knows f = ap is_some (i.homes f) ∙ some_home (server_knows h f) (server_home h f)

  pub stands : views.stand s ≡ stand h
  stands = λ k. i.durable k ++ i.fresh k

  -- a line that makes an inode
  pub made_is : all_setup h ≡ true → (j q : ℕ) → made_answer s.tree s.homes j q ≡ answer p h (events.Dir j q)
  made_is all j q =
      (λ k. cond (i.tree.known j k || knows j k) answers.Exists (cond (i.tree.known q k) answers.Made answers.NoDir))
      ∙ (λ k. cond (early_dir h all j k || early_file h all j k) answers.Exists (cond (early_dir h all q k) answers.Made answers.NoDir))

  -- the server answers as the history says
  pub served_answer_is : (e : Event) → is_served e ≡ true → served_answer s e ≡ answer p h e
  served_answer_is (events.Grant f bits end) is = λ k. cond (knows f k) (sent_cap (granted (i.caps f k) bits end)) answers.Unknown
  served_answer_is (events.Revoke f bits) is = λ k. cond (knows f k) (sent_cap (revoked (i.caps f k) bits)) answers.Unknown
  served_answer_is (events.Snap d name) is =
      λ k. cond (has_dir (i.names k) d) (cond (has_snap_named d name (stands k)) answers.Exists (answers.Snap (greatest_number (stands k) + 1))) answers.Unknown
  served_answer_is (events.RmSnap n) is = ap (λ rs. remove_answer rs n) stands
  served_answer_is (events.Unlease d name) is = ap (λ ns. unlease_answer ns d) i.names
  served_answer_is events.Commit is = ap (λ rs. answers.Commit (length rs)) i.fresh
  served_answer_is _ is = absurd (cc)

  pub names_answer_is : (d : ℕ) → names_answer s.names d ≡ answer p h (events.Names d)
  names_answer_is d = ap (λ ns. names_answer ns d) i.names

  -- there are numbers left
  pub has_number : (e : Event) → is_served e ≡ true → IsRun p h → length h < 10000 → HasNumber s e
  has_number (events.Grant f bits end) is run room = rw (i.caps f) (omega (arith, server_seq_small h f, room))
  has_number (events.Revoke f bits) is run room = rw (i.caps f) (omega (arith, server_seq_small h f, room))
  has_number (events.Snap d name) is run room = rw stands (omega (arith, snaps_few p h run, room))
  has_number (events.RmSnap n) is run room = rw stands (omega (arith, snaps_few p h run, room))
  has_number (events.Unlease d name) is run room = tt
  has_number events.Commit is run room = rw i.fresh (omega (arith, fresh_few h, room))
  has_number _ is run room = absurd (cc)

-- The server after a setup line

homes_then : (e : Event) (a : Answer) (f : ℕ) (known : Bool) (d : ℕ)
    → home_after e a f (cond known (Some d) None) ≡ cond (setup_file_then e a f known) (Some (home_then e a f d)) None
homes_then (events.File g p) answers.Made f known d = at (g == f) known
  where
    at : (b known : Bool) → cond b (Some p) (cond known (Some d) None) ≡ cond (cond b true known) (Some (cond b p d)) None
    at true known = refl
    at false true = refl
    at false false = refl
homes_then _ _ f known d = refl

dirs_then : (e : Event) (a : Answer) (d : ℕ) (was : Bool) → setup_dir_then e a d ((d == 1) || was) ≡ ((d == 1) || setup_dir_then e a d was)
dirs_then (events.Dir e p) answers.Made d was = at (e == d) (d == 1) was
  where
    at : (b root was : Bool) → cond b true (root || was) ≡ (root || cond b true was)
    at true true was = refl
    at true false was = refl
    at false root was = refl
dirs_then _ _ d was = refl

or_none : (b : Bool) → (b || false) ≡ b
or_none true = refl
or_none false = refl

line_makes : (e : Event) (a : Answer) → is_setup e ≡ true → made_then e a [] ≡ []
line_makes (events.Dir d p) a is = refl
line_makes (events.File f p) a is = refl
line_makes _ a is = absurd cc

module _ (p : ℕ) (h : List Entry) (s t : ServerView) (e : Event) (a : Answer) (is : is_setup e ≡ true) (all : all_setup h ≡ true) (i : ServerAt h s)
    (c : Served [] s t e a) where
  abbrev later : List Entry
  later = record { event = e; answer = a } ∷ h

  still : all_setup later ≡ true
  still = more_setup h e a is all

  line_paths : (d : ℕ) → path_of t.tree d ≡ path later d
  line_paths d =
      c.tree.paths d
      ∙ (ap (λ ms. path_with ms (path_then e a (λ b. path_of s.tree b)) d) (line_makes e a is)
      ∙ (λ k. path_then e a (λ b. (i.tree.paths b ∙ early_path h all b) k) d))

  -- q: none is delivered
  pub line_after : a ≡ answer p h e → ServerAt later t
  line_after said = record {
    tree = record {
      known = λ d.
          c.tree.known d
          ∙ (ap (λ ms. setup_dir_then e a d (has_directory d s.tree) || makes_dir d ms) (line_makes e a is)
          ∙ (or_none (setup_dir_then e a d (has_directory d s.tree))
          ∙ (ap (λ b. setup_dir_then e a d b) (i.tree.known d ∙ early_dir h all d)
          ∙ (dirs_then e a d (setup_dir h d) ∙ sym (early_dir later still d)))));
      paths = λ d. line_paths d ∙ sym (early_path later still d);
    };
    order =
        c.tree.order
        ∙ (ap (λ ms. dirs_with ms (path_then e a (λ b. path_of s.tree b)) (directories_then e a (λ d. depth_of t.tree d) (inos s.tree))) (line_makes e a is)
        ∙ ((λ k. directories_then e a (λ d. length (line_paths d k)) ((i.order ∙ early_dirs h all) k)) ∙ sym (early_dirs later still)));
    homes = λ f.
        c.homes f
        ∙ (ap (λ ms. home_among ms f (home_after e a f (get nat_cmp s.homes f))) (line_makes e a is)
        ∙ (ap (λ o. home_after e a f o) (i.homes f ∙ (λ k. cond (early_file h all f k) (Some (early_home h all f k)) None))
        ∙ (homes_then e a f (setup_file h f) (home h f)
        ∙ sym (λ k. cond (early_file later still f k) (Some (early_home later still f k)) None))));
    names =
        c.names
        ∙ (ap (λ ns. names_then e a [] ns) (i.names ∙ early_names h all)
        ∙ (setup_names_are h e a is p said ∙ sym (early_names later still)));
    caps = λ f. c.caps f ∙ ap (λ x. server_then e a f x) (i.caps f);
    durable = c.durable ∙ (λ k. durable_then e a (i.fresh k) (i.durable k));
    fresh = c.fresh ∙ (ap (λ rs. fresh_then e a [] rs) i.fresh ∙ line_news e a is);
  }
    where
      line_news : (e : Event) (a : Answer) → is_setup e ≡ true → fresh_then e a [] (fresh h) ≡ fresh_then e a (to_server h) (fresh h)
      line_news (events.Dir d q) a is = refl
      line_news (events.File f q) a is = refl
      line_news _ a is = absurd cc

-- The server after any other event

no_dir : (e : Event) (a : Answer) (d : ℕ) (was : Bool) → is_setup e ≡ false → setup_dir_then e a d was ≡ was
no_dir (events.Dir i p) a d was is = absurd cc
no_dir (events.File f p) a d was is = refl
no_dir _ a d was is = refl

no_path : (e : Event) (a : Answer) (up : ℕ → List ℕ) (d : ℕ) → is_setup e ≡ false → path_then e a up d ≡ up d
no_path (events.Dir i p) a up d is = absurd cc
no_path (events.File f p) a up d is = refl
no_path _ a up d is = refl

no_order : (e : Event) (a : Answer) (depth : ℕ → ℕ) (ds : List ℕ) → is_setup e ≡ false → directories_then e a depth ds ≡ ds
no_order (events.Dir i p) a depth ds is = absurd cc
no_order (events.File f p) a depth ds is = refl
no_order _ a depth ds is = refl

no_home : (e : Event) (a : Answer) (f : ℕ) (was : Option ℕ) → is_setup e ≡ false → home_after e a f was ≡ was
no_home (events.Dir i p) a f was is = refl
no_home (events.File g p) a f was is = absurd cc
no_home _ a f was is = refl

or_assoc : (a b c : Bool) → ((a || b) || c) ≡ (a || (b || c))
or_assoc true b c = refl
or_assoc false b c = refl

dirs_append : (ms more : List Made) (up : ℕ → List ℕ) (ds : List ℕ) → dirs_with (ms ++ more) up ds ≡ dirs_with more (λ k. path_with ms up k) (dirs_with ms up ds)
dirs_append [] more up ds = refl
dirs_append (m ∷ ms) more up ds =
    dirs_append ms more (λ k. with_made m up k) (cond m.is_dir (with_directory (λ d. length (with_made m up d)) m.ino ds) ds)

home_append : (ms more : List Made) (f was : ℕ) → home_with (ms ++ more) f was ≡ home_with more f (home_with ms f was)
home_append [] more f was = refl
home_append (m ∷ ms) more f was = home_append ms more f (cond (is_made_file f m) m.dir was)

-- where a file is made its directory is of no matter before
home_made : (ms : List Made) (f a b : ℕ) → makes_file f ms ≡ true → home_with ms f a ≡ home_with ms f b
home_made [] f a b is = absurd cc
home_made (m ∷ ms) f a b is = at (is_made_file f m) is (λ x y later. home_made ms f x y later)
  where
    at : (k : Bool) → (k || makes_file f ms) ≡ true → ((x y : ℕ) → makes_file f ms ≡ true → home_with ms f x ≡ home_with ms f y)
        → home_with ms f (cond k m.dir a) ≡ home_with ms f (cond k m.dir b)
    at true is go = refl
    at false is go = go a b is

home_more : (ms : List Made) (f : ℕ) (known : Bool) (was : ℕ) (b : Bool) → makes_file f ms ≡ b
    → cond b (Some (home_with ms f 1)) (cond known (Some was) None) ≡ cond (known || b) (Some (home_with ms f was)) None
home_more ms f true was true is = ap (λ d. Some d) (home_made ms f 1 was is)
home_more ms f false was true is = ap (λ d. Some d) (home_made ms f 1 was is)
home_more ms f true was false is = ap (λ d. Some d) (sym (home_unmade ms f was is))
home_more ms f false was false is = refl

module _ (h : List Entry) (s t : ServerView) (e : Event) (a : Answer) (q : List Message) (other : is_setup e ≡ false) (r : Records h e a q) (i : ServerAt h s)
    (c : Served q s t e a) where
  abbrev next : List Entry
  next = record { event = e; answer = a } ∷ h

  abbrev new : List Made
  new = made_then e a q

  grown : server_made next ≡ server_made h ++ new
  grown = added.made_then h e a ∙ ap (λ ms. server_made h ++ ms) (sym r.made)

  paths_now : (d : ℕ) → path_of t.tree d ≡ server_path next d
  paths_now d =
      c.tree.paths d
      ∙ ((λ k. path_with new (λ b. (no_path e a (λ j. path_of s.tree j) b other ∙ i.tree.paths b) k) d)
      ∙ (sym (paths_append (server_made h) new (λ b. path h b) d)
      ∙ sym (λ k. path_with (grown k) (λ b. added.paths_stay h e a other b k) d)))

  -- q: the message that is delivered to the server, if one is
  pub server_after : ServerAt next t
  server_after = record {
    tree = record {
      known = λ d.
          c.tree.known d
          ∙ (ap (λ b. b || makes_dir d new) (no_dir e a d (has_directory d s.tree) other ∙ i.tree.known d)
          ∙ (or_assoc (is_directory h d) (makes_dir d (server_made h)) (makes_dir d new)
          ∙ (ap (λ b. is_directory h d || b) (sym (list_any-append (is_made_dir d) (server_made h) new))
          ∙ sym (λ k. ((d == 1) || added.dirs_stay h e a other d k) || makes_dir d (grown k)))));
      paths = paths_now;
    };
    order =
        c.tree.order
        ∙ ((λ k. dirs_with new (λ b. (no_path e a (λ j. path_of s.tree j) b other ∙ i.tree.paths b) k) ((no_order e a (λ d. depth_of t.tree d) (inos s.tree) other ∙ i.order) k))
        ∙ (sym (dirs_append (server_made h) new (λ b. path h b) (directories h))
        ∙ sym (λ k. dirs_with (grown k) (λ b. added.paths_stay h e a other b k) (added.order_stays h e a other k))));
    homes = λ f.
        c.homes f
        ∙ (ap (λ o. home_among new f o) (no_home e a f (get nat_cmp s.homes f) other ∙ i.homes f)
        ∙ (home_more new f (server_knows h f) (server_home h f) (makes_file f new) refl ∙ sym (known_now f)));
    names = c.names ∙ (ap (λ ns. names_then e a q ns) i.names ∙ (r.names (names h) ∙ sym (added.names_then h e a other)));
    caps = λ f. c.caps f ∙ ap (λ x. server_then e a f x) (i.caps f);
    durable = c.durable ∙ (λ k. durable_then e a (i.fresh k) (i.durable k));
    fresh = c.fresh ∙ (ap (λ rs. fresh_then e a q rs) i.fresh ∙ r.fresh);
  }
    where
      known_now : (f : ℕ) → cond (server_knows next f) (Some (server_home next f)) None
          ≡ cond (server_knows h f || makes_file f new) (Some (home_with new f (server_home h f))) None
      known_now f = λ k. cond (known k) (Some (homed k)) None
        where
          known : server_knows next f ≡ (server_knows h f || makes_file f new)
          known =
              (λ k. added.files_stay h e a other f k || makes_file f (grown k))
              ∙ (ap (λ b. setup_file h f || b) (list_any-append (is_made_file f) (server_made h) new)
              ∙ sym (or_assoc (setup_file h f) (makes_file f (server_made h)) (makes_file f new)))

          homed : server_home next f ≡ home_with new f (server_home h f)
          homed = (λ k. home_with (grown k) f (added.homes_stay h e a other f k)) ∙ home_append (server_made h) new f (home h f)

pub served_later : (e : Event) → is_served e ≡ true → is_setup e ≡ false
served_later (events.Dir d p) is = absurd cc
served_later (events.File f p) is = absurd cc
served_later _ is = refl
