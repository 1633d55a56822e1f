-- The directories that each side knows are among those of one tree, that of all that was ever asked for, and have their paths there.
use Rattle.std.proofs.Common.{◌≡◌, refl, sym, ap, ◌∙◌, subst, ℕ, ◌||◌, Bool, true, List, ◌++◌, ⊎_elim}
use Rattle.std.proofs.lemmas.Bool.{or_cases, or_left, or_right}
use Rattle.std.proofs.lemmas.List.Folds.{list_any-append}
use Rattle.cs_laws.specs.declared.answers.Entry.{Entry}
use Rattle.cs_laws.specs.Answers.{is_in_use}
use Rattle.cs_laws.specs.ClientKnows.{client_dir, client_file_path, client_home, client_made, client_path, client_knows}
use Rattle.cs_laws.specs.History.{stand}
use Rattle.cs_laws.specs.Made.{Made, is_made_dir, makes_dir, path_with, makes_file}
use Rattle.cs_laws.specs.Names.{names, setup_names}
use Rattle.cs_laws.specs.Namespace.{has_dir}
use Rattle.cs_laws.specs.ServerKnows.{server_dir, server_dirs, server_file_path, server_home, server_made, server_path}
use Rattle.cs_laws.specs.Tree.{directories, home, is_directory, path}
use Rattle.cs_laws.specs.Events.{setup_file}
use Rattle.cs_theorems.specs.Asked.{Settles, asked, asked_made, asked_of, stage}
use Rattle.cs_theorems.proofs.Asked.{dirs_behind, has_dir_in, log_made, made_append, names_stage, settle_front, stage_in}
use Rattle.cs_theorems.proofs.Asks.{Asks}
use Rattle.cs_theorems.proofs.Listing.{Listing, ListingAt}
use Rattle.cs_theorems.proofs.Logs.{dirs_after}
use Rattle.cs_theorems.proofs.Paths.{Housed, Tree, TreeAt, setup_top}
use Rattle.cs_theorems.proofs.Trees.{AreUsed, Grown, dirs_are, dirs_of, grown_front, home_in, listing_grown, listing_same, path_of_front, tree_grown, file_used, tops_grown, used_grow, used_of, tree_same}
use Rattle.cs_theorems.proofs.Listed.{Member}

abbrev pub all_made : List Entry → List Made
all_made h = asked_made (asked h)

abbrev pub all_dir : List Entry → ℕ → Bool
all_dir h d = dirs_of (all_made h) (λ k. is_directory h k) d

abbrev pub all_path : List Entry → ℕ → List ℕ
all_path h d = path_with (all_made h) (λ k. path h k) d

pub setup_used : (h : List Entry) → AreUsed (λ d. is_directory h d) (λ i. is_in_use h i)
setup_used h d is = or_left (is_directory h d) _ is

pub all_tree : (h : List Entry) → TreeAt h → Asks h → Tree (λ d. all_dir h d) (λ d. all_path h d)
all_tree h tree asks = tree_grown (λ d. is_directory h d) (λ i. is_in_use h i) (all_made h) (λ d. path h d) (setup_used h) asks.grown tree

pub all_root : (h : List Entry) → all_dir h 1 ≡ true
all_root h = dirs_are (all_made h) (λ k. is_directory h k) 1

pub all_tops : (h : List Entry) (d : ℕ) → Member 1 (all_path h d)
all_tops h d = tops_grown (all_made h) (λ k. path h k) d (λ k. setup_top h k)

-- what the client knows as a file is in use
pub used_by : (h : List Entry) (f : ℕ) → client_knows h f ≡ true → used_of (client_made h) (λ i. is_in_use h i) f ≡ true
used_by h f known =
    ⊎_elim
    (λ setup. used_grow (client_made h) (λ i. is_in_use h i) f (or_right (is_directory h f) _ setup))
    (λ made. file_used (client_made h) (λ i. is_in_use h i) f made)
    (or_cases (setup_file h f) (makes_file f (client_made h)) known)

-- A front of what is made

module _ (h : List Entry) (ms : List Made) (front : (more : List Made) × (all_made h ≡ ms ++ more)) (asks : Asks h) where
  abbrev dir : ℕ → Bool
  dir d = is_directory h d || makes_dir d ms

  grown_here : Grown (λ d. is_directory h d) (λ i. is_in_use h i) (ms ++ front.0)
  grown_here = subst (λ l. Grown (λ d. is_directory h d) (λ i. is_in_use h i) l) front.1 asks.grown

  pub front_in : (d : ℕ) → dir d ≡ true → all_dir h d ≡ true
  front_in d is =
      dirs_are (all_made h) (λ k. is_directory h k) d
      ∙ ⊎_elim
      (λ old. or_left (is_directory h d) _ old)
      (λ new. or_right (is_directory h d) _ (ap (makes_dir d) front.1 ∙ (list_any-append (is_made_dir d) ms front.0 ∙ or_left (makes_dir d ms) _ new)))
      (or_cases (is_directory h d) (makes_dir d ms) is)

  pub front_path : (d : ℕ) → dir d ≡ true → path_with ms (λ k. path h k) d ≡ all_path h d
  front_path d is =
      sym (path_of_front (λ k. is_directory h k) (λ i. is_in_use h i) ms front.0 (λ k. path h k) d (setup_used h) grown_here
      (dirs_are ms (λ k. is_directory h k) d ∙ is))
      ∙ ap (λ l. path_with l (λ k. path h k) d) (sym front.1)

  front_grown : Grown (λ d. is_directory h d) (λ i. is_in_use h i) ms
  front_grown = grown_front (λ d. is_directory h d) (λ i. is_in_use h i) ms front.0 grown_here

-- Each side

pub server_front : (h : List Entry) → Asks h → (more : List Made) × (all_made h ≡ server_made h ++ more)
server_front h asks =
    let more = asks.stands in
    (asked_made more.0, ap asked_made more.1 ∙ (made_append (asked_of (stand h)) more.0 ∙ ap (λ ms. ms ++ asked_made more.0) (sym (log_made (stand h)))))

pub client_in : (h : List Entry) → Asks h → (d : ℕ) → client_dir h d ≡ true → all_dir h d ≡ true
client_in h asks d is = front_in h (client_made h) asks.told asks d is

pub client_way : (h : List Entry) → Asks h → (d : ℕ) → client_dir h d ≡ true → client_path h d ≡ all_path h d
client_way h asks d is = front_path h (client_made h) asks.told asks d is

pub server_in : (h : List Entry) → Asks h → (d : ℕ) → server_dir h d ≡ true → all_dir h d ≡ true
server_in h asks d is = front_in h (server_made h) (server_front h asks) asks d is

pub server_way : (h : List Entry) → Asks h → (d : ℕ) → server_dir h d ≡ true → server_path h d ≡ all_path h d
server_way h asks d is = front_path h (server_made h) (server_front h asks) asks d is

-- each file is in a directory that the side knows
pub client_housed : (h : List Entry) → Housed h → Asks h → (f : ℕ) → client_dir h (client_home h f) ≡ true
client_housed h housed asks f =
    sym (dirs_are (client_made h) (λ k. is_directory h k) (client_home h f))
    ∙ home_in (λ k. is_directory h k) (λ i. is_in_use h i) (client_made h) f (home h f) (front_grown h (client_made h) asks.told asks) (housed f)

pub server_housed : (h : List Entry) → Housed h → Asks h → (f : ℕ) → server_dir h (server_home h f) ≡ true
server_housed h housed asks f =
    sym (dirs_are (server_made h) (λ k. is_directory h k) (server_home h f))
    ∙ home_in (λ k. is_directory h k) (λ i. is_in_use h i) (server_made h) f (home h f) (front_grown h (server_made h) (server_front h asks) asks) (housed f)

pub client_file_way : (h : List Entry) → Housed h → Asks h → (f : ℕ) → client_file_path h f ≡ all_path h (client_home h f)
client_file_way h housed asks f = client_way h asks (client_home h f) (client_housed h housed asks f)

pub server_file_way : (h : List Entry) → Housed h → Asks h → (f : ℕ) → server_file_path h f ≡ all_path h (server_home h f)
server_file_way h housed asks f = server_way h asks (server_home h f) (server_housed h housed asks f)

-- the server's list of directories
pub server_listing : (h : List Entry) → TreeAt h → ListingAt h → Asks h → Listing (λ d. server_dir h d) (λ d. server_path h d) (server_dirs h)
server_listing h tree listing asks =
    listing_same (λ d. dirs_of (server_made h) (λ k. is_directory h k) d) (λ d. server_dir h d) (λ d. server_path h d) (server_dirs h)
    (λ d is. sym (dirs_are (server_made h) (λ k. is_directory h k) d) ∙ is) (λ d is. dirs_are (server_made h) (λ k. is_directory h k) d ∙ is)
    (listing_grown (λ d. is_directory h d) (λ i. is_in_use h i) (server_made h) (λ d. path h d) (directories h) (setup_used h)
    (front_grown h (server_made h) (server_front h asks) asks) tree listing)

-- the directories that are known behind the standing records are those that the server knows
pub log_dirs : (h : List Entry) (d : ℕ) → dirs_after (stand h) (λ k. is_directory h k) d ≡ server_dir h d
log_dirs h d = dirs_behind (stand h) (λ k. is_directory h k) d

-- so are those of the namespace
pub named_dirs : (h : List Entry) → Asks h → (d : ℕ) → has_dir (names h) d ≡ true → server_dir h d ≡ true
named_dirs h asks d is =
    has_dir_in (λ k. server_dir h k) (stage (setup_names h) (asked_of (stand h))) d refl
    (stage_in 0 (setup_names h) (asked_of (stand h)) (λ k. is_directory h k) (λ k. server_dir h k)
    (settle_front 0 (setup_names h) (asked_of (stand h)) (asks.stands).0 (subst (λ xs. Settles 0 (setup_names h) xs) (asks.stands).1 asks.settles))
    (λ k old. or_left (is_directory h k) _ old)
    (λ k new. or_right (is_directory h k) _ (ap (makes_dir k) (log_made (stand h)) ∙ new))
    asks.setup.entries)
    (subst (λ ns. has_dir ns d ≡ true) (names_stage (setup_names h) (stand h)) is)

pub server_tree : (h : List Entry) → TreeAt h → Asks h → Tree (λ d. server_dir h d) (λ d. server_path h d)
server_tree h tree asks =
    tree_same (λ d. dirs_of (server_made h) (λ k. is_directory h k) d) (λ d. server_dir h d) (λ d. server_path h d)
    (λ d is. sym (dirs_are (server_made h) (λ k. is_directory h k) d) ∙ is) (λ d is. dirs_are (server_made h) (λ k. is_directory h k) d ∙ is)
    (tree_grown (λ d. is_directory h d) (λ i. is_in_use h i) (server_made h) (λ d. path h d) (setup_used h) (front_grown h (server_made h) (server_front h asks) asks) tree)
