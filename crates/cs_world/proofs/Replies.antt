-- What the client knows and keeps after it is told of a request or a lease.
use Rattle.std.proofs.Common.{◌≡◌, ◌∙◌, refl, sym, ap, subst, ℕ, ◌<◌, ◌==◌, ◌||◌, ◌&&◌, not, Bool, true, false, cond, List, [], ◌∷◌, ◌++◌, length, map, reverse, Option, Some, None}
use Rattle.std.proofs.lemmas.Bool.{and_parts, cond-false, eqb-true}
use Rattle.std.proofs.lemmas.List.{reverse-append}
use Rattle.std.proofs.lemmas.List.Folds.{list_any-append}
use Rattle.std.specs.BTreeMap.{get}
use Rattle.std.specs.Ordering.{nat_cmp}
use Rattle.cs_inode.specs.Inodes.{new_inode}
use Rattle.cs_snapctx.specs.declared.realm.RealmRecord.{RealmRecord}
use Rattle.cs_tree.specs.declared.directories.Directory.{Directory}
use Rattle.cs_laws.specs.declared.events.Event.TheVariants as events
use Rattle.cs_laws.specs.declared.answers.Answer.TheVariants as answers
use Rattle.cs_laws.specs.declared.answers.Entry.{Entry}
use Rattle.cs_laws.specs.declared.messages.Message.{Message}
use Rattle.cs_laws.specs.declared.messages.Message.TheVariants as messages
use Rattle.cs_laws.specs.declared.requests.OpAnswer.{OpAnswer}
use Rattle.cs_laws.specs.declared.requests.ReqOp.{ReqOp}
use Rattle.cs_laws.specs.ClientKnows.{client_dir, client_files, client_home, client_knows, client_made, client_path}
use Rattle.cs_laws.specs.Context.{path_context}
use Rattle.cs_laws.specs.Events.{clock, files, setup_file}
use Rattle.cs_laws.specs.History.{realms, to_client}
use Rattle.cs_laws.specs.Leases.{Lease, asks_for, ino_in, is_named_later, lease, taken}
use Rattle.cs_laws.specs.Made.{Made, home_with, is_made_dir, is_made_file, made_by, makes_dir, makes_file, path_with, with_files}
use Rattle.cs_laws.specs.Requests.{has_reply, op_of, replies, requests}
use Rattle.cs_laws.specs.Runs.{IsRun}
use Rattle.cs_laws.specs.Tree.{is_directory, path}
use Rattle.cs_requests.specs.declared.requests.OpenReq.{OpenReq}
use Rattle.cs_requests.specs.RequestTable.{RequestTable}
use Rattle.cs_requests.specs.Requests.{answered, is_told, named_later, without}
use Rattle.cs_client.specs.declared.file.ClientFile.{ClientFile}
use Rattle.cs_client.specs.Contexts.{home_context}
use Rattle.cs_client.specs.Replies.{MakesDirs, files_with, lease_told, made_known, requests_told, row_with}
use Rattle.cs_client.specs.Requests.{lease_of, unanswered}
use Rattle.cs_client.specs.Rows.{new_file}
use Rattle.cs_client.specs.Views.{ClientView}
use Rattle.cs_files.specs.Laws.{AnswersNext}
use Rattle.cs_files.specs.Rows.{inode}
use Rattle.cs_files.proofs.Created as created
use Rattle.cs_files.proofs.Created.{IsFew, answer_row, answering, home_then, knows_then, made_few}
use Rattle.cs_theorems.proofs.Flying.{first_reply, later_open}
use Rattle.cs_theorems.proofs.Trees.{paths_append}
use Rattle.cs_world.specs.OpenRequests.{open_requests, request_table}
use Rattle.cs_world.specs.Parts.{ClientAt, TreeIs, client_row}
use Rattle.cs_world.proofs.Accepted.{unanswered_at}
use Rattle.cs_world.proofs.Client.{TreeAt}
use Rattle.cs_world.proofs.Opens.{named_open, opens_answered, opens_closed}
use Rattle.cs_world.proofs.Rows.{row_is}

-- Lists of what is made

or_assoc : (a b c : Bool) → ((a || b) || c) ≡ (a || (b || c))
or_assoc true b c = refl
or_assoc false b c = refl

or_none : (b : Bool) → b ≡ (b || false)
or_none true = refl
or_none false = refl

files_append : (ms more : List Made) (fs : List ℕ) → with_files (ms ++ more) fs ≡ with_files more (with_files ms fs)
files_append [] more fs = refl
files_append (m ∷ ms) more fs = files_append ms more (cond m.is_dir fs (m.ino ∷ fs))

-- in the order in which the client was told of them
files_turned : (ms : List Made) (fs : List ℕ) → files_with ms (reverse fs) ≡ reverse (with_files ms fs)
files_turned [] fs = refl
files_turned (m ∷ ms) fs = at m.is_dir (λ gs. files_turned ms gs)
  where
    at : (b : Bool) → ((gs : List ℕ) → files_with ms (reverse gs) ≡ reverse (with_files ms gs))
        → files_with ms (cond b (reverse fs) (reverse fs ++ m.ino ∷ [])) ≡ reverse (with_files ms (cond b fs (m.ino ∷ fs)))
    at true go = go fs
    at false go = ap (λ gs. files_with ms gs) (sym (reverse-append (m.ino ∷ []) fs)) ∙ go (m.ino ∷ fs)

-- The first answer to a request

module _ (p : ℕ) (h : List Entry) (run : IsRun p h) (v : ClientView) (i : ClientAt h v) (t : ℕ) (o : OpAnswer) (ttl : ℕ) (rest : List Message)
    (first : to_client h ≡ messages.Unsafe t o ttl ∷ rest) where
  abbrev later : List Entry
  later = answering t o h

  abbrev made : List Made
  made = made_by (op_of t (requests h)) o

  none : has_reply t (replies h) ≡ false
  none = first_reply p h run t o ttl rest first

  next : AnswersNext h t o
  next = record { lease = ttl; rest = rest; first = first }

  grown : client_made later ≡ client_made h ++ made
  grown = cond-false (has_reply t (replies h)) (client_made h) (client_made h ++ made) none

  told : created.made_known t o h ≡ made
  told = cond-false (has_reply t (replies h)) [] made none

  -- what the client takes for made
  pub known_is : made_by (unanswered t v.requests.requests) o ≡ made
  known_is = ap (λ op. made_by op o) (unanswered_at p h run v i rest t none)

  pub tree_after : (new : List Directory) → MakesDirs (made_by (unanswered t v.requests.requests) o) v.tree new → TreeAt later new
  tree_after new c = record {
    known = λ d.
        c.members d
        ∙ ((λ k. i.tree.known d k || makes_dir d (known_is k))
        ∙ (or_assoc (is_directory h d) (makes_dir d (client_made h)) (makes_dir d made)
        ∙ ap (λ b. is_directory h d || b) (sym (ap (makes_dir d) grown ∙ list_any-append (is_made_dir d) (client_made h) made))));
    paths = λ d.
        c.paths d
        ∙ ((λ k. path_with (known_is k) (λ e. i.tree.paths e k) d)
        ∙ sym (ap (λ ms. path_with ms (λ e. path h e) d) grown ∙ paths_append (client_made h) made (λ e. path h e) d));
  }

  pub files_after : files_with (made_by (unanswered t v.requests.requests) o) v.made ≡ reverse (client_files later)
  files_after =
      (λ k. files_with (known_is k) (i.made k))
      ∙ (files_turned made (client_files h)
      ∙ ap reverse (sym (ap (λ ms. with_files ms (files h)) grown ∙ files_append (client_made h) made (files h))))

  pub row_after : (f : ℕ) → row_with (made_by (unanswered t v.requests.requests) o) v.tree v.realms f (get nat_cmp v.files f) ≡ client_row later f
  row_after f =
      (λ k. row_with (known_is k) v.tree v.realms f (i.rows f k))
      ∙ (at made (made_few (op_of t (requests h)) o)
      ∙ sym (λ k. row_is (knows k) (kept k) (homed k)))
    where
      home_by : List Made → ℕ
      home_by ms = home_with ms f (client_home h f)

      knows : client_knows later f ≡ (client_knows h f || makes_file f made)
      knows = knows_then p h run t o next f ∙ ap (λ ms. client_knows h f || makes_file f ms) told

      homed : client_home later f ≡ home_by made
      homed = home_then p h run t o next f ∙ ap (λ ms. home_with ms f (client_home h f)) told

      kept : inode later f ≡ cond (makes_file f made) (new_inode f (path_context (client_path h (home_by made)) (realms h))) (inode h f)
      kept =
          answer_row p h run t o next f
          ∙ (λ k. cond (makes_file f (told k)) (new_inode f (path_context (client_path h (homed k)) (realms h))) (inode h f))

      one : (m : Made) (b : Bool) → is_made_file f m ≡ b
          → cond b (Some (new_file m.ino m.dir (home_context v.tree v.realms m.dir))) (client_row h f)
          ≡ row_is (client_knows h f || (b || false))
          (cond (b || false) (new_inode f (path_context (client_path h (cond b m.dir (client_home h f))) (realms h))) (inode h f)) (cond b m.dir (client_home h f))
      one m true is =
          let same : m.ino ≡ f = eqb-true m.ino f (and_parts (not m.is_dir) (m.ino == f) is).1 in
          (λ k. Some (let r : ClientFile = record { inode = new_inode (same k) (path_context (i.tree.paths m.dir k) (i.realms k)); home = m.dir } in r))
          ∙ true_known (client_knows h f)
        where
          made_row : ClientFile
          made_row = record { inode = new_inode f (path_context (client_path h m.dir) (realms h)); home = m.dir }

          true_known : (k : Bool) → Some made_row ≡ row_is (k || true) (new_inode f (path_context (client_path h m.dir) (realms h))) m.dir
          true_known true = refl
          true_known false = refl
      one m false other = ap (λ b. row_is b (inode h f) (client_home h f)) (or_none (client_knows h f))

      at : (ms : List Made) → IsFew ms → row_with ms v.tree v.realms f (client_row h f)
          ≡ row_is (client_knows h f || makes_file f ms)
          (cond (makes_file f ms) (new_inode f (path_context (client_path h (home_by ms)) (realms h))) (inode h f)) (home_by ms)
      at [] few = ap (λ b. row_is b (inode h f) (client_home h f)) (or_none (client_knows h f))
      at (m ∷ []) few = one m (is_made_file f m) refl
      at (m ∷ n ∷ ms) few = absurd few

  pub table_after : requests_told (messages.Unsafe t o ttl) v.requests ≡ request_table later
  table_after =
      (λ k. requests_told (messages.Unsafe t o ttl) (i.requests k))
      ∙ (λ k. let x : RequestTable = record { sent = length (requests h); requests = sym (opens_answered h t o none) k } in x)

  pub leases_after : (d : ℕ) (name : List ℕ) → lease_told (messages.Unsafe t o ttl) v.requests v.clock d name (lease_of v.leases d name) ≡ lease later d name
  leases_after d name =
      (λ k. cond (asks_for (unanswered_at p h run v i rest t none k) d name && not (named k)) (taken (ino_in o) (i.clock k) (i.leases d name k)) (i.leases d name k))
    where
      named : named_later t d name v.requests.requests ≡ is_named_later t d name (requests h)
      named =
          ap (λ (x : RequestTable). named_later t d name x.requests) i.requests
          ∙ named_open h t d name (λ u less. later_open p h run t o ttl rest first u less)

-- A Safe closes a request

module _ (h : List Entry) (v : ClientView) (i : ClientAt h v) where
  pub table_closed : (t : ℕ) → requests_told (messages.Safe t) v.requests ≡ request_table (record { event = events.ToClient; answer = answers.Safe t } ∷ h)
  table_closed t =
      (λ k. requests_told (messages.Safe t) (i.requests k))
      ∙ (by (is_told t (open_requests h))
      ∙ (λ k. let x : RequestTable = record { sent = length (requests h); requests = sym (opens_closed h t) k } in x))
    where
      by : (b : Bool)
          → cond b (let x : RequestTable = record { sent = length (requests h); requests = without t (open_requests h) } in x) (request_table h)
          ≡ (let x : RequestTable = record { sent = length (requests h); requests = cond b (without t (open_requests h)) (open_requests h) } in x)
      by true = refl
      by false = refl
