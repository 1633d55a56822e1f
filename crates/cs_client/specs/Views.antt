-- What contracts see of the client, and what always holds of it.
use Rattle.std.specs.Prelude.{◌≡◌, ℕ, ◌<◌, ◌≤◌, ◌==◌, ◌^◌, Bool, true, false, is_some, List, [], ◌∷◌, Option, Some, None, length}
use Rattle.std.specs.BTreeMap.{BTreeMap, get}
use Rattle.std.specs.List.{list_any}
use Rattle.std.specs.Option.{option_map}
use Rattle.std.specs.Ordering.{nat_cmp}
use Rattle.cs_parts.specs.declared.references.Live.{Live}
use Rattle.cs_tree.specs.declared.directories.Directory.{Directory}
use Rattle.cs_snapctx.specs.declared.realm.RealmRecord.{RealmRecord}
use Rattle.cs_snapctx.specs.Context.{Context}
use Rattle.cs_snapctx.specs.Records.{root_record}
use Rattle.cs_tree.specs.Directories.{has_directory}
use Rattle.cs_refs.specs.Table.{RefTable, begun_of, writers_of}
use Rattle.cs_inode.specs.Inodes.{FileInode, greatest_tid}
use Rattle.cs_laws.specs.Fits.{greatest_end, greatest_time}
use Rattle.cs_leases.specs.Leases.{EntryLease}
use Rattle.cs_requests.specs.RequestTable.{RequestTable}
use Rattle.cs_client.specs.declared.file.ClientFile.{ClientFile}
use Rattle.cs_client.specs.Contexts.{home_context}

abbrev pub Files : Type 0
Files = BTreeMap ℕ ClientFile

pub record ClientView : Type 0 where
  -- the script's time
  pub clock : ℕ
  -- the directories of which the client was told
  pub tree : List Directory
  -- the realms' last records that were delivered to it
  pub realms : List RealmRecord
  -- what it keeps of each file of which it was told
  pub files : BTreeMap ℕ ClientFile
  -- these files, in the order in which it was told of them
  pub made : List ℕ
  pub refs : RefTable
  -- how many requests were sent, and those that are open
  pub requests : RequestTable
  -- the leases on entries of directories
  pub leases : List EntryLease
  -- how many numbers of operations were drawn
  pub operations : ℕ
  -- how many numbers of flushes were drawn
  pub flushes : ℕ

-- The client before its first event

pub record IsBlank (v : ClientView) : Type 0 where
  pub clock : v.clock ≡ 0
  pub tree : v.tree ≡ record { ino = 1; path = 1 ∷ [] } ∷ []
  pub realms : v.realms ≡ root_record ∷ []
  pub files : (f : ℕ) → get nat_cmp v.files f ≡ None
  pub made : v.made ≡ []
  pub live : v.refs.live ≡ []
  pub begun : (c : ℕ) → begun_of c v.refs ≡ 0
  pub requests : v.requests ≡ record { sent = 0; requests = [] }
  pub leases : v.leases ≡ []
  pub operations : v.operations ≡ 0
  pub flushes : v.flushes ≡ 0

-- What always holds

abbrev pub is_among : ℕ → List ℕ → Bool
is_among f fs = list_any (λ g. g == f) fs

abbrev pub IsEachOnce : List ℕ → Type 0
IsEachOnce [] = Unit {0}
IsEachOnce (f ∷ fs) = (is_among f fs ≡ false) × IsEachOnce fs

-- what is kept of file f; rs: the live references, sent: how many numbers of flushes were drawn
pub record IsRow (rs : List Live) (sent f : ℕ) (i : FileInode) : Type 0 where
  pub ino : i.ino ≡ f
  -- it counts the live references that may write
  pub writers : i.writers ≡ writers_of f rs
  -- its flushes have numbers that were drawn
  pub tids : greatest_tid i ≤ sent
  pub size : i.meta.size ≤ greatest_end

-- a live reference is one to the file
abbrev pub is_used : ℕ → List Live → Bool
is_used f rs = list_any (λ r. r.file == f) rs

abbrev pub is_kept : Files → ℕ → Bool
is_kept files f = is_some (get nat_cmp files f)

pub record AreTables (files : Files) (rs : List Live) (sent : ℕ) : Type 0 where
  pub rows : (f : ℕ) (r : ClientFile) → get nat_cmp files f ≡ Some r → IsRow rs sent f r.inode
  -- each live reference is one to a file that is kept
  pub lives : (f : ℕ) → is_used f rs ≡ true → is_kept files f ≡ true

abbrev pub HaveTables : Files → List Live → Type 0
HaveTables files rs = (sent : ℕ) × AreTables files rs sent

-- the list has exactly the files that are kept, each once
pub record AreMade (files : Files) (made : List ℕ) : Type 0 where
  pub listed : (f : ℕ) → is_kept files f ≡ is_among f made
  pub once : IsEachOnce made
  pub few : length made < 2 ^ 32

-- each file's directory is one of the tree
abbrev pub HaveHomes : List Directory → Files → Type 0
HaveHomes tree files = (f : ℕ) (r : ClientFile) → get nat_cmp files f ≡ Some r → has_directory r.home tree ≡ true

pub record IsClient (v : ClientView) : Type 0 where
  pub clock : v.clock ≤ greatest_time
  pub tables : AreTables v.files v.refs.live v.flushes
  pub made : AreMade v.files v.made
  pub homes : HaveHomes v.tree v.files

-- each file has the context of its directory. It has not while the client takes a snapshot's message in, nor after want of memory
-- there.
abbrev pub ContextsFollow : List Directory → List RealmRecord → Files → Type 0
ContextsFollow tree realms files = (f : ℕ) (r : ClientFile) → get nat_cmp files f ≡ Some r → r.inode.context ≡ home_context tree realms r.home

-- The table of files before and after

-- it has numbers of flushes up to this one
abbrev pub AreDrawn : Files → ℕ → Type 0
AreDrawn files sent = (f : ℕ) (r : ClientFile) → get nat_cmp files f ≡ Some r → greatest_tid r.inode ≤ sent

abbrev pub IsDrawnBelow : ℕ → Files → Type 0
IsDrawnBelow tid files = (f : ℕ) (r : ClientFile) → get nat_cmp files f ≡ Some r → greatest_tid r.inode < tid

-- what always holds of a file stays
pub record IsLike (old new : FileInode) : Type 0 where
  pub ino : new.ino ≡ old.ino
  pub writers : new.writers ≡ old.writers
  pub tids : greatest_tid new ≤ greatest_tid old
  pub size : old.meta.size ≤ greatest_end → new.meta.size ≤ greatest_end

-- each row is what the function makes of the one before
abbrev pub RowsAfter : (ℕ → Option ClientFile → Option ClientFile) → Files → Files → Type 0
RowsAfter go old new = (f : ℕ) → get nat_cmp new f ≡ go f (get nat_cmp old f)

-- the table says the same of each file
abbrev pub SameRows : Files → Files → Type 0
SameRows old new = (f : ℕ) → get nat_cmp new f ≡ get nat_cmp old f

-- what holds of its rows holds afterwards
abbrev pub KeepsTables : Files → Files → Type 0
KeepsTables old new = (rs : List Live) (sent : ℕ) → AreTables old rs sent → AreTables new rs sent

-- it has the same files, in the same directories
abbrev pub SameHomes : Files → Files → Type 0
SameHomes old new = (f : ℕ) → option_map (λ r. r.home) (get nat_cmp new f) ≡ option_map (λ r. r.home) (get nat_cmp old f)

-- the directory of a file, and its context
abbrev pub place_of : ClientFile → ℕ × Context
place_of r = (r.home, r.inode.context)

-- it has the same files, in the same directories and under the same contexts
abbrev pub SamePlaces : Files → Files → Type 0
SamePlaces old new = (f : ℕ) → option_map place_of (get nat_cmp new f) ≡ option_map place_of (get nat_cmp old f)
