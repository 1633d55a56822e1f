-- The files' contexts follow the realms of which the client is told: up has the path of each directory, and ts are the realms'
-- last records.
use Rattle.std.specs.Prelude.{◌≡◌, ℕ, ◌<◌, ◌==◌, Bool, true, false, List, Option, Some, None, if◌then◌else◌}
use Rattle.std.specs.BTreeMap.{get}
use Rattle.std.specs.List.{list_any}
use Rattle.std.specs.Option.{option_map, option_map_or}
use Rattle.std.specs.Ordering.{nat_cmp}
use Rattle.cs_snapctx.specs.declared.realm.RealmRecord.{RealmRecord}
use Rattle.cs_snapctx.specs.Context.{Context}
use Rattle.cs_snapctx.specs.Contexts.{context}
use Rattle.cs_inode.specs.Calls.{count_needed, needs_snap_at, with_context_at}
use Rattle.cs_laws.specs.Context.{differs, path_context}
use Rattle.cs_client.specs.declared.file.ClientFile.{ClientFile}
use Rattle.cs_client.specs.Rows.{with_inode}
use Rattle.cs_client.specs.Views.{Files, is_among}

-- A file

abbrev pub told_context : (ℕ → List ℕ) → List RealmRecord → ClientFile → Context
told_context up ts r = path_context (up r.home) ts

abbrev pub needs_told : (ℕ → List ℕ) → List RealmRecord → ClientFile → Bool
needs_told up ts r = needs_snap_at (told_context up ts r) r.inode

abbrev pub told_row : (ℕ → List ℕ) → List RealmRecord → ClientFile → ClientFile
told_row up ts r = with_inode (with_context_at (told_context up ts r)) r

-- where the context becomes another one, its seq rises
abbrev pub RisesIn : (ℕ → List ℕ) → List RealmRecord → Option ClientFile → Type 0
RisesIn up ts None = Unit {0}
RisesIn up ts (Some r) = differs r.inode.context (told_context up ts r) ≡ true → r.inode.context.seq < (told_context up ts r).seq

abbrev pub ContextsRise : (ℕ → List ℕ) → List RealmRecord → Files → Type 0
ContextsRise up ts files = (f : ℕ) → RisesIn up ts (get nat_cmp files f)

-- Files

abbrev pub needs_at : (ℕ → List ℕ) → List RealmRecord → Option ClientFile → Bool
needs_at up ts row = option_map_or (needs_told up ts) row false

-- how many of these files get a cap snap
abbrev pub count_changed : (ℕ → List ℕ) → List RealmRecord → Files → List ℕ → ℕ
count_changed up ts old fs = count_needed (λ f. needs_at up ts (get nat_cmp old f)) fs

-- one file's row is changed, if the table has it; needed: whether it got a cap snap
pub record ChangesRow (up : ℕ → List ℕ) (ts : List RealmRecord) (old new : Files) (g : ℕ) (needed : Bool) : Type 0 where
  pub answer : needed ≡ needs_at up ts (get nat_cmp old g)
  pub rows : (f : ℕ) → get nat_cmp new f ≡ (if g == f then option_map (told_row up ts) (get nat_cmp old f) else get nat_cmp old f)

-- the row of each of these files is changed, and no other
abbrev pub ChangesAll : (ℕ → List ℕ) → List RealmRecord → Files → Files → List ℕ → Type 0
ChangesAll up ts old new fs =
    (f : ℕ) → get nat_cmp new f ≡ (if is_among f fs then option_map (told_row up ts) (get nat_cmp old f) else get nat_cmp old f)

-- The realms whose contexts became another one: these are touched

-- every other realm has the context of before
abbrev pub OthersStay : List ℕ → List RealmRecord → List RealmRecord → Type 0
OthersStay touched before after = (d : ℕ) → is_among d touched ≡ false → context before d ≡ context after d

-- one more record: what was touched stays so, and every other realm has the context of before
abbrev pub TouchesMore : List ℕ → List ℕ → List RealmRecord → List RealmRecord → Type 0
TouchesMore old new before after = (d : ℕ) → is_among d new ≡ false → (is_among d old ≡ false) × (context before d ≡ context after d)

-- a directory on the way up is touched
abbrev pub is_touched : List ℕ → List ℕ → Bool
is_touched touched up = list_any (λ d. is_among d touched) up

-- the file has the context of its way up already, unless a directory on it is touched
abbrev pub StaysIn : (ℕ → List ℕ) → List ℕ → List RealmRecord → Option ClientFile → Type 0
StaysIn up touched ts None = Unit {0}
StaysIn up touched ts (Some r) = is_touched touched (up r.home) ≡ false → r.inode.context ≡ told_context up ts r

abbrev pub FilesStay : (ℕ → List ℕ) → List ℕ → List RealmRecord → Files → Type 0
FilesStay up touched ts files = (f : ℕ) → StaysIn up touched ts (get nat_cmp files f)
