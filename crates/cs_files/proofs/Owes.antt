-- A file knows what of it the server may not have.
use Rattle.std.proofs.Common.{◌≡◌, ◌∙◌, refl, ℕ, true, List, [], ◌∷◌}
use Rattle.std.specs.List.{list_any}
use Rattle.cs_inode.specs.Inodes as inodes
use Rattle.cs_inode.specs.Inodes.{has_any}
use Rattle.cs_laws.specs.declared.answers.Entry.{Entry}
use Rattle.cs_laws.specs.declared.objects.At.{At}
use Rattle.cs_laws.specs.declared.objects.At.TheVariants as at
use Rattle.cs_laws.specs.ClientKnows.{client_knows}
use Rattle.cs_laws.specs.History.{live}
use Rattle.cs_laws.specs.Owed.{owed}
use Rattle.cs_laws.specs.Runs.{IsRun}
use Rattle.cs_theorems.specs.Queues.{snaps}
use Rattle.cs_theorems.specs.Unacked.{unacked}
use Rattle.cs_theorems.proofs.Owing.{owed_head, owed_snap, writer_counted}
use Rattle.cs_files.specs.Laws.{snapshot_of}
use Rattle.cs_files.specs.Rows.{inode}

any_is : {A : Type 0} (xs : List A) → list_any (λ (x : A). true) xs ≡ has_any xs
any_is [] = refl
any_is (x ∷ xs) = refl

pub owed_is : (p : ℕ) (h : List Entry) → IsRun p h → (f : ℕ) (a : At) → client_knows h f ≡ true → owed h f a ≡ inodes.owed (snapshot_of a) (inode h f)
owed_is p h run f at.Head known = owed_head p h run f known ∙ rw (writer_counted f (live h), any_is (snaps h f), any_is (unacked h f)) refl
owed_is p h run f (at.Snap s) known = owed_snap p h run f s known
