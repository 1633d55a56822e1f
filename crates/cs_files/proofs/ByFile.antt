-- What is done to one file changes what is kept of it, and leaves the others.
use Rattle.std.proofs.Common.{◌≡◌, refl, subst, ℕ, ◌==◌, Bool, true, false, cond}
use Rattle.std.proofs.lemmas.Bool.{eqb-true}
use Rattle.cs_inode.specs.Inodes.{FileInode}

-- was, now: what is kept of each file before and afterwards; g: the file to which go is done
pub by_file : (was now : ℕ → FileInode) (go : FileInode → FileInode) (g f : ℕ) → now g ≡ go (was g) → ((g == f) ≡ false → now f ≡ was f)
    → now f ≡ cond (g == f) (go (was f)) (was f)
by_file was now go g f done other = at (g == f) refl
  where
    at : (b : Bool) → (g == f) ≡ b → now f ≡ cond b (go (was f)) (was f)
    at true same = subst (λ k. now k ≡ go (was k)) (eqb-true g f same) done
    at false apart = other apart
