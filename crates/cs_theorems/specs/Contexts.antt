-- The contexts that a file had, one after the other.
use Rattle.std.specs.Prelude.{◌≡◌, ℕ, ◌<◌, true, List, [], ◌∷◌, ◌⊎◌}
use Rattle.cs_snapctx.specs.Context.{Context}
use Rattle.cs_laws.specs.declared.answers.Entry.{Entry}
use Rattle.cs_laws.specs.ClientKnows.{client_knows}
use Rattle.cs_laws.specs.History.{context}

-- the context stays, or its seq rises
abbrev pub Rises : Context → Context → Type 0
Rises old new = (new ≡ old) ⊎ (old.seq < new.seq)

-- At each entry the context of a file that the client knows stays, or its seq rises.
abbrev pub ContextsNeverFall : List Entry → Type 0
ContextsNeverFall [] = Unit {0}
ContextsNeverFall (x ∷ h) = ((f : ℕ) → client_knows h f ≡ true → Rises (context h f) (context (x ∷ h) f)) × ContextsNeverFall h

-- the context was that of the file, which the client knew, after some front of the journal
abbrev pub HadContext : List Entry → ℕ → Context → Type 0
HadContext [] f c = ⊥
HadContext (x ∷ h) f c = ((client_knows (x ∷ h) f ≡ true) × (context (x ∷ h) f ≡ c)) ⊎ HadContext h f c

abbrev pub OneContextForEachSeq : List Entry → Type 0
OneContextForEachSeq h = (f : ℕ) (a b : Context) → HadContext h f a → HadContext h f b → a.seq ≡ b.seq → a ≡ b
