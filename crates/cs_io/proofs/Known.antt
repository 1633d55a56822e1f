-- Known bytes that grow and are consumed in pieces.
use Rattle.std.proofs.Common.{◌≡◌, ◌∙◌, sym, ap, refl, ℕ, List, [], ◌++◌, take, drop, Option, append_assoc, Result, Ok, Err}
use Rattle.std.proofs.KnownBytes.{Appends-nil, Appends-trans, Consumes-trans}
use Rattle.std.proofs.lemmas.List.{take-append-drop}
use Rattle.std.specs.Io.KnownBytes.{Appends, Consumes}
use Rattle.std.specs.Prelude.{OnErr}
use Rattle.cs_io.specs.Whole.{TookFront, ConsumesFront}

-- ---- bytes taken

pub appends_none : (a : Option (List ℕ)) → Appends a a []
appends_none a = Appends-nil a

pub appends_more : (a b c : Option (List ℕ)) (xs ys : List ℕ) → Appends a b xs → Appends b c ys → Appends a c (xs ++ ys)
appends_more a b c xs ys p q = Appends-trans a b c xs ys p q

-- nothing yet
pub took_none : (a : Option (List ℕ)) (bytes : List ℕ) → TookFront a a bytes bytes
took_none a bytes = record { front = []; whole = refl; taken = appends_none a }

-- some more of the rest
pub took_more : (a b c : Option (List ℕ)) (bytes rest : List ℕ) (n : ℕ) → TookFront a b bytes rest → Appends b c (take n rest)
    → TookFront a c bytes (drop n rest)
took_more a b c bytes rest n t q = record {
  front = t.front ++ take n rest;
  whole = t.whole ∙ (ap (λ r. t.front ++ r) (sym (take-append-drop n rest)) ∙ sym (append_assoc t.front (take n rest) (drop n rest)));
  taken = appends_more a b c t.front (take n rest) t.taken q;
}

-- the same, where what comes after them has a name
pub took_next : (a b c : Option (List ℕ)) (bytes rest after : List ℕ) (n : ℕ) → TookFront a b bytes rest → Appends b c (take n rest)
    → after ≡ drop n rest → TookFront a c bytes after
took_next a b c bytes rest after n t q e = rw e (took_more a b c bytes rest n t q)

-- ---- bytes consumed

-- what was read is gone, also where a later call failed
pub gone : {T E : Type 0} (a b c : Option (List ℕ)) (xs ys : List ℕ) (r : Result T E) → Consumes a b xs → Consumes b c ys
    → OnErr r (ConsumesFront a c)
gone a b c xs ys (Ok x) p q = tt
gone a b c xs ys (Err x) p q = (xs ++ ys, Consumes-trans a b c xs ys p q)
