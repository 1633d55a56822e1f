-- Where the writing stopped.
use Rattle.std.proofs.Common.{◌≡◌, ◌∙◌, sym, ap, refl, List, ◌++◌, ℕ, Option, append_assoc, Result, Ok, Err, OnErr}
use Rattle.std.specs.Io.KnownBytes.{Appends}
use Rattle.cs_io.specs.Whole.{AppendsFront}
use Rattle.cs_io.proofs.Known.{appends_more, took_none}

-- nothing was taken
pub took_nothing : (a : Option (List ℕ)) (bytes : List ℕ) → AppendsFront a a bytes
took_nothing a bytes = (bytes, took_none a bytes)

-- a front of a front
pub longer : (a b : Option (List ℕ)) (part behind whole : List ℕ) → whole ≡ part ++ behind → AppendsFront a b part → AppendsFront a b whole
longer a b part behind whole is t = (
  t.0 ++ behind,
  record {
    front = t.1.front;
    whole = is ∙ (ap (λ xs. xs ++ behind) t.1.whole ∙ append_assoc t.1.front t.0 behind);
    taken = t.1.taken;
  },
)

-- what was taken whole, and a front of what comes behind it
pub behind_whole : (a b c : Option (List ℕ)) (done part : List ℕ) → Appends a b done → AppendsFront b c part → AppendsFront a c (done ++ part)
behind_whole a b c done part before t = (
  t.0,
  record {
    front = done ++ t.1.front;
    whole = ap (λ xs. done ++ xs) t.1.whole ∙ sym (append_assoc done t.1.front t.0);
    taken = appends_more a b c done t.1.front before t.1.taken;
  },
)

-- what was taken whole is a front of what begins with it
pub front_whole : (a b : Option (List ℕ)) (done behind : List ℕ) → Appends a b done → AppendsFront a b (done ++ behind)
front_whole a b done behind t = (behind, record { front = done; whole = refl; taken = t })

-- Results

pub any_err : {T E Q : Type 0} (r : Result T E) → Q → OnErr r Q
any_err (Ok x) q = tt
any_err (Err e) q = q
