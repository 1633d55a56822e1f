-- Taking the next line of a text.
use Rattle.std.specs.Prelude.{◌≡◌, ◌<◌, ◌≤◌, ℕ, List, [], ◌∷◌, length}
use Rattle.cs_text.specs.declared.lines.Line.{Line}
use Rattle.cs_text.specs.declared.lines.Line.TheVariants.{Text, End, TooLong}

-- the first of the lines was taken, and was handed out unless it has more than 4,096 bytes
abbrev pub Takes : List (List ℕ) → List (List ℕ) → Line → Type 0
Takes old new (Text line) = (old ≡ line.now ∷ new) × (length line.now ≤ 4096)
Takes old new End = (old ≡ []) × (new ≡ [])
Takes old new TooLong = (line : List ℕ) × (old ≡ line ∷ new) × (4096 < length line)
