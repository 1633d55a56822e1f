-- What the words of the command line ask for, by `clap`'s meaning of a command and its arguments.
use Rattle.std.specs.Prelude.{ℕ, Bool, List, [], ◌∷◌, Option, Some, None, pos, codes, if◌then◌else◌, map, unwrap_or, String, string_bytes}
use Rattle.std.specs.Str.{bytes_eq}
use Rattle.std.specs.Str.Parse.{digits_value, without_leading_plus}
use Rattle.std.specs.declared.alloc.Global.{Global}
use Rattle.clap.specs.Walk.{is_empty}
use Rattle.clap.specs.Words.{App, Rule, Text, fault_of, matches_of, new_app, new_rule, one_of, with_rule}
use Rattle.clap.specs.declared.builder.action.ArgAction.TheVariants.{Set}
use Rattle.clap.specs.declared.builder.value_parser.ValueParser.TheVariants.{Signed}
use Rattle.cs_ids.specs.Ranges.{IsIn}
use Rattle.cs_command.specs.declared.command.Command.{Command}
use Rattle.cs_command.specs.declared.command.Command.TheVariants.{Run, Trim}

abbrev pub texts_of : List (String Global) → List Text
texts_of words = map string_bytes words

-- `clap` finds no fault with the words, of which it passes over the first, the command's own
abbrev pub is_taken : App → List Text → Bool
is_taken line words = is_empty (fault_of line words)

-- the number under the id in the matches, where an argument with a default always has one
abbrev pub number_in : App → Text → List Text → ℕ
number_in line id words =
    digits_value 10 (without_leading_plus (unwrap_or (one_of id (matches_of line words)) []))

-- `--pages P`: set at most once, a whole number from 1 to 1,024, and 256 where it isn't set
abbrev pub pages_option : Rule
pages_option = record (new_rule (codes "pages")) {
  long = Some (codes "pages");
  action = Some Set;
  parser = Some (Signed (pos 1) (pos 1024));
  defaults = codes "256" ∷ [];
}

-- `run`, which has no other argument and no rule between arguments
abbrev pub run_line : App
run_line = with_rule (new_app (codes "run")) pages_option

-- what `run` asks for with these arguments
unfoldable pub run_asked : List Text → Option Command
run_asked words =
    if is_taken run_line words then Some (Run (number_in run_line (codes "pages") words)) else None

-- `trim`, which has no argument
abbrev pub trim_line : App
trim_line = new_app (codes "trim")

-- what `trim` asks for with these arguments
unfoldable pub trim_asked : List Text → Option Command
trim_asked words = if is_taken trim_line words then Some Trim else None

-- what the words ask for, and None where they are refused
unfoldable pub asked : List Text → Option Command
asked [] = None
asked (word ∷ rest) =
    if bytes_eq word (codes "run") then run_asked (word ∷ rest)
    else if bytes_eq word (codes "trim") then trim_asked (word ∷ rest)
    else None

-- the pages that a command may have cached are 1 to 1,024
abbrev pub IsInRange : Command → Type 0
IsInRange (Run pages) = IsIn 1 1024 pages
IsInRange Trim = Unit {0}
