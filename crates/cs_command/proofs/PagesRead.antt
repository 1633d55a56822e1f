-- What the getter of the option reads.
use Rattle.std.proofs.Common.{◌≡◌, ◌∙◌, ◌≤◌, ℕ, true, cond, List, [], Option, Some, None, codes, refl, ap, sym, subst, arith}
use Rattle.std.specs.Prelude.{IsSome, Ok, Result, unwrap_or}
use Rattle.std.specs.Str.Parse.{ParsesUnsigned, digits_value, without_leading_plus}
use Rattle.clap.specs.Lexer.{without_minus}
use Rattle.clap.specs.Matches.{ReadsOne, found_of, one_text}
use Rattle.clap.specs.Walk.{Text, is_empty, one_of, rows_of}
use Rattle.clap.specs.Faults.{fault_of, is_simple_and_free}
use Rattle.clap.specs.Kinds.{Kinds}
use Rattle.clap.specs.Simple.{App, HasMatchesOf, app_of, is_simple, matches_of}
use Rattle.clap.specs.Built.{IsParsedFrom}
use Rattle.clap.specs.declared.builder.command.Command.{Command}
use Rattle.clap.specs.declared.parser.matches.ArgMatches.{ArgMatches}
use Rattle.clap.proofs.CallerReads.{signed_reads}
use Rattle.clap.proofs.WalkLemmas.{one_text-rows}
use Rattle.cs_ids.specs.Ranges.{IsIn}
use Rattle.cs_command.specs.Words.{number_in, run_asked, run_line}
use Rattle.cs_command.specs.declared.command.Command.TheVariants.{Run}
use Rattle.cs_command.proofs.OptionFound.{pages_text}

-- there is a number, and it is what the words ask for
pub record IsPagesRead (words : List Text) (read : Option ℕ) : Type 0 where
  pub some : IsSome read
  pub asked : (pages : ℕ) → read ≡ Some pages → run_asked words ≡ Some (Run pages)
  pub range : (pages : ℕ) → read ≡ Some pages → IsIn 1 1024 pages

run_asked_at : (words : List Text) (pages : ℕ) → fault_of run_line words ≡ [] → pages ≡ number_in run_line (codes "pages") words
    → run_asked words ≡ Some (Run pages)
unfolding run_asked
run_asked_at words pages none value =
    ap (λ (kinds : Kinds). cond (is_empty kinds) (Some (Run (number_in run_line (codes "pages") words))) None) none
    ∙ ap (λ (n : ℕ). Some (Run n)) (sym value)

read_at : (words : List Text) (read : Option ℕ) (n : ℕ) → read ≡ Some n → run_asked words ≡ Some (Run n) → 1 ≤ n → n ≤ 1024
    → IsPagesRead words read
read_at words read n is asked least most = record {
  some = subst (λ (o : Option ℕ). IsSome o) (sym is) refl;
  asked = λ pages e.
      let same : n ≡ pages = cc in
      subst (λ k. run_asked words ≡ Some (Run k)) same asked;
  range = λ pages e.
      let same : n ≡ pages = cc in
      (omega arith, omega arith);
}

pub pages_read : (c : Command) (m : ArgMatches) (words : List Text) (E : Type 0) (G : Text → Result ℕ E → Type 0) (read : Option ℕ)
    → app_of c ≡ run_line → IsParsedFrom c m → HasMatchesOf (app_of c) words m
    → (is_simple_and_free (app_of c) ≡ true → fault_of (app_of c) words ≡ [])
    → ((t : Text) → one_text (found_of m) (codes "pages") ≡ Some t → ReadsOne G t read)
    → ((t : Text) (x : Result ℕ E) → G t x → ParsesUnsigned 32 10 t x) → IsPagesRead words read
pages_read c m words E G read e parsed matches faults gives only =
    let given = pages_text c m e parsed in
    let text = without_minus given.text in
    let number = signed_reads E G 32 1 1024 given.text read (gives text given.found) only (omega arith) given.passed in
    let parses : G text (Ok number.0) = subst (ReadsOne G text) number.1 (gives text given.found) in
    let rows : rows_of (found_of m) ≡ matches_of run_line words =
    (matches (ap is_simple e)).0 ∙ ap (λ (a : App). matches_of a words) e in
    let row : one_of (codes "pages") (matches_of run_line words) ≡ Some text =
    ap (one_of (codes "pages")) (sym rows) ∙ (sym (one_text-rows (found_of m) (codes "pages")) ∙ given.found) in
    let value = (only text (Ok number.0) parses).1
    ∙ ap (λ (o : Option Text). digits_value 10 (without_leading_plus (unwrap_or o []))) (sym row) in
    let none = ap (λ (a : App). fault_of a words) (sym e) ∙ faults (ap is_simple_and_free e) in
    read_at words read number.0 number.1 (run_asked_at words number.0 none value) number.2 number.3
