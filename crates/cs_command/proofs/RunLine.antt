-- The command with the meaning of `run`, and what of its option stays when it is built.
use Rattle.std.proofs.Common.{◌≡◌, ◌∙◌, ◌<◌, ℕ, true, List, [], ◌∷◌, length, map, Some, None, codes, refl, ap, sym, subst, inl, inr, arith, slice_index}
use Rattle.std.proofs.lemmas.List.{length-map}
use Rattle.std.specs.Prelude.{pos}
use Rattle.std.specs.List.{All, list_all, slice_index_or}
use Rattle.std.specs.Str.{bytes_eq}
use Rattle.clap.specs.Texts.{items_of}
use Rattle.clap.specs.Facts.{WantsDefault, args_of}
use Rattle.clap.specs.Walk.{Rule, Text, rule_of}
use Rattle.clap.specs.Simple.{App, IsSimple, IsSimpleArg, app_of, is_ready, is_ready_leaf}
use Rattle.clap.specs.Built.{IsAuto, IsParsedFrom, SameRules}
use Rattle.clap.specs.declared.builder.action.ArgAction.TheVariants.{Set}
use Rattle.clap.specs.declared.builder.arg.Arg.{Arg}
use Rattle.clap.specs.declared.builder.command.Command.{Command}
use Rattle.clap.specs.declared.builder.value_parser.ValueParser.TheVariants.{Signed}
use Rattle.clap.specs.declared.parser.matches.ArgMatches.{ArgMatches}
use Rattle.clap.proofs.CallerLemmas.{same_rules_by_id}
use Rattle.clap.proofs.SimpleLemmas.{ready_simple, simple_groups}
use Rattle.cs_command.specs.Words.{pages_option, run_line}

-- a list whose image has one element has one
one_of_map : {X Y : Type 0} (f : X → Y) (xs : List X) (y : Y) → map f xs ≡ y ∷ [] → (x : X) × (xs ≡ x ∷ []) × (f x ≡ y)
one_of_map f [] y e = cc
one_of_map f (x ∷ []) y e = (x, refl, cc)
one_of_map f (x ∷ z ∷ xs) y e = cc

-- the argument is the option
pub record IsPagesOption (a : Arg) : Type 0 where
  pub id : a.id.now ≡ codes "pages"
  pub action : a.action ≡ Some Set
  pub parser : a.value_parser ≡ Some (Signed (pos 1) (pos 1024))
  pub values : a.num_vals ≡ None
  pub delimiter : a.val_delim ≡ None
  pub default : WantsDefault a

-- the command has the option alone
pub record IsRunLine (c : Command) : Type 0 where
  pub arg : Arg
  pub option : IsPagesOption arg
  pub args : args_of c ≡ arg ∷ []
  pub first : slice_index_or (args_of c) 0 arg ≡ arg
  pub some : 0 < length (args_of c)
  pub simple : IsSimple c
  pub no_groups : All (λ a. a.groups.items ≡ []) (args_of c)

pub is_run_line : (c : Command) → app_of c ≡ run_line → IsRunLine c
is_run_line c e =
    let one = one_of_map rule_of (args_of c) pages_option (ap (λ (a : App). a.top.rules) e) in
    let first : slice_index_or (args_of c) 0 one.0 ≡ one.0 = ap (λ l. slice_index_or l 0 one.0) one.1 in
    let some : 0 < length (args_of c) = subst (λ l. 0 < length l) (sym one.1) (omega arith) in
    let simple = ready_simple c (ap (λ (a : App). is_ready a.top) e) (ap (λ (a : App). list_all is_ready_leaf a.subs) e) in
    let plain = subst IsSimpleArg first (simple.args 0 one.0 some) in
    let default : map (λ s. s.now) (items_of one.0.default_vals) ≡ codes "256" ∷ [] = ap (λ (r : Rule). r.defaults) one.2 in
    let has_default : 0 < length (items_of one.0.default_vals) =
    omega (arith, length-map (items_of one.0.default_vals) (λ s. s.now), ap length default) in
    record {
      arg = one.0;
      option = record {
        id = ap (λ (r : Rule). r.id) one.2;
        action = ap (λ (r : Rule). r.action) one.2;
        parser = ap (λ (r : Rule). r.parser) one.2;
        values = ap (λ (r : Rule). r.range) one.2;
        delimiter = plain.delimiter;
        default = (plain.default_ifs, has_default);
      };
      args = one.1;
      first = first;
      some = some;
      simple = simple;
      no_groups = simple_groups c (ap (λ (a : App). list_all (λ r. r.is_simple) a.top.rules) e);
    }

pub first_id : (c : Command) (r : IsRunLine c) → (slice_index_or (args_of c) 0 r.arg).id.now ≡ codes "pages"
first_id c r = ap (λ (a : Arg). a.id.now) r.first ∙ r.option.id

-- the id begins with its own letter
first_letter : (t : Text) (b : ℕ) → t ≡ codes "pages" → slice_index t 0 ≡ b → 112 ≡ b
first_letter t b is first = sym (ap (λ (t : Text). slice_index t 0) is) ∙ first

-- each argument of the built command with the option's id keeps the option's rules
abbrev pub KeepsOption : Command → Arg → Type 0
KeepsOption built a = (j : ℕ) (x : Arg) → j < length (args_of built) → slice_index_or (args_of built) j x ≡ x
    → bytes_eq x.id.now (codes "pages") ≡ true → SameRules a x

pub keeps_option : (c : Command) (m : ArgMatches) (p : IsParsedFrom c m) (r : IsRunLine c) → KeepsOption p.built r.arg
keeps_option c m p r j x high at same =
    let unique : (i : ℕ) (e : Arg) → i < length (args_of c)
    → bytes_eq (slice_index_or (args_of c) i e).id.now (slice_index_or (args_of c) 0 r.arg).id.now ≡ true → i ≡ 0 =
    λ i e low _. let one : i < 1 = subst (λ l. i < length l) r.args low in omega arith in
    let own : IsAuto (slice_index_or (args_of c) 0 r.arg) → ⊥ = λ auto. elim auto [
      | inl help ↦
          let bad = first_letter _ 104 (first_id c r) (ap (λ (t : Text). slice_index t 0) help) in
          absurd (omega arith)
      | inr version ↦
          let bad = first_letter _ 118 (first_id c r) (ap (λ (t : Text). slice_index t 0) version) in
          absurd (omega arith)
    ] in
    let there = subst (λ t. bytes_eq x.id.now t ≡ true) (sym (first_id c r)) same in
    subst (λ w. SameRules w x) r.first (same_rules_by_id c m p 0 r.arg r.some unique own j x high at there)
