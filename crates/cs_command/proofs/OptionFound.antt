-- The entry of the option in the matches: it has a value, which passed the option's parser.
use Rattle.std.proofs.Common.{◌≡◌, ◌∙◌, ◌<◌, ◌≤◌, Bool, true, false, zero, suc, List, [], ◌∷◌, length, Some, codes, refl, ap, sym, subst, inl, inr, arith}
use Rattle.std.proofs.lemmas.List.Elements.{All-get_or, All-drop}
use Rattle.std.proofs.lemmas.Slice.Eq.{bytes_eq-Decides}
use Rattle.std.specs.Prelude.{find, is_some, pos, unwrap_or}
use Rattle.std.specs.List.{All, Any, slice_index_or}
use Rattle.std.specs.Str.{bytes_eq}
use Rattle.std.specs.Borrow.{Bor}
use Rattle.clap.specs.Lexer.{without_minus}
use Rattle.clap.specs.Values.{Accepts, IsSignedIn, reading_of}
use Rattle.clap.specs.Matches.{found_of, one_text}
use Rattle.clap.specs.Facts.{Entry, EntryPasses, HasIn, MayBeEmpty, WantsDefault, args_of, groups_of, least_values, parser_of, parser_of_value, unwrap_or_range}
use Rattle.clap.specs.Walk.{Text}
use Rattle.clap.specs.Simple.{app_of}
use Rattle.clap.specs.Built.{IsParsedFrom, SameRules}
use Rattle.clap.specs.declared.builder.action.ArgAction.TheVariants.{Count, Set}
use Rattle.clap.specs.declared.builder.arg.Arg.{Arg}
use Rattle.clap.specs.declared.builder.arg_group.ArgGroup.{ArgGroup}
use Rattle.clap.specs.declared.builder.command.Command.{Command}
use Rattle.clap.specs.declared.builder.value_parser.Reading.TheVariants.{WithoutMinus}
use Rattle.clap.specs.declared.builder.value_parser.ValueParser.TheVariants.{Signed}
use Rattle.clap.specs.declared.parser.matches.ArgMatches.{ArgMatches}
use Rattle.clap.proofs.CallerLemmas.{default_present}
use Rattle.cs_command.specs.Words.{run_line}
use Rattle.cs_command.proofs.RunLine.{IsPagesOption, KeepsOption, first_id, is_run_line, keeps_option}

-- an entry that the look-up of an id finds, with what holds of each entry
abbrev FoundAt : (Entry → Type 0) → List Entry → Text → Type 0
FoundAt P xs id = (e : Entry) × (find (λ e. bytes_eq e.0.now id) xs ≡ Some e) × (bytes_eq e.0.now id ≡ true) × P e

found_entry : (P : Entry → Type 0) (xs : List Entry) (id : Text) → All P xs → HasIn xs id → FoundAt P xs id
found_entry P [] id all has =
    let low : has.0 < 0 = has.1 in
    absurd (omega arith)
found_entry P (x ∷ xs) id all has =
    go (bytes_eq x.0.now id) refl has (λ h. found_entry P xs id (All-drop P 1 (x ∷ xs) all) h)
  where
    go : (b : Bool) → bytes_eq x.0.now id ≡ b → HasIn (x ∷ xs) id → (HasIn xs id → FoundAt P xs id) → FoundAt P (x ∷ xs) id
    go true is h next = (x, rw is refl, is, All-get_or P (x ∷ xs) 0 x (omega arith) all)
    go false is (zero, low, here) next =
        let bad : bytes_eq x.0.now id ≡ true = here x in
        cc
    go false is (suc i, low, here) next =
        let rest = next (i, omega arith, here) in
        (rest.0, rw is rest.1, rest.2, rest.3)

-- the entry is the option's, in the matches of a built command
record IsOptionEntry (built : Command) (a : Arg) (e : Entry) : Type 0 where
  option : IsPagesOption a
  keeps : KeepsOption built a
  no_groups : groups_of built ≡ []
  key : e.0.now ≡ codes "pages"
  passes : EntryPasses built e

-- an argument with the entry's id keeps the option's rules
same_option : (built : Command) (a : Arg) (e : Entry) (Q : Arg → Type 0) → IsOptionEntry built a e
    → (any : Any (λ x. (bytes_eq x.id.now e.0.now ≡ true) × Q x) (args_of built)) → SameRules a any.1
same_option built a e Q h any =
    h.keeps any.0 any.1 any.2 any.3 (subst (λ t. bytes_eq any.1.id.now t ≡ true) h.key any.4.0)

same_parser : (a x : Arg) → IsPagesOption a → SameRules a x → parser_of x ≡ Signed (pos 1) (pos 1024)
same_parser a x option same = ap parser_of_value (same.parser (Signed (pos 1) (pos 1024)) option.parser)

not_empty : (t : Text) → t ≡ codes "pages" → t ≡ [] → ⊥
not_empty t is empty = cc

no_group : (built : Command) (a : Arg) (e : Entry) → IsOptionEntry built a e → e.1.is_group ≡ true → ⊥
no_group built a e h group = elim (h.passes.3 group) [
  | inl empty ↦ absurd (not_empty e.0.now h.key empty)
  | inr some ↦
      let bad : 0 < 0 = subst (λ (gs : List ArgGroup). 0 < length gs) h.no_groups some in
      absurd (omega arith)
]

has_value : (built : Command) (a : Arg) (e : Entry) → IsOptionEntry built a e → 0 < length e.1.vals.items
has_value built a e h = elim h.passes.1 [
  | inl group ↦ absurd (no_group built a e h group.0)
  | inr (inl some) ↦ some
  | inr (inr (inl counted)) ↦
      let same = same_option built a e (λ x. unwrap_or x.action Set ≡ Count) h counted.1 in
      let bad : Set ≡ Count = subst (λ o. unwrap_or o Set ≡ Count) (same.action Set h.option.action) counted.1.4.1 in
      cc
  | inr (inr (inr empty)) ↦
      let same = same_option built a e MayBeEmpty h empty in
      let one : least_values a ≡ 1 = ap (λ o. (unwrap_or_range o).start_inclusive) h.option.values in
      let least : 1 ≤ least_values empty.1 = same.least h.option.action (omega arith) in
      let whole : is_some empty.1.val_delim ≡ false = ap (λ o. is_some o) (same.val_delim ∙ h.option.delimiter) in
      elim empty.4.1 [ inl zero_values ↦ absurd (omega arith) | inr split ↦ cc ]
]

values_pass : (built : Command) (a : Arg) (e : Entry) → IsOptionEntry built a e
    → All (λ v. IsSignedIn (pos 1) (pos 1024) v.now) e.1.vals.items
values_pass built a e h = elim h.passes.0 [
  | inl group ↦ absurd (no_group built a e h group)
  | inr all ↦ λ k d low.
      let v = slice_index_or e.1.vals.items k d in
      let any = all k d low in
      let same = same_option built a e (λ x. Accepts x.ignore_case (parser_of x) v.now) h any in
      subst (λ q. Accepts any.1.ignore_case q v.now) (same_parser a any.1 h.option same) any.4.1
]

reads_so : (built : Command) (a : Arg) (e : Entry) → IsOptionEntry built a e → e.1.reading ≡ WithoutMinus
reads_so built a e h = elim h.passes.4 [
  | inl group ↦ absurd (no_group built a e h group)
  | inr any ↦
      let same = same_option built a e (λ x. reading_of (parser_of x) ≡ e.1.reading) h any in
      sym any.4.1 ∙ ap reading_of (same_parser a any.1 h.option same)
]

-- the text that the getters read of the option passed its parser
pub record PagesText (m : ArgMatches) : Type 0 where
  pub text : Text
  pub found : one_text (found_of m) (codes "pages") ≡ Some (without_minus text)
  pub passed : IsSignedIn (pos 1) (pos 1024) text

text_of : (m : ArgMatches) (e : Entry) → find (λ e. bytes_eq e.0.now (codes "pages")) (found_of m).entries.items ≡ Some e
    → (vs : List (Bor Text)) → e.1.vals.items ≡ vs → 0 < length vs → All (λ v. IsSignedIn (pos 1) (pos 1024) v.now) vs
    → e.1.reading ≡ WithoutMinus → PagesText m
text_of m e found [] is low all reading = absurd (omega arith)
text_of m e found (v ∷ vs) is low all reading = record {
  text = v.now;
  found = rw (found, is, reading) refl;
  passed = All-get_or (λ v. IsSignedIn (pos 1) (pos 1024) v.now) (v ∷ vs) 0 v low all;
}

pub pages_text : (c : Command) (m : ArgMatches) → app_of c ≡ run_line → IsParsedFrom c m → PagesText m
pages_text c m e p =
    let r = is_run_line c e in
    let wants = subst WantsDefault (sym r.first) r.option.default in
    let has = subst (HasIn (found_of m).entries.items) (first_id c r) (default_present c m p r.simple.globals 0 r.arg r.some wants) in
    let parsed = p.parsed (p.from.globals ∙ r.simple.globals) in
    let got = found_entry (EntryPasses p.built) (found_of m).entries.items (codes "pages") parsed.values has in
    let entry : IsOptionEntry p.built r.arg got.0 = record {
      option = r.option;
      keeps = keeps_option c m p r;
      no_groups = (p.from.same_groups r.no_groups).1 ∙ r.simple.groups;
      key = (bytes_eq-Decides got.0.0.now (codes "pages")).0 got.2;
      passes = got.3;
    } in
    text_of m got.0 got.1 got.0.1.vals.items refl (has_value p.built r.arg got.0 entry) (values_pass p.built r.arg got.0 entry)
    (reads_so p.built r.arg got.0 entry)
