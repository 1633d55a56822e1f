-- Records that grow by one.
use Rattle.std.proofs.Common.{rules, ◌≡◌, ◌∙◌, refl, sym, subst, true, List, [], ◌∷◌, ◌++◌, append_assoc, append-nil}
use Rattle.std.proofs.lemmas.List.Elements.{All-append}
use Rattle.cs_laws.specs.declared.records.Record.{Record}
use Rattle.cs_laws.specs.Spellings.{record_spelled}
use Rattle.cs_records.specs.Log.{IsLogAfter, IsNext}
use Rattle.cs_mds.specs.Views.{AreRecords, KeepsRecords}

pub log_add : (before xs : List Record) (r : Record) → IsLogAfter before xs → IsNext (before ++ xs) r.body → IsLogAfter before (xs ++ r ∷ [])
log_add before [] r is next = (subst (λ rs. IsNext rs r.body) (append-nil before) next, tt)
log_add before (x ∷ xs) r is next =
    (is.0, log_add (before ++ x ∷ []) xs r is.1 (subst (λ rs. IsNext rs r.body) (sym (append_assoc before (x ∷ []) xs)) next))

added : (rs : List Record) (r : Record) → IsNext rs r.body → record_spelled r ≡ true → AreRecords rs → AreRecords (rs ++ r ∷ [])
added rs r next spelled are = record {
  log = log_add [] rs r are.log next;
  spelled = All-append (λ x. record_spelled x ≡ true) rs (r ∷ []) are.spelled (search (rules, spelled));
}

not_none : (ds fs : List Record) (r : Record) → ds ++ (fs ++ r ∷ []) ≡ [] → ⊥
not_none (d ∷ ds) fs r is = cc
not_none [] (f ∷ fs) r is = cc
not_none [] [] r is = cc

pub records_added : (ds fs es gs : List Record) (r : Record) → IsNext (ds ++ fs) r.body → record_spelled r ≡ true → es ≡ ds → gs ≡ fs ++ r ∷ []
    → KeepsRecords (ds ++ fs) (es ++ gs)
records_added ds fs es gs r next spelled durable fresh = record {
  formed = λ are. subst AreRecords (append_assoc ds fs (r ∷ []) ∙ sym grown) (added (ds ++ fs) r next spelled are);
  some = λ none. absurd (not_none ds fs r (sym grown ∙ none));
}
  where
    grown : es ++ gs ≡ ds ++ (fs ++ r ∷ [])
    grown = rw (durable, fresh) refl
