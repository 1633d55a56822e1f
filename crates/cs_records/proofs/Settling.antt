-- A front of the records that aren't durable becomes so.
use Rattle.std.proofs.Common.{◌≡◌, [], ◌++◌, take, drop, refl, sym, ◌∙◌, ap, append-nil, append_assoc}
use Rattle.std.proofs.lemmas.List.{take-append-drop}
use Rattle.cs_records.specs.Records.{RecordLog, Settles, all}

pub settles_none : (v : RecordLog) → Settles v v
settles_none v = record { front = []; durable = sym (append-nil v.durable); fresh = refl }

pub settles_more : (old mid new : RecordLog) → Settles old mid → Settles mid new → Settles old new
settles_more old mid new s t = record {
  front = s.front ++ t.front;
  durable = t.durable ∙ (ap (λ xs. xs ++ t.front) s.durable ∙ append_assoc old.durable s.front t.front);
  fresh = s.fresh ∙ (ap (λ xs. s.front ++ xs) t.fresh ∙ sym (append_assoc s.front t.front new.fresh));
}

pub settles_all : (old new : RecordLog) → Settles old new → all new ≡ all old
settles_all old new s = ap (λ xs. xs ++ new.fresh) s.durable ∙ (append_assoc old.durable s.front new.fresh ∙ ap (λ xs. old.durable ++ xs) (sym s.fresh))

pub settles_one : (old new : RecordLog) → new.durable ≡ old.durable ++ take 1 old.fresh → new.fresh ≡ drop 1 old.fresh → Settles old new
settles_one old new durable fresh = record {
  front = take 1 old.fresh;
  durable = durable;
  fresh = sym (ap (λ xs. take 1 old.fresh ++ xs) fresh ∙ take-append-drop 1 old.fresh);
}
