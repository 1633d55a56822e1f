use Rattle.std.proofs.Common.{◌≡◌, ◌+◌, ◌≤◌, ◌++◌, drop, length, take, vec_capacity, vec_len}
use Rattle.cs_realms.specs.Renewals.{put_all, answered_changes}
use Rattle.cs_realms.proofs.renewal.put_in.Given as goal

abbrev pub invariant-loop-place : goal.invariant-loop-place
invariant-loop-place l = record {
  contexts : take l.place l.contexts.items ++ put_all (drop l.place l.renewed.items) (drop l.place l.contexts.items) ≡ put_all l.initial.renewed.items l.initial.contexts.items;
  changes : l.changes.items ++ answered_changes (drop l.place l.records) (drop l.place l.renewed.items) (drop l.place l.contexts.items) ≡ l.initial.changes.items ++ answered_changes l.records l.initial.renewed.items l.initial.contexts.items;
  renewed_len : vec_len l.renewed ≡ length l.records;
  contexts_len : length l.records ≤ vec_len l.contexts;
  room : vec_len l.changes ≤ vec_len l.initial.changes + l.place;
  capacity : vec_capacity l.changes ≡ vec_capacity l.initial.changes;
}
