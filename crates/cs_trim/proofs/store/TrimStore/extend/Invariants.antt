use Rattle.std.proofs.Common.{◌≡◌, ℕ, ◌≤◌, length}
use Rattle.cs_trim.specs.Held.{object_at}
use Rattle.cs_trim.proofs.store.TrimStore.extend.Given as goal

abbrev pub invariant-loop : goal.invariant-loop
invariant-loop l = record {
  few : length l.self-inside.objects.items ≤ 64;
  count : length l.self-inside.objects.items ≡ l.counter;
  numbers : l.self-inside.numbers ≡ l.fn.self.numbers;
  same : (b : ℕ) → object_at l.self-inside.objects.items b ≡ object_at l.fn.self.objects b;
}
