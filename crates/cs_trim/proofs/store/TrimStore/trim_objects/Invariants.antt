use Rattle.std.proofs.Common.{◌≡◌, ℕ, ◌*◌, ◌<◌, ◌≤◌, length}
use Rattle.cs_trim.specs.Held.{dropped_below, object_at, trimmed_object}
use Rattle.cs_trim.proofs.store.TrimStore.trim_objects.Given as goal

abbrev pub invariant-loop-index : goal.invariant-loop-index
invariant-loop-index l = record {
  numbers : l.self-inside.numbers ≡ l.fn.self.numbers;
  few : length l.self-inside.objects.items ≡ length l.fn.self.objects;
  room : length l.fn.self.objects ≤ 64;
  trimmed : (b : ℕ) → b < l.index → object_at l.self-inside.objects.items b ≡ trimmed_object l.fn.self.numbers (object_at l.fn.self.objects b);
  rest : (b : ℕ) → l.index ≤ b → object_at l.self-inside.objects.items b ≡ object_at l.fn.self.objects b;
  count : l.count ≡ dropped_below l.fn.self.numbers l.fn.self.objects l.index;
  small : l.count ≤ l.index * 99999;
}
