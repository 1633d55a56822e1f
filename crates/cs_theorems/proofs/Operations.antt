-- The numbers of operations.
use Rattle.std.proofs.Common.{◌≡◌, refl, ap, ℕ, suc, ◌+◌, ◌*◌, ◌≤◌, ◌&&◌, true, List, [], ◌∷◌, length, reverse, Option, Some, None, nat_le, arith}
use Rattle.std.proofs.lemmas.Bool.{and_parts}
use Rattle.std.proofs.lemmas.Bool.Decides.{nat_tests}
use Rattle.cs_geom.specs.declared.places.Piece.{Piece}
use Rattle.cs_geom.specs.declared.places.TheConstants.{OBJECT_SIZE}
use Rattle.cs_geom.specs.Cuts.{pieces_of}
use Rattle.cs_geom.proofs.Cutting.{length-pieces_of}
use Rattle.cs_parts.specs.declared.references.Live.{Live}
use Rattle.cs_snapctx.specs.Context.{Context}
use Rattle.cs_laws.specs.declared.events.Event.{Event}
use Rattle.cs_laws.specs.declared.events.Event.TheVariants as e
use Rattle.cs_laws.specs.declared.answers.Answer.{Answer}
use Rattle.cs_laws.specs.declared.answers.Answer.TheVariants as a
use Rattle.cs_laws.specs.declared.answers.Entry.{Entry}
use Rattle.cs_laws.specs.declared.objects.ObjOp.{ObjOp}
use Rattle.cs_laws.specs.Fits.{fits, is_write, most_written, greatest_end}
use Rattle.cs_laws.specs.History.{live}
use Rattle.cs_laws.specs.Journal.{entry}
use Rattle.cs_laws.specs.Operations.{begun_under, operations, written_on, brought, drawn_then, operations_drawn, applied}
use Rattle.cs_laws.specs.References.{named}
use Rattle.cs_laws.specs.Runs.{IsRun}
use Rattle.cs_theorems.proofs.Listed.{Each, each_nil, each_cons, each_append, each_reverse}
use Rattle.cs_theorems.proofs.Runs.{of_run}

-- Numbers are drawn in order

abbrev UpTo : ℕ → ObjOp → Type 0
UpTo n o = o.tid ≤ n

operations_up_to : (n f off : ℕ) (bytes : List ℕ) (ctx : Context) (ps : List Piece) (k : ℕ) → n + length ps ≤ k
    → Each (UpTo k) (operations (n + 1) f off bytes ctx ps)
operations_up_to n f off bytes ctx [] k few = each_nil (UpTo k)
operations_up_to n f off bytes ctx (p ∷ ps) k few =
    each_cons (UpTo k) _ _ (omega (arith, few)) (operations_up_to (n + 1) f off bytes ctx ps k (omega (arith, few)))

pub length_operations : (tid f off : ℕ) (bytes : List ℕ) (ctx : Context) (ps : List Piece) → length (operations tid f off bytes ctx ps) ≡ length ps
length_operations tid f off bytes ctx [] = refl
length_operations tid f off bytes ctx (p ∷ ps) = ap suc (length_operations (tid + 1) f off bytes ctx ps)

written_up_to : (found : Option Live) (under : Live → Context) (n off : ℕ) (bytes : List ℕ)
    → Each (UpTo (n + length (written_on found under n off bytes))) (written_on found under n off bytes)
written_up_to None under n off bytes = each_nil (UpTo (n + 0))
written_up_to (Some r) under n off bytes =
    operations_up_to n r.file off bytes (under r) (pieces_of OBJECT_SIZE off (length bytes)) _
    (omega (arith, length_operations (n + 1) r.file off bytes (under r) (pieces_of OBJECT_SIZE off (length bytes))))

brought_up_to : (x : Event) (y : Answer) (h : List Entry) (n : ℕ) → Each (UpTo (n + length (brought x y h n))) (brought x y h n)
brought_up_to (e.Write c name off bytes) a.Wrote h n = written_up_to (named c name (live h)) (λ r. begun_under h r.caller r.number) n off bytes
brought_up_to _ _ h n = each_nil (UpTo (n + 0))

-- an entry draws the operations that it brings
drawn_is : (x : Event) (y : Answer) (h : List Entry) (n : ℕ) → drawn_then x y h n ≡ n + length (brought x y h n)
drawn_is (e.Write c name off bytes) a.Wrote h n = refl
drawn_is _ _ h n = omega arith

-- no operation that was applied has a number above those that were drawn
pub applied_up_to : (h : List Entry) → Each (λ o. o.tid ≤ operations_drawn h) (applied h)
applied_up_to [] = each_nil (UpTo 0)
applied_up_to (x ∷ h) =
    let n : ℕ = operations_drawn h in
    let count = drawn_is x.event x.answer h n in
    let new : Each (UpTo (drawn_then x.event x.answer h n)) (brought x.event x.answer h n) = rw count (brought_up_to x.event x.answer h n) in
    each_append (UpTo (operations_drawn (x ∷ h))) (reverse (brought x.event x.answer h n)) (applied h)
    (each_reverse (UpTo (operations_drawn (x ∷ h))) (brought x.event x.answer h n) new)
    (λ o m. let low : o.tid ≤ n = applied_up_to h o m in omega (arith, low, count))

-- An event draws two at the most

written_few : (found : Option Live) (under : Live → Context) (n off : ℕ) (bytes : List ℕ) → is_write off bytes ≡ true
    → length (written_on found under n off bytes) ≤ 2
written_few None under n off bytes fit = omega arith
written_few (Some r) under n off bytes fit =
    let parts = and_parts (nat_le 1 (length bytes) && nat_le (length bytes) most_written) (nat_le (off + length bytes) greatest_end) fit in
    let small = and_parts (nat_le 1 (length bytes)) (nat_le (length bytes) most_written) parts.0 in
    let few : length bytes ≤ OBJECT_SIZE = grind (arith, nat_tests, small.1) in
    omega (arith, length_operations (n + 1) r.file off bytes (under r) (pieces_of OBJECT_SIZE off (length bytes)), length-pieces_of OBJECT_SIZE off (length bytes) (omega arith) few)

pub brought_few : (x : Event) (y : Answer) (h : List Entry) (n : ℕ) → fits x ≡ true → length (brought x y h n) ≤ 2
brought_few (e.Write c name off bytes) a.Wrote h n fit = written_few (named c name (live h)) (λ r. begun_under h r.caller r.number) n off bytes fit
brought_few _ _ h n fit = omega arith

abbrev FewDrawn : List Entry → Type 0
FewDrawn h = operations_drawn h ≤ 2 * length h

few_step : (p : ℕ) (h : List Entry) (x : Event) → fits x ≡ true → FewDrawn h → FewDrawn (entry p h x ∷ h)
few_step p h x fit i = omega (arith, i, drawn_is x (entry p h x).answer h (operations_drawn h), brought_few x (entry p h x).answer h (operations_drawn h) fit)

pub few_drawn : (p : ℕ) (h : List Entry) → IsRun p h → operations_drawn h ≤ 2 * length h
few_drawn p h run = of_run p FewDrawn (omega arith) (λ g x can before i. few_step p g x can.spelled i) h run
