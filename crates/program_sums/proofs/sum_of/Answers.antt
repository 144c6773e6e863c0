-- `program_sums::sum_of` meets its contract. The loop's invariant: the sum so far and that of the bytes that are left are the sum of all. Assumes
-- nothing.
use mathlib.Core.Path.{ap, ◌∙◌}
use native.Mathlib.Omega.{arith}
use lib.ListN.{length}
use lib.Seq.{take-length}
use Rattle.std.proofs.lemmas.List.{nil_from_length}
use Rattle.std.specs.Slice.Iter.{chunks_rest}
use Rattle.program_sums.specs.Definitions.{sum_of}
use Rattle.program_sums.specs.Sums.{sum_append, sum_bound, sum_none}
use Rattle.program_sums.proofs.sum_of.Goals as goal

-- no more is added than all bytes are together
pub overflow_add-sum : goal.overflow_add-sum
overflow_add-sum c =
    let bytes = c.args.bytes.now in
    let few = c.in-Some.few.now in
    let rest = chunks_rest c.next.new.self in
    omega (arith, c.loop-few.invariant.1, ap sum_of c.in-Some.ensures.steps.1.0, sum_append few rest, c.sum_of_few.ensures, c.from-sum.ensures, sum_bound bytes (length bytes) (λ k. omega (arith, c.type_inv.bytes k)), ap sum_of (take-length bytes), c.requires)

pub loop-few-preserved : goal.loop-few-preserved
loop-few-preserved c =
    let few = c.in-Some.few.now in
    let rest = chunks_rest c.next.new.self in
    let steps = c.in-Some.ensures.steps in (
      steps.0 ∙ c.loop-few.invariant.0,
      omega (arith, c.loop-few.invariant.1, ap sum_of steps.1.0, sum_append few rest, c.sum_of_few.ensures, c.from-sum.ensures),
    )

pub returns : goal.returns
returns c = omega (arith, c.loop-few.invariant.1, ap sum_of (nil_from_length _ c.in-None.ensures.steps.1.0), sum_none)
