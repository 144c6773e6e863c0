-- The loop's invariant: every shard below i fits, and the mask has all owners. Assumes nothing.
use mathlib.Core.Path.{sym, ◌∙◌}
use mathlib.Core.Bool.{true}
use native.Mathlib.Omega.{arith}
use Rattle.base_laws.specs.Below.{all_none}
use Rattle.base_laws.proofs.Below.{all_more, all_fails}
use Rattle.base_laws.specs.Loops.{all_done}
use Rattle.search_judge.proofs.filled.Goals as goal

pub loop-i-init : goal.loop-i-init
loop-i-init c = (c.owners-used.ensures, all_none _)

pub filled_at-requires : goal.filled_at-requires
filled_at-requires c = record { i_bound = c.loop-i-test.true; owners_held = c.loop-i.invariant.0 }

pub returns-then-not-filled_at : goal.returns-then-not-filled_at
returns-then-not-filled_at c =
    sym
    (all_fails 16 _ c.loop-i.i (omega arith)
    (sym c.filled_at.ensures ∙ c.if-not-filled_at.true))

pub loop-i-preserved : goal.loop-i-preserved
loop-i-preserved c = (
  c.loop-i.invariant.0,
  all_more _ _ c.loop-i.invariant.1
      (sym c.filled_at.ensures ∙ c.if-not-filled_at.false),
)

pub returns : goal.returns
returns c = sym (all_done c.loop-i.auto.i-end c.loop-i-test.false true _ c.loop-i.invariant.1)
