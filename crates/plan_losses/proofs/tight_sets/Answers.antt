-- `plan_losses::tight_sets` meets its contract. The invariant: the sets are tight ones. Assumes nothing.
use native.Mathlib.Omega.{arith}
use Rattle.plan_losses.specs.Needs.{tight_none}
use Rattle.plan_losses.proofs.tight_sets.Goals as goal

pub loop-s-init : goal.loop-s-init
loop-s-init c = let a = c.args in tight_none a.settings.now a.held

pub tight_with-tight-requires : goal.tight_with-tight-requires
tight_with-tight-requires c = let s = c in
    record { settings = s.requires.settings; held_bound = (s.requires.held_bound, omega (arith, c.loop-s-test.true, c.shards-count.ensures)); counts_value = c.held_counts-counts.ensures; tight = c.loop-s.invariant }

pub loop-s-preserved : goal.loop-s-preserved
loop-s-preserved c = c.tight_with-tight.ensures

pub returns : goal.returns
returns c = c.loop-s.invariant
