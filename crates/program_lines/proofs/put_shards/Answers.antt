-- `program_lines::put_shards` meets its contract. The loop's invariant: the lines of the shards below s are put. Assumes nothing.
use mathlib.Core.Path.{ap}
use native.Mathlib.Omega.{arith}
use Rattle.program_text.specs.Puts.{puts_as, puts_none, then-puts}
use Rattle.program_lines.specs.Definitions.{shard_lines}
use Rattle.program_lines.specs.Lines.{shards_step}
use Rattle.program_lines.proofs.put_shards.Goals as goal

pub loop-s-init : goal.loop-s-init
unfolding shard_lines
loop-s-init c = puts_none _ _ c.requires.at_in_bounds

pub loop-s-preserved : goal.loop-s-preserved
loop-s-preserved c = puts_as (shards_step _ _) (then-puts c.requires.at_in_bounds c.loop-s.invariant c.put_shard-next.ensures)

pub returns : goal.returns
returns c = puts_as (ap (shard_lines c.args.plan) (omega arith)) c.loop-s.invariant
