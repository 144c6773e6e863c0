-- `program_lines::put_members` meets its contract. The loop's invariant: the nodes below n are put. Assumes nothing.
use Prim.Native.Nat.{ℕ}
use mathlib.Core.Path.{ap}
use native.Mathlib.Omega.{arith}
use Rattle.program_text.specs.Puts.{puts_as, puts_none, then-puts}
use Rattle.program_lines.specs.Definitions.{members_below}
use Rattle.program_lines.specs.Members.{members_step}
use Rattle.program_lines.proofs.put_members.Goals as goal

pub loop-n-init : goal.loop-n-init
unfolding members_below
loop-n-init c = puts_none _ _ c.requires

pub loop-n-preserved : goal.loop-n-preserved
loop-n-preserved c = puts_as (members_step _ _) (then-puts c.requires c.loop-n.invariant c.put_member-next.ensures)

pub returns : goal.returns
returns c = puts_as (ap (λ (k : ℕ). members_below k c.args.mask) (omega arith)) c.loop-n.invariant
