-- `report_rows::latest::latest_sound` meets its contract. The invariant: what is remembered of the nodes below n is sound. Assumes nothing.
use mathlib.Core.Path.{sym, ◌∙◌}
use native.Mathlib.Omega.{arith}
use Rattle.base_laws.specs.Below.{all_none}
use Rattle.base_laws.proofs.Below.{all_more, all_fails, all_fewer}
use Rattle.report_rows.proofs.latest.latest_sound.Goals as goal

pub loop-n-init : goal.loop-n-init
loop-n-init c = all_none _

pub returns-then-not-recalled : goal.returns-then-not-recalled
returns-then-not-recalled c =
    let k = c.recalled in
    sym (all_fails 32 _ c.loop-n.n (omega arith) (sym k.ensures ∙ c.if-not-recalled.true))

pub loop-n-preserved : goal.loop-n-preserved
loop-n-preserved c =
    let k = c.recalled in all_more _ _ c.loop-n.invariant (sym k.ensures ∙ c.if-not-recalled.false)

pub returns : goal.returns
returns c =
    sym (all_fewer 32 c.loop-n.n _ (omega arith) c.loop-n.invariant)
