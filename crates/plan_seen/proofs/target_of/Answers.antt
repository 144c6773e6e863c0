-- `plan_seen::target_of` meets its contract.
use mathlib.Core.Path.{◌∙◌}
use Rattle.plan_seen.specs.Fold.{from_kept, from_top}
use Rattle.plan_seen.proofs.target_of.Goals as goal

pub returns-then-made : goal.returns-then-made
returns-then-made c = let a = c.args in
    from_kept a.made a.kept a.top c.if-made.true

pub returns : goal.returns
returns c = let a = c.args in
    c.position_of.ensures ∙ from_top a.made a.kept a.top c.if-made.false
