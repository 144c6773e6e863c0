-- `place_rounds::repriced` meets its contract: test by test. Assumes nothing.
use Rattle.place_rounds.specs.Tables.{repriced_stay, repriced_shut, repriced_move}
use Rattle.place_rounds.proofs.repriced.Goals as goal

pub returns-then-cost-eq0 : goal.returns-then-cost-eq0
returns-then-cost-eq0 c = repriced_stay _ _ c.if-cost-eq0.true

pub returns-then-cost-eq255 : goal.returns-then-cost-eq255
returns-then-cost-eq255 c = repriced_shut _ _ c.if-cost-eq0.false c.if-cost-eq255.true

pub returns : goal.returns
returns c = repriced_move _ _ c.if-cost-eq0.false c.if-cost-eq255.false
