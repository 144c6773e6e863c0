-- `mondays_moves::ended` meets its contract, case by case. Assumes nothing.
use Rattle.mondays_moves.specs.Walking.{ended_first, ended_cut, ended_whole}
use Rattle.mondays_moves.proofs.ended.Goals as goal

pub returns-then-refusal-ne0 : goal.returns-then-refusal-ne0
returns-then-refusal-ne0 c = ended_first c.args.refusal c.args.len c.if-refusal-ne0.true

pub returns-then-len-ne0 : goal.returns-then-len-ne0
returns-then-len-ne0 c = ended_cut c.args.refusal c.args.len c.if-refusal-ne0.false c.if-len-ne0.true

pub returns : goal.returns
returns c = ended_whole c.args.refusal c.args.len c.if-refusal-ne0.false c.if-len-ne0.false
