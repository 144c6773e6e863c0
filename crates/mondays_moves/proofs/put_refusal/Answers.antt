-- `mondays_moves::put_refusal` meets its contract: the number's line if there is a refusal, and else nothing. Assumes nothing.
use Rattle.program_text.specs.Puts.{puts_as, puts_none}
use Rattle.mondays_moves.specs.Walking.{refusal_none, refusal_some}
use Rattle.mondays_moves.proofs.put_refusal.Goals as goal

pub returns-then-refusal-eq0 : goal.returns-then-refusal-eq0
returns-then-refusal-eq0 c = puts_as (refusal_none c.args.refusal c.if-refusal-eq0.true) (puts_none _ _ c.requires)

pub returns : goal.returns
returns c = puts_as (refusal_some c.args.refusal c.if-refusal-eq0.false) c.put_number.ensures
