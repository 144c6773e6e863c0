-- `mondays_moves::put_kept` meets its contract. Assumes nothing.
use mathlib.Core.Path.{refl, sym}
use Rattle.program_text.specs.Puts.{puts_as}
use Rattle.mondays_moves.specs.Walking.{take_front}
use Rattle.mondays_moves.proofs.put_kept.Goals as goal

pub returns : goal.returns
returns c = puts_as (sym (take_front c.args.count c.min-end.result c.args.kept.now _ refl c.min-end.ensures)) c.put_text.ensures
