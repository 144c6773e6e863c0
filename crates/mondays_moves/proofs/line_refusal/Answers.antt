-- `mondays_moves::line_refusal` meets its contract, row by row. Assumes nothing.
use native.Mathlib.Omega.{arith}
use Rattle.mondays_moves.specs.Walking.{refused_sequence, refused_moves, refused_none}
use Rattle.mondays_moves.proofs.line_refusal.Goals as goal

pub returns-then-from-least : goal.returns-then-from-least
returns-then-from-least c = refused_sequence _ (record { number = c.args.number; moves = c.args.moves }) (omega arith)

pub returns-then-moves-gt128 : goal.returns-then-moves-gt128
returns-then-moves-gt128 c = refused_moves _ (record { number = c.args.number; moves = c.args.moves }) (omega arith) (omega arith)

pub returns : goal.returns
returns c = refused_none _ (record { number = c.args.number; moves = c.args.moves }) (omega arith) (omega arith)
