-- `c_planner::restart_game` is one call with that call's promise. Assumes nothing.
use Rattle.c_planner.proofs.restart_game.Goals as goal

pub returns : goal.returns
returns c = c.game.ensures
