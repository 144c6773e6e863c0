-- `program_run::print_decision` meets its contract: what decide hands back is printed. Assumes nothing.
use native.Mathlib.Omega.{arith}
use Rattle.program_run.specs.Steps.{planned_settings, writes_decision}
use Rattle.program_run.proofs.print_decision.Goals as goal

pub slice_bounds-decide-end : goal.slice_bounds-decide-end
slice_bounds-decide-end c = omega (arith, c.requires.1.0)

pub slice_bounds-decision_lines-end : goal.slice_bounds-decision_lines-end
slice_bounds-decision_lines-end c = omega (arith, c.requires.1.0)

pub decision_lines-requires : goal.decision_lines-requires
decision_lines-requires c = λ e. planned_settings _ _ _ _ c.decide-decided.ensures e

pub returns : goal.returns
returns c = writes_decision c.args.run _ _ _ _ c.decide-decided.result c.requires.0 c.decide-decided.ensures c.decision_lines.ensures
