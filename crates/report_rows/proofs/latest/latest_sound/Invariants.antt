use mathlib.Core.Bool.{true}
use mathlib.Core.Path.{◌≡◌}
use Rattle.base_laws.specs.Definitions.{all_below}
use Rattle.report_rows.specs.Laws.{recalled_at}
use Rattle.report_rows.proofs.latest.latest_sound.Given as goal

abbrev pub invariant-loop-n : goal.invariant-loop-n
invariant-loop-n l = all_below l.n (recalled_at l.settings l.number.0 l.held l.views l.remembered) ≡ true
