use mathlib.Core.Bool.{true}
use mathlib.Core.Path.{◌≡◌}
use Rattle.base_laws.specs.Definitions.{all_below}
use Rattle.state_rows.specs.Ready.{position_tidy}
use Rattle.state_rows.proofs.sound_parts.positions_tidy.Given as goal

abbrev pub invariant-loop-s : goal.invariant-loop-s
invariant-loop-s l = all_below l.s (position_tidy l.settings l.t) ≡ true
