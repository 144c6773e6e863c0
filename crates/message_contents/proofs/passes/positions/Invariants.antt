use mathlib.Core.Path.{◌≡◌}
use mathlib.Core.Bool.{true}
use Rattle.base_laws.specs.Definitions.{all_below}
use Rattle.message_format.specs.Definitions.{row11_at}
use Rattle.message_contents.proofs.passes.positions.Given as goal

abbrev pub invariant-loop-j : goal.invariant-loop-j
invariant-loop-j l = all_below l.j (row11_at l.form l.c.view.0 l.c.members l.c.body) ≡ true
