use mathlib.Core.Path.{◌≡◌}
use mathlib.Core.Bool.{true}
use Rattle.base_laws.specs.Definitions.{all_below}
use Rattle.message_format.specs.Definitions.{kind_at}
use Rattle.message_contents.proofs.passes.kinds.Given as goal

abbrev pub invariant-loop-j : goal.invariant-loop-j
invariant-loop-j l = all_below l.j (kind_at l.form l.c.body) ≡ true
