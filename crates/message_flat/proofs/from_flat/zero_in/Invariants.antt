use mathlib.Core.Bool.{false}
use mathlib.Core.Path.{◌≡◌}
use Rattle.base_laws.specs.Definitions.{any_below}
use Rattle.base_lent.specs.Definitions.{words_in}
use Rattle.message_flat.specs.Counted.{zero_at}
use Rattle.message_flat.proofs.from_flat.zero_in.Given as goal

abbrev pub invariant-loop-i : goal.invariant-loop-i
invariant-loop-i l = any_below l.i (zero_at (words_in l.flat) l.at) ≡ false
