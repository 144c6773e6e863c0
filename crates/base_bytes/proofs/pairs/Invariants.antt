use mathlib.Core.Path.{◌≡◌}
use Rattle.base_laws.specs.Tables.{filled}
use Rattle.base_bytes.specs.Words.{pair_at}
use Rattle.base_bytes.proofs.pairs.Given as goal

abbrev pub invariant-loop-i : goal.invariant-loop-i
invariant-loop-i l = l.out ≡ filled l.i (pair_at l.bytes) l.initial.out
