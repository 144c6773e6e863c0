use Rattle.std.proofs.Common.{◌≡◌, replicate}
use Rattle.base_laws.specs.Tables.{filled}
use Rattle.report_walk.specs.Pairs.{pair_of}
use Rattle.report_walk.proofs.pairs.Given as goal

abbrev pub invariant-loop-i : goal.invariant-loop-i
invariant-loop-i l = l.list ≡ filled l.i (pair_of l.words) (replicate 256 0)
