use mathlib.Core.Path.{◌≡◌}
use lib.ListN.{replicate}
use Rattle.base_laws.specs.Tables.{filled}
use Rattle.base_lent.specs.Definitions.{words_in}
use Rattle.message_flat.specs.Counted.{body_in}
use Rattle.message_flat.proofs.from_flat.contents_from.Given as goal

abbrev pub invariant-loop-k : goal.invariant-loop-k
invariant-loop-k l = l.body ≡ filled l.k (body_in (words_in l.flat) l.n) (replicate 381 0)
