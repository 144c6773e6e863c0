use mathlib.Core.Path.{◌≡◌}
use lib.ListN.{replicate}
use Rattle.base_laws.specs.Tables.{filled}
use Rattle.report_kept.specs.Words.{mask_in}
use Rattle.report_kept.proofs.masks_in.Given as goal

abbrev pub invariant-loop-s : goal.invariant-loop-s
invariant-loop-s l = l.masks ≡ filled l.s (mask_in l.body l.count) (replicate 16 0)
