use Prim.Native.Nat.{◌≤◌, ◌-◌}
use mathlib.Core.Path.{◌≡◌}
use lib.ListN.{length, take, drop}
use Rattle.base_lent.specs.Definitions.{words_in}
use Rattle.program_blocks.specs.Definitions.{bytes_laid}
use Rattle.program_run.specs.Definitions.{Feeds}
use Rattle.program_run.proofs.Run.feed.Given as goal

abbrev pub invariant-loop-i : goal.invariant-loop-i
invariant-loop-i l = (l.i ≤ length l.fed) × (Feeds l.initial.run (words_in l.initial.desk) l.initial.bytes (take l.i l.fed) l.run (words_in l.desk) l.bytes × ((length l.desk ≡ length l.initial.desk) × (bytes_laid l.initial.run.pending l.initial.bytes l.fed ≡ bytes_laid l.run.pending l.bytes (drop l.i l.fed))))

abbrev pub decreases-loop-i : goal.decreases-loop-i
decreases-loop-i l = length l.fed - l.i
