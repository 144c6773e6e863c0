-- The recursion falls on the pairs that are left, and on whether the list's end was tried. Assumes nothing.
use Prim.Native.Nat.{◌-◌, ◌+◌, ◌*◌}
use mathlib.Core.Bool.{cond}
use Rattle.search_total.proofs.+seek.Given as goal

abbrev pub decreases-seek : goal.decreases-seek
decreases-seek l = 2 * (512 - l.t) + cond l.tried 0 1
