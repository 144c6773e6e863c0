use Prim.Native.Nat.{◌≤◌, ◌<◌, ◌-◌}
use mathlib.Core.Bool.{true}
use mathlib.Core.Path.{◌≡◌}
use Rattle.report_views.specs.Definitions.{is_run, cut_from}
use Rattle.report_cuts.specs.Walks.{cut_after}
use Rattle.report_cuts.proofs.cut.Given as goal

abbrev pub invariant-loop-i : goal.invariant-loop-i
invariant-loop-i l = (l.i ≤ l.len) × (l.j ≤ l.hlen) × (l.i < l.len → is_run l.body l.s.0 l.i ≡ true)
    × (l.j < l.hlen → is_run l.holder l.s.0 l.j ≡ true) × (cut_from l.body l.len l.holder l.hlen l.s.0 l.t ≡ cut_after l.body l.len l.holder l.hlen l.s.0 l.t l.a l.i l.j)

abbrev pub decreases-loop-i : goal.decreases-loop-i
decreases-loop-i l = l.len - l.i
