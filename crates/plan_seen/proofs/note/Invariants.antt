use Prim.Native.Nat.{ℕ}
use mathlib.Core.Path.{◌≡◌}
use mathlib.Core.List.{List}
use lib.ListN.{length}
use Rattle.settings_values.specs.Definitions.{shards}
use Rattle.report_views.specs.declared.Layout.{Layout}
use Rattle.report_views.specs.declared.Termination.{Termination}
use Rattle.report_walk.specs.Seen.{PositionRecords}
use Rattle.plan_seen.specs.Nodes.{RenewedBelow, EndsTold}
use Rattle.plan_seen.proofs.note.Given as goal

abbrev pub invariant-loop-s : goal.invariant-loop-s
invariant-loop-s l = (length l.holders ≡ 16) × (length l.tops ≡ 16) × ((σ : List ℕ) (v : Layout) (t : Termination) (d : List ℕ) → EndsTold σ v t d l.turn.node.0 l.b l.turn.last l.ends → l.masks ≡ v.masks → l.turn.made ≡ t.made
    → PositionRecords t.positions (shards σ) l.positions → l.count ≡ shards σ → RenewedBelow v t d l.turn.node.0 l.s l.initial.holders l.initial.tops l.holders l.tops)
