use Prim.Native.Nat.{◌≤◌}
use mathlib.Core.Path.{◌≡◌}
use Rattle.base_lent.specs.Definitions.{words_in}
use Rattle.settings_values.specs.Definitions.{shards}
use Rattle.plan_order.specs.CutTables.{cuts_below}
use Rattle.plan_order.proofs.cuts_of.Given as goal

abbrev pub invariant-loop-s : goal.invariant-loop-s
invariant-loop-s l = (l.count ≡ shards l.settings) × (l.count ≤ 16) × (l.cuts ≡ cuts_below l.plan (words_in l.desk) l.node.0 l.s)
