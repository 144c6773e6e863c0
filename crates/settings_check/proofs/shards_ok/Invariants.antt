use mathlib.Core.Path.{◌≡◌}
use mathlib.Core.Bool.{true}
use Rattle.base_laws.specs.Definitions.{all_below}
use Rattle.settings_values.specs.Definitions.{shard_ok}
use Rattle.settings_check.proofs.shards_ok.Given as goal

abbrev pub invariant-loop-s : goal.invariant-loop-s
invariant-loop-s l = all_below l.s (shard_ok l.settings) ≡ true
