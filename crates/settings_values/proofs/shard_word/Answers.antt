-- `settings_values::shard_word` meets its contract: the index is that of the definition, by what `wide` ensures.
use mathlib.Core.Path.{ap}
use Prim.Native.Nat.{ℕ, ◌+◌}
use lib.ListN.{get_or}
use Rattle.settings_values.proofs.shard_word.Goals as goal

pub returns : goal.returns
returns c = let a = c.args in
    ap (λ (n : ℕ). get_or a.settings.now (4 + n + a.shard.0) 0) c.wide-n.ensures
