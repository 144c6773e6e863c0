-- Below the last node the next pair is of the same shard, and after it of the next. Assumes nothing.
use mathlib.Core.Path.{sym, ◌∙◌}
use Prim.Native.Nat.{◌+◌, ◌%◌}
use native.Mathlib.Omega.{arith}
use mathlib.Core.Logic.{⊎_elim}
use borrow.Author.Tests.{eq-eqb, ne_eqb, lt-ltb, le-ltb}
use Rattle.base_laws.specs.Bools.{lt_or_le}
use Rattle.search_laws.specs.Order.{shard_end}
use Rattle.search_total.proofs.same_shard.Goals as goal

pub returns : goal.returns
returns c =
    let t = c.args.t in
    ⊎_elim
    (λ h. lt-ltb (t % 32) 31 h ∙ sym (eq-eqb (shard_end (t + 1)) (shard_end t) (omega arith)))
    (λ h. le-ltb (t % 32) 31 h ∙ sym (ne_eqb (shard_end (t + 1)) (shard_end t) (λ e. omega arith)))
    (lt_or_le (t % 32) 31)
