-- `message_rows::shards::row10` meets its contract. The invariant: row 10 finds nothing wrong at the shards below s.
use mathlib.Core.Path.{sym, ◌∙◌}
use mathlib.Core.Bool.{Bool}
use mathlib.Core.List.{List}
use Prim.Native.Nat.{ℕ}
use native.Mathlib.Omega.{arith}
use lib.ListN.{get_or}
use Rattle.base_laws.specs.Below.{all_none}
use Rattle.base_laws.proofs.Below.{all_more, all_fails, all_fewer}
use Rattle.settings_values.specs.Definitions.{shards}
use Rattle.message_format.specs.Definitions.{row10_at, row10}
use Rattle.message_rows.proofs.shards.row10.Goals as goal

abbrev ok : List ℕ → ℕ → List ℕ → ℕ → Bool
ok σ members m = row10_at σ members (λ i. get_or m i 0)

pub loop-s-init : goal.loop-s-init
loop-s-init c = let a = c.args in all_none (ok a.settings.now a.members a.masks.now)

pub returns-then-not-row10_at : goal.returns-then-not-row10_at
unfolding row10
returns-then-not-row10_at c = let a = c.args in
    let k = c.row10_at in
    sym (all_fails (shards a.settings.now) (ok a.settings.now a.members a.masks.now) c.loop-s.s (omega arith)
    (sym k.ensures ∙ c.if-not-row10_at.true))

pub loop-s-preserved : goal.loop-s-preserved
loop-s-preserved c = let a = c.args in
    let k = c.row10_at in
    let l = c.loop-s in all_more l.s (ok a.settings.now a.members a.masks.now) l.invariant (sym k.ensures ∙ c.if-not-row10_at.false)

pub returns : goal.returns
unfolding row10
returns c = let a = c.args in
    let l = c.loop-s in
    sym (all_fewer (shards a.settings.now) l.s (ok a.settings.now a.members a.masks.now) (omega arith) l.invariant)
