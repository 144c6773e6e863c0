-- `place_groups::check::group_valid` meets its contract. The invariant: every shard below s passes. Assumes nothing.
use Prim.Native.Nat.{ℕ}
use mathlib.Core.Bool.{Bool}
use mathlib.Core.List.{List}
use mathlib.Core.Path.{sym, ◌∙◌}
use native.Mathlib.Omega.{arith}
use lib.ListN.{get_or}
use Rattle.base_laws.specs.Below.{all_none}
use Rattle.base_laws.proofs.Below.{all_more, all_fails, all_fewer}
use Rattle.settings_values.specs.Definitions.{shards}
use Rattle.place_groups.specs.Definitions.{group_valid, group_valid_at}
use Rattle.place_groups.proofs.check.group_valid.Goals as goal

abbrev ok : List ℕ → ℕ → List ℕ → ℕ → ℕ → Bool
ok σ held masks g = group_valid_at σ held (λ i. get_or masks i 0) g

pub loop-s-init : goal.loop-s-init
loop-s-init c = let a = c.args in all_none (ok a.settings.now a.held a.masks.now a.g)

pub returns-then-not-group_valid_at : goal.returns-then-not-group_valid_at
unfolding group_valid
returns-then-not-group_valid_at c = let a = c.args in
    let k = c.group_valid_at in
    sym (all_fails (shards a.settings.now) (ok a.settings.now a.held a.masks.now a.g) c.loop-s.s
    (omega (arith, c.shards-count.ensures))
    (sym k.ensures ∙ c.if-not-group_valid_at.true))

pub loop-s-preserved : goal.loop-s-preserved
loop-s-preserved c = let a = c.args in
    let k = c.group_valid_at in
    let l = c.loop-s in all_more l.s (ok a.settings.now a.held a.masks.now a.g) l.invariant (sym k.ensures ∙ c.if-not-group_valid_at.false)

pub returns : goal.returns
unfolding group_valid
returns c = let a = c.args in
    let l = c.loop-s in
    sym (all_fewer (shards a.settings.now) l.s (ok a.settings.now a.held a.masks.now a.g) (omega (arith, c.shards-count.ensures)) l.invariant)
