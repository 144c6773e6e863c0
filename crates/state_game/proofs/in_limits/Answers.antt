-- `state_game::in_limits` meets its contract. Assumes nothing.
use Prim.Native.Nat.{ℕ}
use mathlib.Core.Path.{ap, ◌∙◌}
use native.Mathlib.Omega.{arith}
use Rattle.base_laws.specs.Definitions.{within}
use Rattle.state_game.specs.Steps.{limits_passed, limits_left}
use Rattle.state_game.proofs.in_limits.Goals as goal

pub returns-then-rounds-gt3 : goal.returns-then-rounds-gt3
returns-then-rounds-gt3 c =
    let a = c.args in
    limits_passed a.settings.now a.held a.rounds (omega (arith, c.if-rounds-gt3.true))

pub returns : goal.returns
returns c =
    let a = c.args in
    c.within.ensures
    ∙ ap (λ (n : ℕ). within n a.held) (c.wide.ensures ∙ c.nodes.ensures)
    ∙ limits_left a.settings.now a.held a.rounds (omega (arith, c.if-rounds-gt3.false))
