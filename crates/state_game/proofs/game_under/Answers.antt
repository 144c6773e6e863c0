-- `state_game::game_under` meets its contract: what readiness refuses, or who wins by its rows. Assumes nothing.
use Prim.Native.Nat.{ℕ, ◌^◌, ◌<◌, ◌≤◌}
use mathlib.Core.Path.{ap, ◌∙◌, subst⁻¹}
use Rattle.base_lent.specs.Definitions.{words_in}
use Rattle.game_rules.specs.Turns.{winner_of}
use Rattle.game_turns.specs.Table.{plan_at}
use Rattle.state_game.specs.Steps.{game_not_ready, game_few, game_rounds, game_held, game_won}
use Rattle.state_game.proofs.game_under.Goals as goal

pub returns-then-refusal-ne0 : goal.returns-then-refusal-ne0
returns-then-refusal-ne0 c =
    let a = c.args in
    let k = c.readiness_under-ready in
    let l = c.in_limits-limits in
    game_not_ready a.settings.now a.x (words_in a.desk.now) a.held a.rounds l.result l.ensures k.result k.ensures c.if-refusal-ne0.true

pub winner-requires : goal.winner-requires
winner-requires c =
    let a = c.args in
    let d = words_in a.desk.now in
    let l = c.in_limits-limits in
    let k = c.readiness_under-ready in
    let h = c.if-refusal-ne0.false in
    let n = c.wide-nodes.ensures ∙ c.nodes.ensures in
    let few = game_few a.settings.now a.x d a.held a.rounds l.result l.ensures k.result k.ensures h in
    let within = game_held a.settings.now a.x d a.held a.rounds l.result l.ensures k.result k.ensures h in
    let short = game_rounds a.settings.now a.x d a.held a.rounds l.result l.ensures k.result k.ensures h in
    record { nodes_bound = (subst⁻¹ (λ (m : ℕ). m ≤ 10) n few, subst⁻¹ (λ (m : ℕ). a.held < 2 ^ m) n within); rounds_bound = short }

pub returns : goal.returns
returns c =
    let a = c.args in
    let l = c.in_limits-limits in
    let k = c.readiness_under-ready in
    let h = c.if-refusal-ne0.false in
    let n = c.wide-nodes.ensures ∙ c.nodes.ensures in
    game_won a.settings.now a.x (words_in a.desk.now) a.held a.rounds l.result l.ensures k.result k.ensures h
    c.winner.result (c.winner.ensures ∙ ap (λ (m : ℕ). winner_of m (plan_at k.result.rows) a.rounds a.held) n)
