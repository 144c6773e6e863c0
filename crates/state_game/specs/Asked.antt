-- From what the game and decide promise alone: a plan after a turn is what decide would answer with the nodes then held, each remembered at its
-- report's view; there is one outcome; and no rule of play exists for the side that is not answered.
use Rattle.std.specs.Prelude.{ℕ, ◌^◌, ◌<◌, true, List, ◌≡◌}
use Rattle.std.proofs.Common.{⊎_elim, sym, ◌∙◌}
use Rattle.std.proofs.Math.Path.{ap}
use Rattle.base_laws.specs.Bools.{either}
use Rattle.base_ids.specs.Definitions.{accepted}
use Rattle.settings_values.specs.Definitions.{nodes}
use Rattle.game_rules.specs.Once.{NoOther}
use Rattle.game_rules.proofs.Once.{won_unique, no_other}
use Rattle.state_planner.specs.declared.State.{State}
use Rattle.state_planner.specs.declared.Decision.{Decision}
use Rattle.state_planner.specs.declared.Decided.{Decided}
use Rattle.state_planner.specs.Definitions.{keeping, Decides}
use Rattle.state_laws.specs.Exactly.{plans_where_possible, possible_where_planned}
use Rattle.state_readiness.specs.Answers.{as_held, ready_given, held_decided}
use Rattle.state_game.specs.declared.Played.{Played}
use Rattle.state_game.specs.declared.Played.TheVariants.{Won}
use Rattle.state_game.specs.Definitions.{game_limits, game_refusal, restarts_with, Plays}

module _ (σ : List ℕ) (x : State) (d : List ℕ) (held rounds : ℕ) where
  -- decide plans with h held exactly where a restart exists
  pub record DecidesWith (h : ℕ) (r : Decided) : Type 0 where
    pub plans : restarts_with σ x d h → r.decision ≡ Decision.Planned
    pub exists : r.decision ≡ Decision.Planned → restarts_with σ x d h

  pub turn_is_decide : accepted (game_refusal σ x d held rounds) ≡ true → (h : ℕ) → h < 2 ^ nodes σ → (r : Decided) → Decides σ (as_held σ x d h) d r
      → DecidesWith h r
  unfolding game_refusal as_held keeping
  turn_is_decide t h l r decides =
      let g = ready_given (game_limits σ held rounds) σ x d t in
      let taken = held_decided (game_limits σ held rounds) σ x d g h l in
      record {
        plans =
            λ p. ap (λ (o : Decided). o.decision)
            (plans_where_possible σ (as_held σ x d h) d r decides taken (record { quorum = p.quorum; placements = p.placements })).given;
        exists =
            λ e. let p = possible_where_planned σ (as_held σ x d h) d r decides taken e in record { quorum = p.quorum; placements = p.placements };
      }

  -- there is one outcome
  pub plays_unique : (r s : Played) → Plays σ x d held rounds r → Plays σ x d held rounds s → r ≡ s
  plays_unique r s p q =
      ⊎_elim
      (λ t.
      let a = p.won t in
      let b = q.won t in
      a.1 ∙ ap Won (won_unique (nodes σ) (restarts_with σ x d) rounds held a.0 b.0 a.2 b.2) ∙ sym b.1)
      (λ f. p.refused f ∙ sym (q.refused f)) (either (accepted (game_refusal σ x d held rounds)))

  -- the other side has no rule that wins
  pub plays_other : (r : Played) (p : Plays σ x d held rounds r) (t : accepted (game_refusal σ x d held rounds) ≡ true)
      → NoOther (nodes σ) (restarts_with σ x d) rounds held (p.won t).0
  plays_other r p t = no_other (nodes σ) (restarts_with σ x d) rounds held (p.won t).0 (p.won t).2
