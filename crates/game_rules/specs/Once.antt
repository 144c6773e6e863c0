-- The game has one answer: never both sides, and one lowest first move. So a rule of play exists exactly for the side that is answered.
use Rattle.std.specs.Prelude.{ℕ, ◌≡◌}
use Rattle.game_rules.specs.declared.Lead.{Lead}
use Rattle.game_rules.specs.declared.Winner.{Winner}
use Rattle.game_rules.specs.declared.Winner.TheVariants.{Crew, Outage}
use Rattle.game_rules.specs.Definitions.{CrewWins, OutageWins}

module _ (n : ℕ) (ok : ℕ → Type 0) (k h : ℕ) where
  -- where the crew is answered the outage has no rule, whatever its first move, and where the outage is answered the crew has none
  pub record NoOther (w : Winner) : Type 0 where
    pub outage_none : w ≡ Crew → (o : ℕ) → OutageWins n ok k h o → ⊥
    pub crew_none : (f : Lead) → w ≡ Outage f → CrewWins n ok k h → ⊥
