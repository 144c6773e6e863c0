-- Never both sides can force the win.
use Prim.Native.Nat.{ℕ}
use Rattle.game_rules.specs.Definitions.{CrewWins, OutageWins}
use Rattle.game_rules.specs.Game.{rules_clash}

module _ (n : ℕ) (ok : ℕ → Type 0) where
  -- never both sides
  pub not_both : (k h o : ℕ) → CrewWins n ok k h → OutageWins n ok k h o → ⊥
  not_both k h o c w = (rules_clash n ok) k h c.rule w.rule c.holds w.beats
