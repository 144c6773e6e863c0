-- The game over a state: when it is refused, and what it hands back.
use Rattle.std.specs.Prelude.{ℕ, Bool, true, false, ◌&&◌, List, ◌≡◌, leb}
use Rattle.base_laws.specs.Definitions.{within}
use Rattle.base_ids.specs.declared.Refusal.{Refusal}
use Rattle.base_ids.specs.Definitions.{accepted}
use Rattle.settings_values.specs.Definitions.{nodes}
use Rattle.plan_masks.specs.Definitions.{Restartable}
use Rattle.game_rules.specs.declared.Winner.{Winner}
use Rattle.game_rules.specs.Definitions.{WonBy}
use Rattle.state_planner.specs.declared.State.{State}
use Rattle.state_readiness.specs.Definitions.{ready_refusal}
use Rattle.state_game.specs.declared.Played.{Played}
use Rattle.state_game.specs.declared.Played.TheVariants.{Won, Unplayed}

-- of row 22: at most three rounds, and no held node from the number of nodes up
unfoldable pub game_limits : List ℕ → ℕ → ℕ → Bool
game_limits σ held rounds = leb rounds 3 && within (nodes σ) held

-- rows 1 to 4 as decide's, then 22 and 23
unfoldable pub game_refusal : List ℕ → State → List ℕ → ℕ → ℕ → Refusal
game_refusal σ x d held rounds = ready_refusal (game_limits σ held rounds) σ x d

-- with h held in place of the state's nodes a restart exists
abbrev pub restarts_with : List ℕ → State → List ℕ → ℕ → Type 0
restarts_with σ x d h = Restartable σ x.kept x.termination h d

-- a refusal, or the side that can force the win
pub record Plays (σ : List ℕ) (x : State) (d : List ℕ) (held rounds : ℕ) (r : Played) : Type 0 where
  pub refused : accepted (game_refusal σ x d held rounds) ≡ false → r ≡ Unplayed (game_refusal σ x d held rounds)
  pub won : accepted (game_refusal σ x d held rounds) ≡ true
      → (w : Winner) × (r ≡ Won w) × WonBy (nodes σ) (restarts_with σ x d) rounds held w
