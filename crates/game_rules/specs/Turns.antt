-- The two turns as tests, with the half-rounds that are left, and who wins by them. good h: with the mask h of held nodes decide would give a
-- plan.
use Rattle.std.specs.Prelude.{ℕ, zero, suc, ◌-◌, ◌*◌, Bool, true, cond, not, ◌&&◌, ◌||◌, eqb}
use Rattle.base_laws.specs.Definitions.{all_below, any_below, lowest, has, with, without}
use Rattle.game_rules.specs.declared.Winner.{Winner}
use Rattle.game_rules.specs.declared.Winner.TheVariants.{Crew, Outage}
use Rattle.game_rules.specs.Definitions.{lead_by}

-- node b is absent, and not the one just taken
abbrev pub absent : ℕ → ℕ → ℕ → Bool
absent h taken b = not (has h b) && not (eqb b taken)

module _ (n : ℕ) (good : ℕ → Bool) where
  unfoldable mutual
    -- the outage is to move: the crew can hold
    pub outage_turn : ℕ → ℕ → Bool
    outage_turn zero h = true
    outage_turn (suc k) h =
        cond (eqb h 0) (crew_turn k 0 32) (all_below n (λ o. not (has h o) || crew_turn k (without h o) o))

    -- the crew is to move, after the outage took `taken` (32: it passed): the crew can hold
    pub crew_turn : ℕ → ℕ → ℕ → Bool
    crew_turn zero h taken = true
    crew_turn (suc k) h taken =
        cond (any_below n (absent h taken))
        (any_below n (λ b. absent h taken b && (good (with h b) && outage_turn k (with h b))))
        (good h && outage_turn k h)

  -- the crew can hold by bringing b back, with k half-rounds after that
  abbrev pub saves : ℕ → ℕ → ℕ → ℕ → Bool
  saves k h taken b = absent h taken b && (good (with h b) && outage_turn k (with h b))

  -- the crew can hold if the outage takes o, with k half-rounds after that
  abbrev pub survives : ℕ → ℕ → ℕ → Bool
  survives k h o = not (has h o) || crew_turn k (without h o) o

  -- the outage may take o, and then the crew cannot hold for the k half-rounds that follow
  unfoldable pub wins : ℕ → ℕ → ℕ → Bool
  wins k h o = has h o && not (crew_turn k (without h o) o)

  -- the outage's first move: the lowest node that wins; with none held it passes (32)
  unfoldable pub first_move : ℕ → ℕ → ℕ
  first_move k h = cond (eqb h 0) 32 (lowest n (wins k h))

  -- who wins in so many rounds with h held
  unfoldable pub winner_of : ℕ → ℕ → Winner
  winner_of rounds h = cond (outage_turn (2 * rounds) h) Crew (Outage (lead_by (first_move (2 * rounds - 1) h)))
