-- The game case by case: rows 1 and 2, what readiness refuses, and who wins by its rows.
use Rattle.std.specs.Prelude.{ℕ, ◌^◌, ◌<◌, ◌≤◌, Bool, true, false, ◌&&◌, List, ◌≡◌, refl, leb, get_or}
use Rattle.std.proofs.Math.Path.{sym, ap, subst⁻¹}
use Rattle.std.proofs.Common.{◌∙◌, arith, eqb-true, eq-eqb, leb-true, le-leb}
use Rattle.std.proofs.lemmas.Bool.{eqb-false, lt-leb}
use Rattle.base_laws.specs.Bools.{clash, and_left, and_right, and_fails_left}
use Rattle.base_laws.specs.Definitions.{within}
use Rattle.base_laws.specs.Masks.{within_lt}
use Rattle.base_ids.specs.declared.Refusal.{Refusal}
use Rattle.base_ids.specs.Definitions.{refused, accepted}
use Rattle.settings_values.specs.Definitions.{nodes, settings_ok}
use Rattle.plan_masks.specs.Numbered.{plan_exists, wait_none}
use Rattle.game_rules.specs.declared.Winner.{Winner}
use Rattle.game_rules.specs.Definitions.{WonBy}
use Rattle.game_rules.specs.Turns.{winner_of}
use Rattle.game_rules.proofs.Decided.{decided}
use Rattle.game_turns.specs.Table.{plan_at}
use Rattle.state_planner.specs.declared.State.{State}
use Rattle.state_planner.specs.Definitions.{desk_ok}
use Rattle.state_readiness.specs.declared.ReadyRows.{ReadyRows}
use Rattle.state_readiness.specs.Definitions.{ready_refusal, desk_says, Readies}
use Rattle.state_readiness.specs.Steps.{length_refused, settings_refused}
use Rattle.state_readiness.specs.Answers.{ReadyGiven, ready_given}
use Rattle.state_game.specs.declared.Played.TheVariants.{Won, Unplayed}
use Rattle.state_game.specs.Definitions.{game_limits, game_refusal, restarts_with, Plays}

module _ (σ : List ℕ) (held rounds : ℕ) where
  pub limits_passed : 3 < rounds → false ≡ game_limits σ held rounds
  unfolding game_limits
  limits_passed l = sym (and_fails_left (within (nodes σ) held) (lt-leb rounds 3 l))

  pub limits_left : rounds ≤ 3 → within (nodes σ) held ≡ game_limits σ held rounds
  unfolding game_limits
  limits_left l = ap (λ (b : Bool). b && within (nodes σ) held) (sym (le-leb rounds 3 l))

module _ (σ : List ℕ) (x : State) (d : List ℕ) (held rounds : ℕ) where
  -- the game's refusal is k
  pub game_refused : (k : Refusal) → k ≡ game_refusal σ x d held rounds → (k.code ≡ 0 → ⊥) → Plays σ x d held rounds (Unplayed k)
  game_refused k e h =
      record {
        refused = λ _. ap Unplayed e;
        won = λ t. absurd (h (eqb-true k.code 0 (ap accepted e ∙ t)));
      }

  pub game_length : desk_ok d ≡ false → Plays σ x d held rounds (Unplayed (refused 1))
  unfolding game_refusal
  game_length h = game_refused (refused 1) (length_refused (game_limits σ held rounds) σ x d h) (λ e. omega (arith, e))

  pub game_settings : desk_ok d ≡ true → settings_ok σ ≡ false → Plays σ x d held rounds (Unplayed (refused 2))
  unfolding game_refusal
  game_settings h k = game_refused (refused 2) (settings_refused (game_limits σ held rounds) σ x d h k) (λ e. omega (arith, e))

  -- what readiness hands back
  module _ (limits : Bool) (l : limits ≡ game_limits σ held rounds) (ready : ReadyRows) (readies : Readies limits σ x d ready) where
    refusal_is : ready.refusal ≡ game_refusal σ x d held rounds
    unfolding game_refusal
    refusal_is = readies.answers ∙ ap (λ (b : Bool). ready_refusal b σ x d) l

    pub game_not_ready : (ready.refusal.code ≡ 0 → ⊥) → Plays σ x d held rounds (Unplayed ready.refusal)
    game_not_ready h = game_refused ready.refusal refusal_is h

    module _ (h : ready.refusal.code ≡ 0) where
      taken : accepted (ready_refusal limits σ x d) ≡ true
      taken = sym (ap accepted readies.answers) ∙ eq-eqb ready.refusal.code 0 h

      given : ReadyGiven limits σ x d
      given = ready_given limits σ x d taken

      pub game_few : nodes σ ≤ 10
      game_few = given.few

      in-limits : (leb rounds 3 && within (nodes σ) held) ≡ true
      unfolding game_limits
      in-limits = sym l ∙ given.in-limits

      pub game_rounds : rounds ≤ 3
      game_rounds = leb-true rounds 3 (and_left (leb rounds 3) (within (nodes σ) held) in-limits)

      pub game_held : held < 2 ^ nodes σ
      game_held = within_lt (nodes σ) held (and_right (leb rounds 3) (within (nodes σ) held) in-limits)

      -- by the rows of all masks
      pub game_won : (w : Winner) → w ≡ winner_of (nodes σ) (plan_at ready.rows) rounds held → Plays σ x d held rounds (Won w)
      game_won w e =
          record {
            refused = λ f. clash (sym (ap accepted refusal_is) ∙ eq-eqb ready.refusal.code 0 h) f;
            won = λ _. (w, refl, subst⁻¹ (WonBy (nodes σ) (restarts_with σ x d) rounds held) e by_rows);
          }
        where
          by_rows : WonBy (nodes σ) (restarts_with σ x d) rounds held (winner_of (nodes σ) (plan_at ready.rows) rounds held)
          by_rows =
              decided (nodes σ) (omega (arith, game_few)) (plan_at ready.rows) (restarts_with σ x d)
              (λ m i g. plan_exists σ m (desk_says σ x d m) (get_or ready.rows m 0) ((readies.told taken).each m i) (eqb-true (get_or ready.rows m 0) 0 g))
              (λ m i g. wait_none σ m (desk_says σ x d m) (get_or ready.rows m 0) ((readies.told taken).each m i) (eqb-false (get_or ready.rows m 0) 0 g))
              rounds held game_held
