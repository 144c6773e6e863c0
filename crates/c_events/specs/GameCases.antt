-- What the call game answers, case by case; and that a first move fits its answer.
use Rattle.std.specs.Prelude.{ℕ, ◌≤◌, List, ◌≡◌, eqb, ltb, length}
use Rattle.std.proofs.Common.{⊎_elim, sym, ◌∙◌, subst, arith, lit≤, eqb-true, eq-eqb, ltb-true}
use Rattle.std.proofs.Math.Path.{ap, subst⁻¹}
use Rattle.base_laws.specs.Bools.{either, clash}
use Rattle.base_lent.specs.Definitions.{words_in}
use Rattle.base_ids.specs.declared.Refusal.{Refusal}
use Rattle.base_ids.specs.Definitions.{accepted}
use Rattle.settings_values.specs.Definitions.{nodes}
use Rattle.game_rules.specs.declared.Lead.{Lead}
use Rattle.game_rules.specs.declared.Winner.{Winner}
use Rattle.game_rules.specs.declared.Winner.TheVariants.{Crew, Outage}
use Rattle.game_rules.specs.Definitions.{lead_by, WonBy}
use Rattle.state_planner.specs.declared.State.{State}
use Rattle.state_game.specs.declared.Played.{Played}
use Rattle.state_game.specs.Definitions.{game_refusal, restarts_with, Plays}
use Rattle.c_state.specs.declared.CallFinds.{CallFinds}
use Rattle.c_state.specs.Definitions.{by_planner}
use Rattle.c_state.specs.Calls.{entry}
use Rattle.c_state.specs.CallLaws.{desk_entry, desk_passes}
use Rattle.c_events.specs.Definitions.{decide_entry, played_word, GameCall}
use Rattle.c_events.specs.GameCalls.{lead_move, winner_move, played_move}

-- ---- the first move

move_small : (o : ℕ) → lead_move (lead_by o) ≤ 32
unfolding lead_by
move_small o = ⊎_elim (λ e. rw e (let l = ltb-true o 32 e in omega (arith, l))) (λ e. rw e (lit≤ tt)) (either (ltb o 32))

won_small : (n : ℕ) (ok : ℕ → Type 0) (k h : ℕ) (w : Winner) → WonBy n ok k h w → winner_move w ≤ 32
won_small n ok k h Crew a = lit≤ tt
won_small n ok k h (Outage f) a = subst⁻¹ (λ (g : Lead). lead_move g ≤ 32) a.1 (move_small a.0)

pub played_small : (σ : List ℕ) (x : State) (d : List ℕ) (held rounds : ℕ) (r : Played) → Plays σ x d held rounds r → played_move r ≤ 32
played_small σ x d held rounds r p =
    ⊎_elim
    (λ t. let w = p.won t in subst⁻¹ (λ (q : Played). played_move q ≤ 32) w.1 (won_small (nodes σ) (restarts_with σ x d) rounds held w.0 w.2))
    (λ f. subst⁻¹ (λ (q : Played). played_move q ≤ 32) (p.refused f) (lit≤ tt)) (either (accepted (game_refusal σ x d held rounds)))

-- ---- the cases

module _ (role : ℕ) (settings state desk : List ℕ) (held rounds : ℕ) (e : CallFinds) (given : e ≡ entry (by_planner role) (eqb (length desk) 65536) settings state) where
  refusal_is : e.refusal ≡ decide_entry role settings state desk
  unfolding entry decide_entry
  refusal_is = ap (λ (x : CallFinds). x.refusal) (desk_entry (by_planner role) settings state desk e given)

  pub game_refused : (e.refusal.code ≡ 0 → ⊥) → GameCall role settings state desk held rounds e.refusal.code
  game_refused h =
      record {
        refused = λ n. ap (λ (r : Refusal). r.code) refusal_is;
        played = λ a. absurd (h (ap (λ (r : Refusal). r.code) refusal_is ∙ eqb-true (decide_entry role settings state desk).code 0 a));
      }

  pub game_played : e.refusal.code ≡ 0 → (o : Played) → Plays (words_in settings) e.state (words_in desk) held rounds o → (answer : ℕ)
      → answer ≡ played_word o → GameCall role settings state desk held rounds answer
  game_played h o plays answer f =
      record {
        refused =
            λ n. clash (eq-eqb (decide_entry role settings state desk).code 0 (sym (ap (λ (r : Refusal). r.code) refusal_is) ∙ h)) n;
        played =
            λ a. record {
              outcome = o;
              plays =
                  subst (λ (x : State). Plays (words_in settings) x (words_in desk) held rounds o)
                  (desk_passes (by_planner role) settings state desk e given h).state_is plays;
              answers = f;
            };
      }
