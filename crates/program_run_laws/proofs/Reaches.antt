-- Every run comes to a sound state, so that decide refuses nothing after its last block; and a run is ended only by number 2, by
-- one of 5 to 13 or 18 alone, or by 8, 9, 16 or 17 with a record.
use Rattle.std.specs.Prelude.{ℕ, Bool, true, false, cond, ◌⊎◌, List, [], ◌∷◌, ◌≡◌, refl}
use Rattle.std.proofs.Common.{inl, ap, ◌∙◌, subst, eq-eqb}
use Rattle.std.proofs.Math.Logic.{inr, ⊎_elim}
use Rattle.std.proofs.Math.Path.{subst⁻¹}
use Rattle.std.proofs.lemmas.List.{length-replicate}
use Rattle.base_laws.specs.Bools.{either, clash}
use Rattle.settings_values.specs.Definitions.{settings_ok}
use Rattle.base_ids.specs.declared.Refusal.{Refusal}
use Rattle.base_ids.specs.Definitions.{none, refused, accepted}
use Rattle.report_kept.specs.Definitions.{refusal_beside}
use Rattle.state_planner.specs.declared.State.{State}
use Rattle.state_planner.specs.Definitions.{fresh, desk_ok, report_refusal, decide_refusal, reported, desk_after}
use Rattle.state_laws.specs.Reached.{starting}
use Rattle.program_blocks.specs.Definitions.{blocks}
use Rattle.program_run.specs.Definitions.{Progress, Started, Underway, Ended, opened, told_reports, taking, after, at_start}
use Rattle.program_run_laws.specs.Numbers.{OfReport}
use Rattle.program_run_laws.proofs.Numbers.{in-beside}
use Rattle.program_run_laws.specs.Reaches.{Gathers, CanReach, entry_none, report_none, told_taken, taken_gathers}

-- the settings
reaches_opened : (d w : List ℕ) → desk_ok d ≡ true → CanReach (opened d w)
unfolding CanReach opened fresh
reaches_opened d w h =
    ⊎_elim
    (λ e. subst⁻¹ (λ (b : Bool). CanReach (cond b (Underway w fresh d) (Ended (refused 2) d))) e (record { reached = starting d e h; phase = refl }))
    (λ e. subst⁻¹ (λ (b : Bool). CanReach (cond b (Underway w fresh d) (Ended (refused 2) d))) e (inl refl))
    (either (settings_ok w))

-- a report
module _ (σ : List ℕ) (x : State) (d w : List ℕ) (g : Gathers σ x d) where
  ended_number : accepted (report_refusal σ x d w) ≡ false → CanReach (Ended (report_refusal σ x d w) d)
  unfolding CanReach
  ended_number e =
      let r : report_refusal σ x d w ≡ refusal_beside σ x.kept x.termination x.latest w = report_none σ x d w g in
      ⊎_elim (λ z. clash (eq-eqb (report_refusal σ x d w).code 0 (ap (λ (q : Refusal). q.code) r ∙ z)) e)
      (λ z. inr (subst⁻¹ (λ (q : Refusal). OfReport q) r z))
      (in-beside σ x.kept x.termination x.latest w)

  reaches_told : CanReach (told_reports σ x d w)
  unfolding CanReach told_reports
  reaches_told =
      ⊎_elim (λ e. subst⁻¹ (λ (p : Progress). CanReach p) (told_taken σ x d w e) ((taken_gathers σ x d w g) e))
      (λ e.
      subst⁻¹ (λ (b : Bool). CanReach (cond b (Underway σ (reported σ x d w).state (desk_after σ x d w)) (Ended (report_refusal σ x d w) d))) e
      (ended_number e))
      (either (accepted (report_refusal σ x d w)))

reaches_next : (p : Progress) (w : List ℕ) → CanReach p → CanReach (taking p w)
unfolding taking CanReach
reaches_next (Started d) w h = reaches_opened d w h
reaches_next (Underway σ x d) w h = reaches_told σ x d w h
reaches_next (Ended r d) w h = h

reaches_after : (p : Progress) (ws : List (List ℕ)) → CanReach p → CanReach (after p ws)
unfolding after
reaches_after p [] h = h
reaches_after p (w ∷ ws) h = reaches_after (taking p w) ws (reaches_next p w h)

-- whatever the blocks
pub blocks_reach : (ws : List (List ℕ)) → CanReach (after at_start ws)
unfolding CanReach
blocks_reach ws = reaches_after at_start ws (eq-eqb _ 16384 (length-replicate {A = ℕ} 16384 0))

-- whatever the input
pub run_reaches : (input : List ℕ) → CanReach (after at_start (blocks input))
run_reaches input = blocks_reach (blocks input)

-- after the last block decide refuses nothing
pub decide_none : (ws : List (List ℕ)) (σ : List ℕ) (x : State) (d : List ℕ) → after at_start ws ≡ Underway σ x d → decide_refusal σ x d ≡ none
unfolding CanReach decide_refusal
decide_none ws σ x d e = entry_none σ x d (subst (λ (p : Progress). CanReach p) e (blocks_reach ws))

pub decide_taken : (input σ : List ℕ) (x : State) (d : List ℕ) → after at_start (blocks input) ≡ Underway σ x d → decide_refusal σ x d ≡ none
decide_taken input σ x d e = decide_none (blocks input) σ x d e

-- the numbers that end a run
pub ended_by : (input : List ℕ) (r : Refusal) (d : List ℕ) → after at_start (blocks input) ≡ Ended r d → (r.code ≡ 2) ⊎ OfReport r
unfolding CanReach
ended_by input r d e = subst (λ (p : Progress). CanReach p) e (run_reaches input)
