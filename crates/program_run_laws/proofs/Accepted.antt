-- What settings and reports lead to where each report is accepted beside what is kept and remembered. Soundness is not asked again: every run
-- comes to a sound state.
use Rattle.std.specs.Prelude.{ℕ, Bool, true, cond, List, [], ◌∷◌, ◌≡◌, refl, get_or, replicate}
use Rattle.std.proofs.Common.{ap, ◌∙◌, subst}
use Rattle.base_laws.specs.Bools.{and_left, and_right}
use Rattle.settings_values.specs.Definitions.{settings_ok}
use Rattle.base_ids.specs.Definitions.{refused, accepted}
use Rattle.message_format.specs.Definitions.{contents_of}
use Rattle.report_kept.specs.Definitions.{refusal_beside}
use Rattle.report_desk.specs.Definitions.{desk_with}
use Rattle.state_planner.specs.declared.State.{State}
use Rattle.state_planner.specs.Definitions.{fresh, report_refusal, after_report}
use Rattle.program_run.specs.Definitions.{Progress, Underway, Ended, opened, taking, after, at_start}
use Rattle.program_run_laws.specs.Reaches.{Gathers, CanReach, report_none, told_taken, taken_gathers}
use Rattle.program_run_laws.proofs.Reaches.{blocks_reach}
use Rattle.program_run_laws.specs.Accepted.{state_after, desk_of, all_accepted}

-- ---- laws

-- from a state of a run
reports_lead : (σ : List ℕ) (x : State) (d : List ℕ) (ws : List (List ℕ)) → Gathers σ x d → all_accepted σ x ws ≡ true
    → after (Underway σ x d) ws ≡ Underway σ (state_after σ x ws) (desk_of d ws)
unfolding after taking state_after desk_of all_accepted
reports_lead σ x d [] g h = refl
reports_lead σ x d (w ∷ ws) g h =
    let first : Bool = accepted (refusal_beside σ x.kept x.termination x.latest w) in
    let rest : Bool = all_accepted σ (after_report σ x (contents_of w)) ws in
    let e : accepted (report_refusal σ x d w) ≡ true = ap accepted (report_none σ x d w g) ∙ and_left first rest h in
    ap (λ (p : Progress). after p ws) (told_taken σ x d w e)
    ∙ reports_lead σ (after_report σ x (contents_of w)) (desk_with d (get_or w 0 0) w) ws (taken_gathers σ x d w g e) (and_right first rest h)

-- from the start
pub run_leads : (σ : List ℕ) (ws : List (List ℕ)) → settings_ok σ ≡ true → all_accepted σ fresh ws ≡ true
    → after at_start (σ ∷ ws) ≡ Underway σ (state_after σ fresh ws) (desk_of (replicate 16384 0) ws)
unfolding after taking opened CanReach
run_leads σ ws s h =
    let zeros : List ℕ = replicate 16384 0 in
    let e : opened zeros σ ≡ Underway σ fresh zeros = ap (λ (b : Bool). cond b (Underway σ fresh zeros) (Ended (refused 2) zeros)) s in
    ap (λ (p : Progress). after p ws) e ∙ reports_lead σ fresh zeros ws (settled e) h
  where
    settled : opened (replicate 16384 0) σ ≡ Underway σ fresh (replicate 16384 0) → Gathers σ fresh (replicate 16384 0)
    settled e = subst (λ (p : Progress). CanReach p) e (blocks_reach (σ ∷ []))
