-- The call decide with improving rounds has one answer, and the parts of its proof.
use Rattle.std.specs.Prelude.{ℕ, ◌≤◌, true, false, List, ◌≡◌, refl, eqb, length}
use Rattle.std.proofs.Common.{⊎_elim, sym, ap, ◌∙◌, subst, arith, lit≤, eqb-true, eq-eqb}
use Rattle.std.proofs.Math.Path.{subst⁻¹}
use Rattle.base_laws.specs.Bools.{either, clash}
use Rattle.base_ids.specs.declared.Refusal.{Refusal}
use Rattle.base_ids.specs.Definitions.{accepted}
use Rattle.base_lent.specs.Definitions.{words_in}
use Rattle.settings_values.specs.Definitions.{settings_ok}
use Rattle.report_views.specs.declared.Reason.TheVariants.{NoPlacement}
use Rattle.report_views.specs.declared.Quorum.{Quorum}
use Rattle.report_views.specs.declared.Quorum.TheVariants.{Met, Short}
use Rattle.report_views.specs.Definitions.{quorum_of, value_of}
use Rattle.state_planner.specs.declared.State.{State}
use Rattle.state_planner.specs.declared.Decision.TheVariants.{Planned, Wait, Refused}
use Rattle.state_planner.specs.declared.DecidedWithin.{DecidedWithin}
use Rattle.state_planner.specs.Definitions.{planned, desk_ok, decide_refusal, still_within, StuckWithin, DecidesWithin}
use Rattle.state_laws.specs.Within.{within_unique}
use Rattle.c_state.specs.declared.CallFinds.{CallFinds}
use Rattle.c_state.specs.Definitions.{by_planner}
use Rattle.c_state.specs.Calls.{entry}
use Rattle.c_state.specs.CallLaws.{desk_passes}
use Rattle.c_state.specs.Barred.{barred_refuses, Bars}
use Rattle.c_events.specs.Definitions.{decision_leaves, decide_entry, within_word, WithinCall}
use Rattle.c_events.specs.Decisions.{decision_value}
use Rattle.c_events.specs.DecideCases.{quorum_small, refusal_is}
use Rattle.c_events.specs.DecideRoles.{entry_is}

-- ---- laws

-- one call: one answer, and the same bytes
pub within_call_unique : {role : ℕ} {settings state desk : List ℕ} {n a b : ℕ} {l m : List ℕ} → WithinCall role settings state desk n a l
    → WithinCall role settings state desk n b m → (a ≡ b) × (l ≡ m)
within_call_unique {role} {settings} {state} {desk} p q =
    ⊎_elim
    (λ h.
    let x = p.decided h in
    let y = q.decided h in
    let e : x.outcome ≡ y.outcome = within_unique x.decides y.decides in (
      x.answers ∙ (ap (λ (o : DecidedWithin). within_word o.decision o.gap) e ∙ sym y.answers),
      x.leaves ∙ (ap (λ (o : DecidedWithin). decision_leaves o.decision o.state state) e ∙ sym y.leaves),
    ))
    (λ h. ((p.refused h).0 ∙ sym (q.refused h).0, (p.refused h).1 ∙ sym (q.refused h).1))
    (either (accepted (decide_entry role settings state desk)))

-- only the planner decides
pub within_barred : (role : ℕ) (settings state desk : List ℕ) → by_planner role ≡ false → {n answer : ℕ} {left : List ℕ}
    → WithinCall role settings state desk n answer left → Bars (desk_ok (words_in desk)) settings state answer left
within_barred role settings state desk h p =
    let r = p.refused (ap accepted (entry_is role settings state desk h) ∙ barred_refuses (desk_ok (words_in desk)) settings) in
    record { answers = r.0 ∙ ap (λ (x : Refusal). x.code) (entry_is role settings state desk h); leaves = r.1 }

-- the shard or subgroup of a wait is small
pub within_value : (σ : List ℕ) (x : State) (d : List ℕ) (n : ℕ) (o : DecidedWithin) → settings_ok σ ≡ true → DecidesWithin σ x d n o
    → decision_value o.decision ≤ 16
unfolding value_of
within_value σ x d n o ok decides = ⊎_elim accepting refusing (either (accepted (decide_refusal σ x d)))
  where
    small : (p : DecidedWithin) → o ≡ p → decision_value p.decision ≤ 16 → decision_value o.decision ≤ 16
    small p e h = subst⁻¹ (λ (q : DecidedWithin). decision_value q.decision ≤ 16) e h

    refusing : accepted (decide_refusal σ x d) ≡ false → decision_value o.decision ≤ 16
    refusing h = small (still_within x (Refused (decide_refusal σ x d))) (decides.refused h) (lit≤ tt)

    stuck : StuckWithin σ x o → decision_value o.decision ≤ 16
    stuck s = small (still_within x (Wait (NoPlacement s.group))) s.given (let l = s.lowest.below in omega arith)

    by : accepted (decide_refusal σ x d) ≡ true → (q : Quorum) → quorum_of σ x.kept x.termination x.held d ≡ q
        → decision_value o.decision ≤ 16
    by h (Short reason) e =
        small (still_within x (Wait reason)) (decides.waits h reason e) (quorum_small σ x.kept x.termination x.held d reason ok e)
    by h Met e =
        ⊎_elim (λ w. small (record { state = planned x w.plan; decision = Planned; gap = w.gap }) w.given (lit≤ tt)) stuck (decides.answers h e)

    accepting : accepted (decide_refusal σ x d) ≡ true → decision_value o.decision ≤ 16
    accepting h = by h (quorum_of σ x.kept x.termination x.held d) refl

-- case by case
module _ (role : ℕ) (settings state desk : List ℕ) (n : ℕ) (e : CallFinds) (given : e ≡ entry (by_planner role) (eqb (length desk) 65536) settings state) where
  pub within_entry : (e.refusal.code ≡ 0 → ⊥) → WithinCall role settings state desk n e.refusal.code state
  within_entry h =
      record {
        refused = λ k. (ap (λ (r : Refusal). r.code) (refusal_is role settings state desk e given), refl);
        decided = λ a. absurd (h (ap (λ (r : Refusal). r.code) (refusal_is role settings state desk e given) ∙ eqb-true (decide_entry role settings state desk).code 0 a));
      }

  pub within_done : e.refusal.code ≡ 0 → (o : DecidedWithin) → DecidesWithin (words_in settings) e.state (words_in desk) n o
      → (answer : ℕ) (left : List ℕ) → answer ≡ within_word o.decision o.gap → left ≡ decision_leaves o.decision o.state state
      → WithinCall role settings state desk n answer left
  within_done h o decides answer left f g =
      record {
        refused =
            λ k. clash (eq-eqb (decide_entry role settings state desk).code 0 (sym (ap (λ (r : Refusal). r.code) (refusal_is role settings state desk e given)) ∙ h)) k;
        decided =
            λ a. record {
              outcome = o;
              decides =
                  subst (λ (x : State). DecidesWithin (words_in settings) x (words_in desk) n o)
                  (desk_passes (by_planner role) settings state desk e given h).state_is decides;
              answers = f;
              leaves = g;
            };
      }
