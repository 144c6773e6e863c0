-- One text is printed for an input; and runs that come to the same kept view, termination, held mask and contents of the held reports
-- under the same settings print the same, so that two leaders' logs can be compared.
use Rattle.std.specs.Prelude.{ℕ, true, List, ◌≡◌, refl}
use Rattle.std.proofs.Common.{sym, ap, ◌∙◌, subst, eq-eqb}
use Rattle.base_ids.specs.declared.Refusal.{Refusal}
use Rattle.base_ids.specs.Definitions.{accepted}
use Rattle.report_views.specs.declared.Plan.{Plan}
use Rattle.state_planner.specs.declared.State.{State}
use Rattle.state_planner.specs.declared.Decision.{Decision}
use Rattle.state_planner.specs.declared.Decided.{Decided}
use Rattle.state_planner.specs.Definitions.{decide_refusal}
use Rattle.state_laws.specs.Once.{SameAsked, SameSaid}
use Rattle.state_laws.proofs.Once.{same_said}
use Rattle.program_blocks.specs.Definitions.{blocks}
use Rattle.program_lines.specs.Definitions.{decision_text}
use Rattle.program_run.specs.Definitions.{Progress, Underway, after, at_start, DecisionPrinted, Prints, Printed}
use Rattle.program_run_laws.proofs.Reaches.{decide_taken}

-- a decision's text reads the plan only where there is one
text_same : (σ : List ℕ) (c : Decision) (p q : Plan) → (c ≡ Decision.Planned → p ≡ q) → decision_text σ c p ≡ decision_text σ c q
unfolding decision_text
text_same σ Decision.Planned p q h = ap (λ (w : Plan). decision_text σ Decision.Planned w) (h refl)
text_same σ (Decision.Wait reason) p q h = refl
text_same σ (Decision.Refused r) p q h = refl

said_same : (σ : List ℕ) (r q : Decided) → SameSaid r q → decision_text σ r.decision r.state.plan ≡ decision_text σ q.decision q.state.plan
said_same σ r q s =
    text_same σ r.decision r.state.plan q.state.plan s.plan ∙ ap (λ (c : Decision). decision_text σ c q.state.plan) s.decision

-- two inputs
pub inputs_agree : (first second a b : List ℕ) {σ : List ℕ} {x y : State} {d e : List ℕ} → after at_start (blocks first) ≡ Underway σ x d
    → after at_start (blocks second) ≡ Underway σ y e → SameAsked x y d e → Printed first a → Printed second b → a ≡ b
unfolding Printed Prints
inputs_agree first second a b {σ} {x} {y} {d} {e} f g same h k =
    let u : DecisionPrinted σ x d a = subst (λ (p : Progress). Prints p a) f h in
    let w : DecisionPrinted σ y e b = subst (λ (p : Progress). Prints p b) g k in
    u.says
    ∙ (said_same σ u.decided w.decided (same_said u.decides w.decides (taken first σ x d f) (taken second σ y e g) same) ∙ sym w.says)
  where
    taken : (input σ : List ℕ) (x : State) (d : List ℕ) → after at_start (blocks input) ≡ Underway σ x d → accepted (decide_refusal σ x d) ≡ true
    taken input σ x d q = eq-eqb (decide_refusal σ x d).code 0 (ap (λ (r : Refusal). r.code) (decide_taken input σ x d q))
