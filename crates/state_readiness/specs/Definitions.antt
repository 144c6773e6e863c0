-- Readiness: when it is refused, and what it hands back.
use Rattle.std.specs.Prelude.{ℕ, ◌-◌, ◌^◌, Bool, true, false, not, ◌&&◌, List, ◌≡◌, eqb, leb, replicate}
use Rattle.base_ids.specs.declared.Refusal.{Refusal}
use Rattle.base_ids.specs.Definitions.{none, accepted, unless, first_of}
use Rattle.settings_values.specs.Definitions.{nodes}
use Rattle.report_views.specs.declared.Layout.{Layout}
use Rattle.report_views.specs.declared.Termination.{Termination}
use Rattle.report_views.specs.declared.Quorum.{Quorum}
use Rattle.report_views.specs.Definitions.{slots_ok, quorum_of}
use Rattle.plan_masks.specs.Definitions.{Rows}
use Rattle.state_planner.specs.declared.State.{State}
use Rattle.state_planner.specs.Definitions.{decide_refusal}
use Rattle.state_readiness.specs.declared.ReadyRows.{ReadyRows}

-- a view is kept, and every node's slot would be sound if the node were held
unfoldable pub ready : List ℕ → Layout → Termination → List ℕ → Bool
ready σ v t d = not (eqb v.number.0 0) && slots_ok σ v t (2 ^ nodes σ - 1) d

-- row 23
unfoldable pub slots_refusal : List ℕ → State → List ℕ → Refusal
slots_refusal σ x d = unless (ready σ x.kept x.termination d) 23 none

-- row 22, at most ten nodes and what else is given in its limits, then 23
unfoldable pub size_refusal : Bool → List ℕ → State → List ℕ → Refusal
size_refusal limits σ x d = unless (leb (nodes σ) 10 && limits) 22 (slots_refusal σ x d)

-- rows 1 to 4 as decide's, then 22 and 23
unfoldable pub ready_refusal : Bool → List ℕ → State → List ℕ → Refusal
ready_refusal limits σ x d = first_of (decide_refusal σ x d) (size_refusal limits σ x d)

-- waits 1 to 4 with h held in place of the state's nodes
abbrev pub desk_says : List ℕ → State → List ℕ → ℕ → Quorum
desk_says σ x d h = quorum_of σ x.kept x.termination h d

-- beside a refusal zeros, else the row of each mask
pub record ReadiesAs (refusal : Refusal) (σ : List ℕ) (q : ℕ → Quorum) (r : ReadyRows) : Type 0 where
  pub answers : r.refusal ≡ refusal
  pub blank : accepted refusal ≡ false → r.rows ≡ replicate 1024 0
  pub told : accepted refusal ≡ true → Rows σ q r.rows

-- what readiness hands back
abbrev pub Readies : Bool → List ℕ → State → List ℕ → ReadyRows → Type 0
Readies limits σ x d r = ReadiesAs (ready_refusal limits σ x d) σ (desk_says σ x d) r
