-- That the text of a decision is put into lent bytes: a law for each answer of decide.
use Rattle.std.specs.Prelude.{ℕ, ◌≤◌, List, ◌≡◌, length}
use Rattle.std.proofs.Common.{sym}
use Rattle.std.proofs.Math.Path.{subst}
use Rattle.base_ids.specs.declared.Refusal.{Refusal}
use Rattle.settings_values.specs.Definitions.{shards}
use Rattle.report_views.specs.declared.Plan.{Plan}
use Rattle.report_views.specs.declared.Reason.{Reason}
use Rattle.state_planner.specs.declared.Decision.{Decision}
use Rattle.state_planner.specs.declared.Decision.TheVariants.{Planned, Wait, Refused}
use Rattle.program_text.specs.Definitions.{number_line, Puts}
use Rattle.program_lines.specs.Definitions.{wait_line, plan_lines, decision_text}
use Rattle.program_lines.specs.Lines.{number_length, wait_length, plan_length}

-- it is put into the bytes `out`, and 8,192 bytes are enough
pub record PutsDecision (σ : List ℕ) (a : Decision) (p : Plan) (out after : List ℕ) (n : ℕ) : Type 0 where
  pub fits : length (decision_text σ a p) ≤ 8192
  pub puts : Puts out 0 (decision_text σ a p) after n

-- ---- laws

module _ {σ : List ℕ} {a : Decision} {p : Plan} {out after : List ℕ} {n : ℕ} where
  -- a text by another name
  says_as : (b : Decision) → a ≡ b → PutsDecision σ b p out after n → PutsDecision σ a p out after n
  says_as b e s = subst (λ (x : Decision). PutsDecision σ x p out after n) (sym e) s

  pub says_plan : (k : ℕ) → a ≡ Planned → k ≡ shards σ → k ≤ 16 → Puts out 0 (plan_lines p k) after n → PutsDecision σ a p out after n
  unfolding decision_text
  says_plan k e f few h =
      says_as Planned e
      (record { fits = plan_length p (shards σ) (subst (λ (i : ℕ). i ≤ 16) f few); puts = subst (λ (i : ℕ). Puts out 0 (plan_lines p i) after n) f h })

  pub says_wait : (reason : Reason) → a ≡ Wait reason → Puts out 0 (wait_line reason) after n → PutsDecision σ a p out after n
  unfolding decision_text
  says_wait reason e h = says_as (Wait reason) e (record { fits = wait_length reason; puts = h })

  pub says_refused : (r : Refusal) → a ≡ Refused r → Puts out 0 (number_line r) after n → PutsDecision σ a p out after n
  unfolding decision_text
  says_refused r e h = says_as (Refused r) e (record { fits = number_length r; puts = h })
