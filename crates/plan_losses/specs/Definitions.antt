-- The held nodes whose loss means waiting, from the settings σ, the mask of held nodes and what waits 1 to 4 say of any nodes (Q).
use Rattle.std.specs.Prelude.{ℕ, true, false, List, ◌≡◌}
use Rattle.base_laws.specs.Definitions.{has, without}
use Rattle.report_views.specs.Definitions.{quorum_of}
use Rattle.report_views.specs.declared.Quorum.{Quorum}
use Rattle.report_views.specs.declared.Layout.{Layout}
use Rattle.report_views.specs.declared.Termination.{Termination}
use Rattle.plan_masks.specs.Definitions.{Allowed}

abbrev pub quorums_of : List ℕ → Layout → Termination → List ℕ → ℕ → Quorum
quorums_of σ v t d h = quorum_of σ v t h d

-- m has just those of the held nodes without which a wait applies
pub record Lost (σ : List ℕ) (held : ℕ) (Q : ℕ → Quorum) (m : ℕ) : Type 0 where
  pub waits : (n : ℕ) → has m n ≡ true → (has held n ≡ true) × (Allowed σ (without held n) (Q (without held n)) → ⊥)
  pub plans : (n : ℕ) → has held n ≡ true → has m n ≡ false → Allowed σ (without held n) (Q (without held n))
