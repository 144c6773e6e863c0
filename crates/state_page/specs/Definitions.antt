-- The page call: when it is refused, and what it hands back.
use Rattle.std.specs.Prelude.{ℕ, true, false, List, ◌≡◌}
use Rattle.base_ids.specs.declared.Refusal.{Refusal}
use Rattle.base_ids.specs.Definitions.{none, accepted, unless}
use Rattle.base_roles.specs.declared.Role.{Role}
use Rattle.base_roles.specs.Definitions.{may_read}
use Rattle.settings_values.specs.Definitions.{settings_ok}
use Rattle.plan_page.specs.Definitions.{PageOf, blank_page}
use Rattle.state_planner.specs.declared.State.{State}
use Rattle.state_planner.specs.Definitions.{sound, desk_ok}
use Rattle.state_page.specs.declared.Paged.{Paged}

-- row 3: the state is sound
unfoldable pub sound_refusal : List ℕ → State → List ℕ → Refusal
sound_refusal σ x d = unless (sound σ x d) 3 none

-- rows 1, 2, 15 and 3: the desk's length, the settings, the page allowed to the role, the state
unfoldable pub page_refusal : List ℕ → State → List ℕ → Role → ℕ → Refusal
page_refusal σ x d role g = unless (desk_ok d) 1 (unless (settings_ok σ) 2 (unless (may_read role g) 15 (sound_refusal σ x d)))

-- beside a refusal the blank page, else subgroup g's page of the state
pub record PagedAs (refusal : Refusal) (σ : List ℕ) (x : State) (d : List ℕ) (g : ℕ) (r : Paged) : Type 0 where
  pub answers : r.refusal ≡ refusal
  pub blank : accepted refusal ≡ false → r.page ≡ blank_page
  pub shows : accepted refusal ≡ true → PageOf σ x.phase x.kept x.termination x.held d x.plan g r.page

-- what the call hands back
abbrev pub PageCalled : List ℕ → State → List ℕ → Role → ℕ → Paged → Type 0
PageCalled σ x d role g r = PagedAs (page_refusal σ x d role g) σ x d g r

-- the same where rows 1, 2 and 15 do not refuse
abbrev pub PageUnder : List ℕ → State → List ℕ → ℕ → Paged → Type 0
PageUnder σ x d g r = PagedAs (sound_refusal σ x d) σ x d g r
