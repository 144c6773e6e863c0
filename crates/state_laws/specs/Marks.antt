-- A state with other marks, under the same plan.
use Rattle.std.specs.Prelude.{ℕ, true, List, ◌≡◌}
use Rattle.report_views.specs.declared.Phase.{Phase}
use Rattle.report_views.specs.Definitions.{marks_sound, plan_fits}
use Rattle.state_planner.specs.declared.State.{State}
use Rattle.state_planner.specs.Definitions.{sound, marked}
use Rattle.state_laws.specs.Parts.{SoundState, sound-test}

-- the state with other marks, under the same plan
module _ (σ : List ℕ) (x : State) (d : List ℕ) (before : SoundState σ x d) where
  pub marked_sound : (p : Phase) (fetched prepared : ℕ) → marks_sound p x.held fetched prepared ≡ true
      → plan_fits p σ x.kept x.termination x.held d x.plan ≡ true → sound σ (marked x p fetched prepared) d ≡ true
  unfolding marked
  marked_sound p fetched prepared m f =
      sound-test σ (marked x p fetched prepared) d
      (record { kept-sound = before.kept-sound; slots-ok = before.slots-ok; marks-sound = m; latest-sound = before.latest-sound; plan-fits = f })
