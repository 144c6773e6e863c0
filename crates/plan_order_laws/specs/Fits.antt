-- What a sound plan and sound slots give a held node's order: its targets, holders and cuts are as row 11 asks, its masks as row
-- 10 does, the slots that it is made from can be read, and a node that follows it has the holder's log up to the target.
use Rattle.std.specs.Prelude.{ℕ, ◌<◌, List, ◌≡◌}
use Rattle.std.proofs.Math.Bool.{true}
use Rattle.base_laws.specs.Definitions.{has}
use Rattle.base_laws.specs.Masks.{within_has}
use Rattle.settings_values.specs.Definitions.{nodes, Settings}
use Rattle.report_views.specs.declared.Layout.{Layout}
use Rattle.report_views.specs.declared.Termination.{Termination}
use Rattle.report_views.specs.declared.Plan.{Plan}
use Rattle.report_views.specs.Definitions.{slots_ok}
use Rattle.plan_order_laws.specs.Sound.{KeptView, SoundPlan}

module _ (σ : List ℕ) (v : Layout) (t : Termination) (held : ℕ) (d : List ℕ) (p : Plan) (w : Settings σ) (k : KeptView σ v t held)
    (slots : slots_ok σ v t held d ≡ true) (ps : SoundPlan σ v t held d p) where
  module _ (n : ℕ) (mine : has held n ≡ true) where
    -- a held node is below N
    pub node_below : n < nodes σ
    node_below = within_has (nodes σ) held k.held_within n mine
