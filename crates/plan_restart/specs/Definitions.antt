-- What contracts cite, each definition after those that it builds on. Laws stand in the files beside this one.
use Rattle.std.specs.Prelude.{ℕ, ◌+◌, ◌<◌, min, true, List, ◌≡◌, length}
use Rattle.place_groups.specs.Definitions.{Chosen, AllValid}
use Rattle.place_rounds.specs.Definitions.{gap_of, Bettered}
use Rattle.report_views.specs.declared.Layout.{Layout}
use Rattle.report_views.specs.declared.Termination.{Termination}
use Rattle.report_views.specs.declared.Plan.{Plan}
use Rattle.report_views.specs.Definitions.{mask_at, holders_of, targets_of, layout_tidy, all_moves}
use Rattle.history_laws.specs.Definitions.{Claims}

-- ---- What the held reports allow, from the settings σ, the kept view v with its termination t, the mask of held nodes and the
-- desk d. Nothing is left free: what is not a definition's value is the choice among placements of least moves, and that is the first of
-- those with the most stays.

-- a plan
pub record Plans (σ : List ℕ) (v : Layout) (t : Termination) (held : ℕ) (d : List ℕ) (p : Plan) : Type 0 where
  -- the new view: kept + 1, all held nodes, 16 masks with no entry from S up
  pub number : p.layout.number.0 ≡ v.number.0 + 1
  pub members : p.layout.members ≡ held
  pub sized : length p.layout.masks ≡ 16
  pub tidy : layout_tidy σ p.layout ≡ true
  -- holders and targets are those of the held reports
  pub holders : p.holders ≡ holders_of σ v t held d
  pub targets : p.targets ≡ targets_of σ v t held d
  -- every subgroup's placement is the chosen one: valid, no valid one has fewer moves, of those that have as many none has more stays,
  -- and of those that have as many of both it is the first
  pub chosen : (g : ℕ) → g < 4 → Chosen σ held (mask_at v) (mask_at p.layout) g
  -- the total is the sum of the placements' moves
  pub total : p.total ≡ all_moves σ v p.layout
  -- over every history nothing is lost
  pub claims : Claims σ v t held d

-- ---- What the held reports allow with improving rounds, from the settings σ, the kept view v with its termination t, the mask of held nodes, the
-- desk d and the number of rounds n. Nothing is left free: one placement is reached.

-- a view to restart in: all that decide promises of its plan but the choice of the placement, of which it says that it is valid
pub record NextView (σ : List ℕ) (v : Layout) (t : Termination) (held : ℕ) (d : List ℕ) (p : Plan) : Type 0 where
  -- kept + 1, all held nodes, 16 masks with no entry from S up
  pub number : p.layout.number.0 ≡ v.number.0 + 1
  pub members : p.layout.members ≡ held
  pub sized : length p.layout.masks ≡ 16
  pub tidy : layout_tidy σ p.layout ≡ true
  -- holders and targets are those of the held reports
  pub holders : p.holders ≡ holders_of σ v t held d
  pub targets : p.targets ≡ targets_of σ v t held d
  -- a valid placement in every subgroup, with its moves
  pub valid : AllValid σ held (mask_at p.layout)
  pub total : p.total ≡ all_moves σ v p.layout
  -- over every history nothing is lost
  pub claims : Claims σ v t held d

-- a plan that n rounds reach, more than 128 counting as 128, and its gap
pub record PlansWithin (σ : List ℕ) (v : Layout) (t : Termination) (held : ℕ) (d : List ℕ) (n : ℕ) (p : Plan) (gap : ℕ) : Type 0 where
  pub next : NextView σ v t held d p
  pub bettered : Bettered σ held (mask_at v) (min n 128) (mask_at p.layout)
  pub gapped : gap ≡ gap_of σ held (mask_at v) (mask_at p.layout)
