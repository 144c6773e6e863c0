-- Holder and target of shard s depend on the kept view's number, the mask and the termination's position of s, the held mask, the views that
-- held nodes reported and their runs of s, and on nothing else.
use Rattle.std.specs.Prelude.{ℕ, ◌<◌, true, List, ◌≡◌}
use Rattle.base_laws.specs.Definitions.{has}
use Rattle.base_ids.specs.declared.Position.{Position}
use Rattle.report_views.specs.declared.Layout.{Layout}
use Rattle.report_views.specs.declared.Termination.{Termination}
use Rattle.report_views.specs.Definitions.{runs_of, report_of, mask_at, position_at}
use Rattle.report_views.specs.Shorthands.{view_of}

-- the runs of shard s that node n reported
abbrev pub runs_at : List ℕ → ℕ → ℕ → List Position
runs_at d s n = runs_of (report_of d n).body s (report_of d n).len

-- what shard s shows is the same in two worlds
pub record AlikeShard (v w : Layout) (t u : Termination) (held : ℕ) (d e : List ℕ) (s : ℕ) : Type 0 where
  pub number : v.number.0 ≡ w.number.0
  pub mask : mask_at v s ≡ mask_at w s
  pub made : t.made ≡ u.made
  pub position : position_at t s ≡ position_at u s
  pub views : (n : ℕ) → n < 32 → has held n ≡ true → view_of d n ≡ view_of e n
  pub runs : (n : ℕ) → n < 32 → has held n ≡ true → runs_at d s n ≡ runs_at e s n
