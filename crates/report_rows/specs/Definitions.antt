-- The greatest view that each node has reported: row 18, when a state remembers soundly, and what it remembers after a report.
use Rattle.std.specs.Prelude.{ℕ, max, Bool, cond, not, ◌&&◌, ◌||◌, List, eqb, leb, ltb, get_or, replicate}
use Rattle.base_laws.specs.Definitions.{all_below, has, tabulate}
use Rattle.base_ids.specs.declared.View.{View}
use Rattle.settings_values.specs.Definitions.{nodes}
use Rattle.message_format.specs.declared.Contents.{Contents}
use Rattle.report_views.specs.Definitions.{report_of}
use Rattle.report_rows.specs.declared.latest.Latest.{Latest}

-- nothing is remembered
unfoldable pub no_latest : Latest
no_latest = record { views = replicate 32 (record { 0 = 0 }) }

-- the greatest view that node n has reported, 0: none
abbrev pub latest_at : Latest → ℕ → ℕ
latest_at m n = (get_or m.views n (record { 0 = 0 })).0

-- row 18: a report has no smaller view than the greatest that its node has reported
unfoldable pub row18 : Latest → Contents → Bool
row18 m c = leb (latest_at m c.node.0) c.view.0

-- what is remembered of node i after node n's report of view v
abbrev pub noted_at : Latest → ℕ → ℕ → ℕ → View
noted_at m n v i = record { 0 = cond (eqb i n) (max (latest_at m i) v) (latest_at m i) }

-- what is remembered after node n's report of view v
unfoldable pub noted : Latest → ℕ → ℕ → Latest
noted m n v = record { views = tabulate 32 (noted_at m n v) }

-- of node n, if it is held, a view from its report's up to the kept one is remembered; of a node from N up nothing. Of other nodes
-- any view can be remembered.
unfoldable pub recalled : List ℕ → ℕ → ℕ → List ℕ → Latest → ℕ → Bool
recalled σ number held d m n =
    (ltb n (nodes σ) || eqb (latest_at m n) 0)
    && (not (has held n) || (leb (report_of d n).view.0 (latest_at m n) && leb (latest_at m n) number))

-- what is remembered is sound, where the view with this number is kept
unfoldable pub latest_sound : List ℕ → ℕ → ℕ → List ℕ → Latest → Bool
latest_sound σ number held d m = all_below 32 (recalled σ number held d m)
