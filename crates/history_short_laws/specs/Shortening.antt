-- Whole reports and short ones, of the same nodes over the same history: holders and waits 1 to 4 are the same, and targets and cuts are the
-- same or (0, 0) for the base's end. For a candidate's log is its base, which all candidates have, followed by what its short report has.
use Prim.Native.Nat.{ℕ, ◌<◌, ◌≤◌}
use Rattle.std.specs.Prelude.{◌≡◌}
use Rattle.std.proofs.Math.Bool.{true}
use mathlib.Core.List.{List}
use Rattle.std.proofs.Common.{sym, ◌∙◌}
use Rattle.base_laws.specs.Definitions.{has}
use Rattle.settings_values.specs.Definitions.{shards}
use Rattle.report_views.specs.declared.Layout.{Layout}
use Rattle.report_views.specs.declared.Termination.{Termination}
use Rattle.report_views.specs.Definitions.{report_of, slots_ok}
use Rattle.report_views.specs.Shorthands.{view_of}
use Rattle.history_laws.specs.Definitions.{History, True, Supposed}
use Rattle.history_short_laws.specs.Based.{short_of, Based}
use Rattle.history_short_laws.specs.Telling.{its_number}

module _ (σ : List ℕ) (v : Layout) (t u : Termination) (held : ℕ) (d e : List ℕ) (few : shards σ ≤ 16) (slots : slots_ok σ v t held d ≡ true)
    (short-slots : slots_ok σ v u held e ≡ true) (H : History) (sup : Supposed σ v held d H)
    (short : (n : ℕ) → n < 32 → has held n ≡ true → True σ (short_of H) (report_of e n)) (based : Based (shards σ) H) where
  -- the same views
  pub short_views : (n : ℕ) → n < 32 → has held n ≡ true → view_of e n ≡ view_of d n
  short_views n l k =
      its_number σ v u held e few short-slots H (short_of H).updated short n l k
      ∙ sym (its_number σ v t held d few slots H H.updated sup.true_reports n l k)
