-- Restarts from short reports lose nothing. A short report is true of the history `short_of H`, so what is proved of a restart from whole
-- reports holds there: the kept view is the last, and what is settled of it is in the holder's log and not past the target. What is settled
-- of earlier views is in the holder's base. A machine that keeps its base, or its log up to the cut, agrees so far with the holder, since bases
-- agree; so with what it fetches it has the holder's log up to the target.
use Rattle.std.specs.Prelude.{ℕ, ◌^◌, ◌<◌, ◌≤◌, Bool, true, cond, List, ◌≡◌, ltb}
use Rattle.settings_values.specs.Definitions.{shards}
use Rattle.base_ids.specs.declared.Position.{Position}
use Rattle.base_ids.specs.Definitions.{not_after}
use Rattle.report_views.specs.declared.Layout.{Layout}
use Rattle.report_views.specs.declared.Termination.{Termination}
use Rattle.report_views.specs.Definitions.{is_start, slots_ok, target}
use Rattle.report_views.specs.Meets.{QuorumMet}
use Rattle.history_laws.specs.Definitions.{History, Supposed}
use Rattle.history_course_laws.specs.Course.{Orderly}
use Rattle.history_short_laws.specs.Based.{short_of}

-- ---- one restart

module _ (σ : List ℕ) (v : Layout) (t : Termination) (held : ℕ) (d : List ℕ) (few : shards σ ≤ 16) (wide : v.members < 2 ^ 32)
    (slots : slots_ok σ v t held d ≡ true) (met : QuorumMet σ v t held d) (H : History) (sup : Supposed σ v held d (short_of H))
    (orderly : Orderly H) where
  -- not past the target of shard s
  abbrev pub upto_target : ℕ → Position → Bool
  upto_target s q = cond (is_start (target v t held d s)) (ltb q.view.0 v.number.0) (not_after q (target v t held d s))
