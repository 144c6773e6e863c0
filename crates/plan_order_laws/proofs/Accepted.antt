-- The writer never refuses the order of a held node under a sound plan: rows 5 to 7 and 9 to 11 pass.
-- Rows 6 and 7 are the plan's number and members; row 10 is the validity of the placements; row 11 goes by the targets, each a
-- kept termination's position or the end of a held report's log, and by the cuts, whose views are not above the targets'.
use Rattle.std.specs.Prelude.{ℕ, ◌+◌, ◌<◌, true, List, ◌++◌, ◌≡◌, length}
use Rattle.std.proofs.Common.{arith}
use borrow.Author.Tests.{le-leb, lt-ltb}
use Rattle.base_laws.specs.Bools.{and_both}
use Rattle.base_laws.specs.Definitions.{has}
use Rattle.settings_values.specs.Definitions.{nodes, shards, Settings}
use Rattle.message_format.specs.declared.Form.TheVariants.{Order}
use Rattle.message_format.specs.Definitions.{row6, view_ok, row7}
use Rattle.message_format.specs.Passed.{HeadPasses}
use Rattle.report_views.specs.declared.Layout.{Layout}
use Rattle.report_views.specs.declared.Termination.{Termination}
use Rattle.report_views.specs.declared.Plan.{Plan}
use Rattle.report_views.specs.Definitions.{holder_at, target_at, slots_ok, kept_sound, plan_sound}
use Rattle.report_views.specs.Updates.{updates_at, up_to, kept_updates, fetched_updates}
use Rattle.plan_order.specs.Definitions.{cut_of}
use Rattle.plan_order_laws.specs.Sound.{KeptView, SoundPlan, kept_given, plan_given}
use Rattle.plan_order.specs.Readable.{ReadableSlot, Holders}
use Rattle.plan_order_laws.specs.Fits.{node_below}
use Rattle.plan_order_laws.proofs.Fits.{restored, readable, holders_readable}

module _ (σ : List ℕ) (v : Layout) (t : Termination) (held : ℕ) (d : List ℕ) (p : Plan) (w : Settings σ) (kept : kept_sound σ v t held ≡ true)
    (slots : slots_ok σ v t held d ≡ true) (plan : plan_sound σ v t held d p ≡ true) where
  -- what the tests give
  pub ps : SoundPlan σ v t held d p
  ps = plan_given σ v t held d p w plan

  pub k : KeptView σ v t held
  k = kept_given σ v t held w kept ps.met.kept

  -- for the call that makes the contents: every holder's slot can be read
  pub planned_holders : length d ≡ 16384 → Holders (shards σ) p d
  planned_holders = holders_readable σ v t held d p w k slots ps

  module _ (n : ℕ) (mine : has held n ≡ true) where
    -- and so can the slot of a held node
    pub held_readable : length d ≡ 16384 → ReadableSlot d n
    held_readable = readable σ v t held d p w k slots ps n mine

    -- a node that follows it has the holder's log up to the target
    pub order_restored : (s : ℕ) → s < shards σ
        → kept_updates (cut_of p d n s) (updates_at d s n) ++ fetched_updates (cut_of p d n s) (target_at p s) (updates_at d s (holder_at p s))
        ≡ up_to (target_at p s) (updates_at d s (holder_at p s))
    order_restored = restored σ v t held d p w k slots ps n mine

    -- rows 6 and 7
    pub head_passes : HeadPasses Order σ n p.layout.number.0 p.layout.members
    unfolding row6 row7 view_ok
    head_passes =
        record {
          node_passes = lt-ltb n (nodes σ) (node_below σ v t held d p w k slots ps n mine);
          view_passes =
              rw (ps.number_next, ps.members_held)
              (and_both
              (and_both (and_both (le-leb 2 (v.number.0 + 1) (omega (arith, k.number_from))) (le-leb (v.number.0 + 1) 4294967295 (omega (arith, k.number_to)))) k.held_within)
              mine);
        }
