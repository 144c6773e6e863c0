-- The writer never refuses the order of a held node under a sound plan: rows 5 to 7 and 9 to 11 pass.
-- Rows 6 and 7 are the plan's number and members; row 10 is the validity of the placements; row 11 goes by the targets, each a
-- kept termination's position or the end of a held report's log, and by the cuts, whose views are not above the targets'.
use Rattle.std.specs.Prelude.{ℕ, true, List, ◌≡◌}
use Rattle.std.proofs.Common.{arith}
use borrow.Author.Tests.{le-leb}
use Rattle.base_laws.specs.Definitions.{has}
use Rattle.settings_values.specs.Definitions.{Settings}
use Rattle.base_ids.specs.Definitions.{none}
use Rattle.message_format.specs.declared.Form.TheVariants.{Order}
use Rattle.message_format.specs.Definitions.{contents_refusal}
use Rattle.message_format.specs.Passed.{ContentsPass, contents_none}
use Rattle.report_views.specs.declared.Layout.{Layout}
use Rattle.report_views.specs.declared.Termination.{Termination}
use Rattle.report_views.specs.declared.Plan.{Plan}
use Rattle.report_views.specs.Definitions.{slots_ok, kept_sound, plan_sound}
use Rattle.plan_order.specs.Definitions.{order_contents}
use Rattle.plan_order.specs.Recorded.{len_few}
use Rattle.plan_order_laws.specs.Says.{saying, order-body}
use Rattle.plan_order_laws.proofs.Passing.{order_records_pass}
use Rattle.plan_order_laws.proofs.Fits.{fitting}
use Rattle.plan_order_laws.proofs.Accepted.{ps, k, head_passes}

module _ (σ : List ℕ) (v : Layout) (t : Termination) (held : ℕ) (d : List ℕ) (p : Plan) (w : Settings σ) (kept : kept_sound σ v t held ≡ true)
    (slots : slots_ok σ v t held d ≡ true) (plan : plan_sound σ v t held d p ≡ true) where
  module _ (n : ℕ) (mine : has held n ≡ true) where
    contents_pass : ContentsPass Order σ (order_contents σ p d n)
    unfolding order_contents
    contents_pass =
        record {
          words_pass = le-leb (order_contents σ p d n).len 127 (omega (arith, len_few σ p d n w.sizes.shards_to));
          head_passes = (head_passes σ v t held d p w kept slots plan n mine);
          records_pass =
              order_records_pass σ n (saying p d n) (order_contents σ p d n).body (order_contents σ p d n).len (order-body σ p d n w.sizes.shards_to)
              p.layout.number.0
              p.layout.members
              (fitting σ v t held d p w (k σ v t held d p w kept slots plan) slots (ps σ v t held d p w kept slots plan) n mine);
        }

    -- no row refuses it
    pub order_accepted : contents_refusal Order σ (order_contents σ p d n) ≡ none
    order_accepted = contents_none Order σ (order_contents σ p d n) contents_pass
