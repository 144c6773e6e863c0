-- `report_walk::run_view` meets its contract.
use Rattle.std.proofs.Common.{ltb-true}
use Rattle.report_walk.specs.Seen.{view_told}
use Rattle.report_walk.proofs.run_view.Goals as goal

pub returns : goal.returns
returns c =
    λ e. view_told c.args.v c.wrapping_sub_u32.result c.args.view c.wrapping_sub_u32.ensures.value (ltb-true _ _ e) c.ranges.view.fits
