-- `report_walk::goes_on` meets its contract.
use Rattle.std.proofs.Common.{◌≡◌, ◌/◌, arith, ltb-true}
use mathlib.Core.Bool.{false≢true}
use Rattle.report_walk.specs.Seen.{key_low, link_told}
use Rattle.report_walk.proofs.goes_on.Goals as goal

pub returns-then-key-since : goal.returns-then-key-since
returns-then-key-since c = λ e. absurd (false≢true e)

pub returns-then-not-run_view : goal.returns-then-not-run_view
returns-then-not-run_view c = λ e. absurd (false≢true e)

pub returns : goal.returns
returns c = λ e.
    let a = c.args in
    let fit = c.run_view.ensures c.if-not-run_view.false in
    let v : c.low.result ≡ a.front / 4294967296 = key_low a.front c.low.result c.ranges.front.fits (omega (arith, c.low.ensures, c.key_of-key.ensures)) in
    let link = link_told a.back c.wrapping_sub_u64.result a.i c.requires c.wrapping_sub_u64.ensures.value (ltb-true _ _ e) in
    record {
      rises = omega (arith, c.if-key-since.false, c.key_of-key.ensures);
      view_from = omega (arith, v, fit.0);
      view_to = omega (arith, v, fit.1);
      some = link.0;
      linked = link.1;
    }
