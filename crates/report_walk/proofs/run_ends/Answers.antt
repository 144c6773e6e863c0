-- `report_walk::run_ends` meets its contract.
use Rattle.std.proofs.Common.{◌≡◌, ◌+◌, ◌/◌, ◌<◌, arith, ltb-true}
use mathlib.Core.Bool.{false≢true}
use Rattle.report_walk.specs.Seen.{key_low}
use Rattle.report_walk.proofs.run_ends.Goals as goal

pub returns-then-key-since : goal.returns-then-key-since
returns-then-key-since c = λ e. absurd (false≢true e)

pub returns-then-not-run_view : goal.returns-then-not-run_view
returns-then-not-run_view c = λ e. absurd (false≢true e)

pub returns-then-back-ge4294967296 : goal.returns-then-back-ge4294967296
returns-then-back-ge4294967296 c = λ e. absurd (false≢true e)

pub returns-then-back-lt1 : goal.returns-then-back-lt1
returns-then-back-lt1 c = λ e. absurd (false≢true e)

pub returns : goal.returns
returns c = λ e.
    let a = c.args in
    let fit = c.run_view.ensures c.if-not-run_view.false in
    let v : c.low.result ≡ a.front / 4294967296 = key_low a.front c.low.result c.ranges.front.fits (omega (arith, c.low.ensures, c.key_of-key.ensures)) in
    let h : c.low-2.result < 768 + a.count = ltb-true _ _ e in
    record {
      rises = omega (arith, c.if-key-since.false, c.key_of-key.ensures);
      view_from = omega (arith, v, fit.0);
      view_to = omega (arith, v, fit.1);
      some = omega (arith, c.if-back-lt1.false);
      end = omega (arith, c.if-back-ge4294967296.false);
      high = omega (arith, c.low-2.ensures, h);
    }
