-- `report_quick::rest_fits` meets its contract.
use Prim.Native.Nat.{◌+◌}
use mathlib.Core.Bool.{false≢true}
use mathlib.Core.Logic.{inl, inr}
use mathlib.Core.Path.{refl}
use Rattle.report_quick.proofs.rest_fits.Goals as goal

pub returns-then-w-count-ne2 : goal.returns-then-w-count-ne2
returns-then-w-count-ne2 c = let a = c.args in
    λ e. let r = c.runs_told.ensures e in record { front = a.count; last = r.0; positions = inl refl; runs = r.1 }

pub returns-then-not-positions_told : goal.returns-then-not-positions_told
returns-then-not-positions_told c = λ e. absurd (false≢true e)

pub returns : goal.returns
returns c = let a = c.args in
    let p = c.positions_told in
    λ e. let r = c.runs_told-2.ensures e in record {
      front = a.count + a.count;
      last = r.0;
      positions = inr (refl, p.ensures c.if-not-positions_told.false);
      runs = r.1;
    }
