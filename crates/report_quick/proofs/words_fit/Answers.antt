-- `report_quick::words_fit` meets its contract.
use Prim.Native.Nat.{ℕ}
use mathlib.Core.Bool.{false≢true}
use mathlib.Core.Path.{subst}
use native.Mathlib.Omega.{arith}
use Rattle.report_quick.specs.Accepts.{RestFits}
use Rattle.report_quick.proofs.words_fit.Goals as goal

pub returns-then-not-head_told : goal.returns-then-not-head_told
returns-then-not-head_told c = λ e. absurd (false≢true e)

pub returns-then-not-members_told : goal.returns-then-not-members_told
returns-then-not-members_told c = λ e. absurd (false≢true e)

pub returns-then-not-masks_fit : goal.returns-then-not-masks_fit
returns-then-not-masks_fit c = λ e. absurd (false≢true e)

pub returns : goal.returns
returns c = let head = c.head_told in
    let members = c.members_told in
    let masks = c.masks_fit in
    let count = c.shards-count.ensures in
    λ e. record {
      head = head.ensures c.if-not-head_told.false;
      members = λ s l. members.ensures c.if-not-members_told.false s (omega (arith, count));
      masks = masks.ensures c.if-not-masks_fit.false;
      rest = subst (λ (x : ℕ). RestFits x c.args.w.now) count (c.rest_fits.ensures e);
    }
