-- `report_quick::masks_fit` meets its contract.
use mathlib.Core.Path.{sym, ◌∙◌}
use native.Mathlib.Omega.{arith}
use lib.ListN.{get_or}
use Rattle.message_format.specs.Alike.{row10_same}
use Rattle.report_quick.specs.Told.{mask_told}
use Rattle.report_quick.proofs.masks_fit.Goals as goal

pub returns : goal.returns
returns c = let s = c in
    let m = c.masks_told-masks in
    λ e. row10_same s.args.settings.now (get_or s.args.w.now 2 0) (mask_told s.args.w.now) (λ j. get_or m.result j 0) (λ j l. m.ensures j (omega (arith, s.requires.w_len.1)))
    ∙ (sym c.row10.ensures ∙ e)
