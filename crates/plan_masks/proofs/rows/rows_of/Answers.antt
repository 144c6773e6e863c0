-- `plan_masks::rows::rows_of` meets its contract: all nodes are undecided, and none is up. Assumes nothing.
use mathlib.Core.Path.{refl}
use native.Mathlib.Omega.{arith}
use Rattle.plan_masks.specs.Rows.{masks_say, rows_all, zeros_at, none_up}
use Rattle.plan_masks.proofs.rows.rows_of.Goals as goal

pub fill-requires : goal.fill-requires
fill-requires c = let s = c in
    let e = c.nodes.ensures in
    record { settings = s.requires.settings; settings_bound = (s.requires.settings_bound, omega (arith, e), refl); undecided_bound = none_up _ _ e }

pub returns : goal.returns
returns c = let s = c in
    let a = s.args in
    rows_all a.settings.now (masks_say a.settings.now a.v a.masks.now) _ _ c.nodes.result c.nodes.ensures zeros_at
    c.fill.ensures.rows_len c.fill.ensures.rows_filled
