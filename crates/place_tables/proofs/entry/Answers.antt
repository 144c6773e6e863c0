-- `place_tables::entry` meets its contract: the table is the sheet, and the node's set is below 16. Assumes nothing.
use mathlib.Core.Path.{ap₂, ◌∙◌}
use mathlib.Core.List.{List, []}
use Prim.Native.Nat.{ℕ, ◌<◌}
use native.Mathlib.Omega.{arith}
use lib.ListN.{get_or}
use Rattle.settings_values.specs.Definitions.{set_of}
use Rattle.place_groups.proofs.Laws.{sheet_entry}
use Rattle.place_tables.proofs.entry.Goals as goal

pub bounds-sheet-f : goal.bounds-sheet-f
bounds-sheet-f c =
    let p = c.requires in
    omega (arith, c.set_of-f.ensures, p.settings.set_below c.args.n p.n_bound, p.settings.sizes.sets_to)

pub returns : goal.returns
returns c =
    let a = c.args in
    let p = c.requires in
    let f : ℕ = set_of a.settings.now a.n in
    let l : f < 16 = omega (arith, p.settings.set_below a.n p.n_bound, p.settings.sizes.sets_to) in
    ap₂ (λ (t : List (List ℕ)) (i : ℕ). get_or (get_or t a.s []) i 0) p.sheet_value c.set_of-f.ensures
    ∙ sheet_entry a.settings.now a.held (λ i. get_or a.old.now i 0) a.s f p.s_bound l
