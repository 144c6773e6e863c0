-- `place_tables::set_at` meets its contract: a set is below 16, so it fits a byte. Assumes nothing.
use mathlib.Core.Path.{sym, ◌∙◌}
use native.Mathlib.Omega.{arith}
use Rattle.place_laws.specs.Cases.{set_past, set-in}
use Rattle.place_tables.proofs.set_at.Goals as goal

pub returns-then-n-nodes : goal.returns-then-n-nodes
returns-then-n-nodes c = let a = c.args in sym (set_past a.settings.now a.n (omega (arith, c.nodes.ensures)))

pub overflow_cast-result : goal.overflow_cast-result
overflow_cast-result c =
    let a = c.args in
    let right = c.requires in
    record { fits = omega (arith, c.set_of.ensures, right.set_below a.n (omega (arith, c.nodes.ensures)), right.sizes.sets_to) }

pub returns : goal.returns
returns c =
    let a = c.args in c.set_of.ensures ∙ sym (set-in a.settings.now a.n (omega (arith, c.nodes.ensures)))
