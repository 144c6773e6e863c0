-- `plan_losses::needs_at` meets its contract: by the shard's subgroup, then by its need. Assumes nothing.
use Prim.Native.Nat.{ℕ}
use mathlib.Core.Path.{sym, ap, ◌∙◌}
use lib.Dec.{leb}
use Rattle.plan_losses.specs.Needs.{needs_not, needs_is}
use Rattle.plan_losses.proofs.needs_at.Goals as goal

pub returns-then-subgroup-g : goal.returns-then-subgroup-g
returns-then-subgroup-g c = let a = c.args in
    needs_not a.settings.now a.g a.k a.s.0 (λ e. c.if-subgroup-g.true (c.subgroup.ensures ∙ e))

pub returns : goal.returns
returns c = let a = c.args in
    needs_is a.settings.now a.g a.k a.s.0 (leb a.k c.need.result) (sym c.subgroup.ensures ∙ c.if-subgroup-g.false)
    (ap (λ (x : ℕ). leb a.k x) c.need.ensures)
