-- `place_groups::check::moved` meets its contract: a mask of 32 bits counts at most 32. Assumes nothing.
use mathlib.Core.Path.{ap, ◌∙◌}
use native.Mathlib.Omega.{arith}
use Rattle.base_laws.specs.Definitions.{count, minus}
use Rattle.base_laws.specs.Masks.{minus_lt, count-within}
use Rattle.place_groups.proofs.check.moved.Goals as goal

pub returns : goal.returns
returns c =
    let a = c.args in record { value = c.count.ensures ∙ ap count c.minus.ensures; upper_bound = omega (arith, c.count.ensures, ap count c.minus.ensures, count-within 32 (minus a.new a.old) (minus_lt 32 a.new a.old c.ranges.new.fits)) }
