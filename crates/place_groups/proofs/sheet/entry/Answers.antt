-- `place_groups::sheet::entry` meets its contract: each way out has the tests that led there. Assumes nothing.
use mathlib.Core.Path.{sym, ap, ap₂, ◌∙◌}
use mathlib.Core.Bool.{Bool, cond}
use native.Mathlib.Omega.{arith}
use lib.Dec.{ltb}
use borrow.Author.Tests.{le-ltb}
use Rattle.base_laws.specs.Bools.{and_fails_left, and_fails_right}
use Rattle.base_laws.specs.Definitions.{has}
use Rattle.settings_values.specs.Definitions.{sets, shards}
use Rattle.place_groups.specs.Laws.{entry_out, entry_in}
use Rattle.place_groups.proofs.sheet.entry.Goals as goal

pub returns-then-s-shards : goal.returns-then-s-shards
returns-then-s-shards c =
    let a = c.args in
    sym (entry_out a.settings.now a.stay a.any a.s.0 a.f
    (and_fails_left (ltb a.f (sets a.settings.now)) (le-ltb a.s.0 (shards a.settings.now) (omega (arith, c.shards.ensures)))))

pub returns-then-f-sets : goal.returns-then-f-sets
returns-then-f-sets c =
    let a = c.args in
    sym (entry_out a.settings.now a.stay a.any a.s.0 a.f
    (and_fails_right (ltb a.s.0 (shards a.settings.now)) (le-ltb a.f (sets a.settings.now) (omega (arith, c.sets.ensures)))))

pub returns-then-has : goal.returns-then-has
returns-then-has c =
    let a = c.args in
    sym (entry_in a.settings.now a.stay a.any a.s.0 a.f
    (omega (arith, c.shards.ensures)) (omega (arith, c.sets.ensures))
    ∙ ap (λ (b : Bool). cond b 0 (cond (has a.any a.f) 1 2)) (sym c.has.ensures ∙ c.if-has.true))

pub returns-then-has-2 : goal.returns-then-has-2
returns-then-has-2 c =
    let a = c.args in
    sym (entry_in a.settings.now a.stay a.any a.s.0 a.f
    (omega (arith, c.shards.ensures)) (omega (arith, c.sets.ensures))
    ∙ ap₂ (λ (b d : Bool). cond b 0 (cond d 1 2)) (sym c.has.ensures ∙ c.if-has.false) (sym c.has-2.ensures ∙ c.if-has-2.true))

pub returns-else-has-2 : goal.returns-else-has-2
returns-else-has-2 c =
    let a = c.args in
    sym (entry_in a.settings.now a.stay a.any a.s.0 a.f
    (omega (arith, c.shards.ensures)) (omega (arith, c.sets.ensures))
    ∙ ap₂ (λ (b d : Bool). cond b 0 (cond d 1 2)) (sym c.has.ensures ∙ c.if-has.false) (sym c.has-2.ensures ∙ c.if-has-2.false))
