-- `state_rows::sound_parts::layout_tidy` meets its contract. The invariant: every entry below s passes. Assumes nothing.
use Prim.Native.Nat.{ℕ}
use mathlib.Core.Bool.{Bool, ◌||◌}
use mathlib.Core.List.{List}
use mathlib.Core.Path.{sym, ◌∙◌}
use native.Mathlib.Omega.{arith}
use lib.Dec.{eqb, ltb}
use lib.ListN.{get_or}
use Rattle.base_laws.specs.Below.{all_none}
use Rattle.base_laws.proofs.Below.{all_more, all_fails, all_fewer}
use Rattle.settings_values.specs.Definitions.{shards}
use Rattle.report_views.specs.declared.Layout.{Layout}
use Rattle.report_views.specs.Definitions.{layout_tidy}
use Rattle.state_rows.proofs.sound_parts.layout_tidy.Goals as goal

abbrev ok : List ℕ → Layout → ℕ → Bool
ok σ v s = ltb s (shards σ) || eqb (get_or v.masks s 0) 0

pub loop-s-init : goal.loop-s-init
loop-s-init c = let a = c.args in all_none (ok a.settings.now a.v)

pub returns-then-not-tidy_at : goal.returns-then-not-tidy_at
unfolding layout_tidy
returns-then-not-tidy_at c = let a = c.args in
    let k = c.tidy_at in
    sym (all_fails 16 (ok a.settings.now a.v) c.loop-s.s (omega (arith)) (sym k.ensures ∙ c.if-not-tidy_at.true))

pub loop-s-preserved : goal.loop-s-preserved
loop-s-preserved c = let a = c.args in
    let k = c.tidy_at in
    let l = c.loop-s in all_more l.s (ok a.settings.now a.v) l.invariant (sym k.ensures ∙ c.if-not-tidy_at.false)

pub returns : goal.returns
unfolding layout_tidy
returns c = let a = c.args in
    let l = c.loop-s in
    sym (all_fewer 16 l.s (ok a.settings.now a.v) (omega (arith)) l.invariant)
