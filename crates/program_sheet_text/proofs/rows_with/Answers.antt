-- `program_sheet_text::rows_with` meets its contract. The loop's invariant: the rows below `mask` are counted. Assumes nothing.
use Prim.Native.Nat.{ℕ, ◌+◌}
use mathlib.Core.Bool.{Bool, true, false, cond}
use mathlib.Core.Path.{◌≡◌, refl, ap, ◌∙◌}
use mir.Val.{bool_byte}
use native.Mathlib.Omega.{arith}
use Rattle.program_sheet_text.specs.Definitions.{rows_with}
use Rattle.program_sheet_text.specs.Laws.{rows_turn, rows_none, rows_le}
use Rattle.program_sheet_text.proofs.rows_with.Goals as goal

-- a test as a number
test_counts : (b : Bool) → bool_byte b ≡ cond b 1 0
test_counts true = refl
test_counts false = refl

pub loop-mask-init : goal.loop-mask-init
loop-mask-init c = rows_none c.args.rows.now c.args.number

pub bounds-rows-wide : goal.bounds-rows-wide
bounds-rows-wide c = omega (arith, c.wide.ensures, c.loop-mask-test.true, c.requires)

pub overflow_add-found : goal.overflow_add-found
overflow_add-found c =
    let a = c.args in
    let l = c.loop-mask in
    omega (
      arith,
      rows_turn a.rows.now l.mask a.number _ l.found _ l.invariant c.wide.ensures (c.from-found.ensures ∙ test_counts _),
      rows_le a.rows.now (l.mask + 1) a.number,
      c.loop-mask-test.true,
      c.requires,
    )

pub loop-mask-preserved : goal.loop-mask-preserved
loop-mask-preserved c =
    let a = c.args in
    let l = c.loop-mask in rows_turn a.rows.now l.mask a.number _ l.found _ l.invariant c.wide.ensures (c.from-found.ensures ∙ test_counts _)

pub returns : goal.returns
returns c =
    let a = c.args in
    c.loop-mask.invariant ∙ ap (λ (k : ℕ). rows_with a.rows.now k a.number) (omega (arith, c.loop-mask.auto.mask-end, c.loop-mask-test.false))
