-- `mondays_windows::put_windows` meets its contract. The loop's invariant: the lines of the windows before the moves that are left are put, and
-- the window at hand is that of the first 64 of these. Assumes nothing.
use Prim.Native.Nat.{ℕ, ◌+◌, ◌-◌, zero-le}
use mathlib.Core.List.{List}
use mathlib.Core.Path.{◌≡◌, sym, ap, ◌∙◌}
use native.Mathlib.Omega.{arith}
use lib.ListN.{length, take, drop, length-drop}
use Rattle.std.specs.Slice.Iter.{windows_rest, windows_size}
use Rattle.program_text.specs.Puts.{puts_as, puts_none, then-puts}
use Rattle.mondays_windows.specs.Definitions.{window_of, window_lines}
use Rattle.mondays_windows.specs.Sliding.{lines_none, lines_step, windows_none, windows_all, left_within, left_next, left_window, part_before, part_next}
use Rattle.mondays_windows.proofs.put_windows.Goals as goal

pub returns-then-moves-lt64 : goal.returns-then-moves-lt64
returns-then-moves-lt64 c = puts_as (windows_none _ c.if-moves-lt64.true) (puts_none _ 0 zero-le)

pub loop-part-init : goal.loop-part-init
loop-part-init c =
    let moves = c.args.moves.now in
    let items = c.into_iter-part-iterator.result in
    let is = c.into_iter-part-iterator.ensures.into_iter_gives in
    let rest : windows_rest items ≡ moves = ap windows_rest is ∙ c.windows-part-items.ensures.rest in
    let none : length moves - length (windows_rest items) ≡ 0 = omega (arith, ap length rest) in (
      ap windows_size is ∙ c.windows-part-items.ensures.size,
      omega (arith, ap length rest, c.if-moves-lt64.false),
      rest ∙ ap (λ (k : ℕ). drop k moves) (sym none),
      c.fresh-window.ensures ∙ ap (λ (l : List ℕ). window_of (take 64 l)) (sym rest),
      puts_as (ap (window_lines moves) none ∙ lines_none moves) (puts_none _ 0 zero-le),
    )

pub slide-window-requires-clause-window_value : goal.slide-window-requires-clause-window_value
slide-window-requires-clause-window_value c =
    let steps = c.in-Some.ensures.steps.1 in
    let known = c.loop-part.invariant in known.3 ∙ ap window_of (part_before _ _ _ known.0 steps.1)

pub loop-part-preserved : goal.loop-part-preserved
loop-part-preserved c =
    let moves = c.args.moves.now in
    let rest = windows_rest c.loop-part.part-iterator in
    let steps = c.in-Some.ensures.steps in
    let known = c.loop-part.invariant in
    let next = left_next moves rest known.2 (windows_rest c.next.new.self) (omega arith) steps.1.2 in (
      steps.0 ∙ known.0,
      omega (arith, known.0, steps.1.0, ap length steps.1.2, length-drop 1 rest),
      next.1,
      c.slide-window.ensures ∙ ap window_of (part_next _ _ _ known.0 steps.1.1 _ steps.1.2),
      puts_as (ap (window_lines moves) next.0 ∙ lines_step moves (length moves - length rest))
          (then-puts zero-le known.4 (puts_as (left_window moves rest known.2 _ known.3) c.put_window-next.ensures)),
    )

pub returns : goal.returns
returns c =
    let moves = c.args.moves.now in
    let rest = windows_rest c.loop-part.part-iterator in
    let known = c.loop-part.invariant in
    let last : length moves - length rest + 64 ≡ length moves = omega (arith, left_within moves rest known.2, known.0, known.1, c.in-None.ensures.steps.1.0) in
    puts_as (windows_all moves (length moves - length rest) last ∙ lines_step moves (length moves - length rest))
    (then-puts zero-le known.4 (puts_as (left_window moves rest known.2 _ known.3) c.put_window.ensures))
