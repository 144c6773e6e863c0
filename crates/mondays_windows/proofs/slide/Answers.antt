-- `mondays_windows::slide` meets its contract: the sum changes by the move that comes and the one that goes; the greatest is the new move, or
-- stays, or is found afresh. Assumes nothing.
use Prim.Native.Nat.{◌-◌}
use mathlib.Core.Path.{◌≡◌, ap, ◌∙◌}
use native.Mathlib.Omega.{arith}
use lib.ListN.{take, drop, length-drop}
use lib.Seq.{take_all}
use Rattle.mondays_windows.specs.declared.Window.{Window}
use Rattle.mondays_windows.specs.Definitions.{greatest_of}
use Rattle.program_sums.specs.Sums.{sum_bound}
use Rattle.mondays_windows.specs.Sliding.{old_within, slid, greatest_new, greatest_stays}
use Rattle.mondays_windows.proofs.slide.Goals as goal

pub overflow_add-sum : goal.overflow_add-sum
overflow_add-sum c =
    let l = c.args.moves.now in
    let known = c.type_inv.moves in
    omega (arith, ap (λ (w : Window). w.sum) c.requires.window_value, sum_bound l 64 (λ k. omega (arith, known k)), known 64, c.from.ensures)

pub overflow_sub-sum : goal.overflow_sub-sum
overflow_sub-sum c =
    let s = c in
    let old = old_within s.args.moves.now s.requires.moves_len s.args.window.sum (ap (λ (w : Window). w.sum) s.requires.window_value) in
    omega (arith, c.from-2.ensures)

pub returns-then-window-new : goal.returns-then-window-new
returns-then-window-new c =
    let s = c in
    let e = s.requires.window_value in
    slid s.args.moves.now s.requires.moves_len s.args.window e _ _ _ c.from.ensures c.from-2.ensures
    (greatest_new s.args.moves.now s.requires.moves_len s.args.window.greatest (ap (λ (w : Window). w.greatest) e) c.if-window-new.true)

pub returns-then-old-window : goal.returns-then-old-window
returns-then-old-window c =
    let s = c in
    let e = s.requires.window_value in
    slid s.args.moves.now s.requires.moves_len s.args.window e _ _ _ c.from.ensures c.from-2.ensures
    (greatest_stays s.args.moves.now s.requires.moves_len s.args.window.greatest (ap (λ (w : Window). w.greatest) e) c.if-window-new.false c.if-old-window.true)

pub returns : goal.returns
returns c =
    let s = c in
    let l = s.args.moves.now in
    let all : take (65 - 1) (drop 1 l) ≡ drop 1 l = take_all 64 (drop 1 l) (omega (arith, length-drop 1 l, s.requires.moves_len)) in
    slid l s.requires.moves_len s.args.window s.requires.window_value _ _ _ c.from.ensures c.from-2.ensures (c.greatest_of.ensures ∙ ap greatest_of all)
