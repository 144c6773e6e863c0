-- `mondays_moves::gather` meets its contract. The loop's invariant: the lines below i are good and their moves put, and the whole walk is these
-- moves and the walk from line i on. Assumes nothing.
use Prim.Native.Nat.{ℕ}
use mathlib.Core.List.{[], ◌∷◌}
use mathlib.Core.Path.{sym, ap, ◌∙◌}
use native.Mathlib.Omega.{arith}
use Rattle.program_text.specs.Puts.{puts_as, puts_none, then-puts}
use Rattle.mondays_moves.specs.Walking.{walks_none, moves_none, moves_step, line_told, few_told, walks_next, gathers_bad, gathers_all}
use Rattle.mondays_moves.proofs.gather.Goals as goal

pub loop-i-init : goal.loop-i-init
loop-i-init c = (walks_none _ _, puts_as (moves_none _) (puts_none _ _ c.requires))

pub word_at-number-requires : goal.word_at-number-requires
word_at-number-requires c = omega arith

pub word_at-many-requires : goal.word_at-many-requires
word_at-many-requires c = omega arith

pub shape_of-moves-then-refusal-ne0 : goal.shape_of-moves-then-refusal-ne0
shape_of-moves-then-refusal-ne0 c = c.loop-i.invariant.1.size

pub returns-then-refusal-ne0 : goal.returns-then-refusal-ne0
returns-then-refusal-ne0 c =
    let s = c in
    gathers_bad _ _ s.loop-i.i s.loop-i.next _ _ _ _ s.loop-i.invariant.0 s.loop-i.invariant.1 c.line_refusal-refusal.result c.loop-i-test.true
    (line_told _ _ s.loop-i.i _ _ _ c.word_at-number.ensures c.word_at-many.ensures c.line_refusal-refusal.ensures) c.if-refusal-ne0.true

pub overflow_cast-many : goal.overflow_cast-many
overflow_cast-many c =
    omega (arith, few_told c.loop-i.next (record { number = c.word_at-number.result; moves = c.word_at-many.result }) c.line_refusal-refusal.result c.line_refusal-refusal.ensures c.if-refusal-ne0.false)

pub put_byte-place-requires : goal.put_byte-place-requires
put_byte-place-requires c = c.loop-i.invariant.1.within

pub loop-i-preserved : goal.loop-i-preserved
loop-i-preserved c =
    let s = c in
    let bytes = c.args.bytes.now in (
      walks_next bytes _ s.loop-i.i s.loop-i.next _ c.line_refusal-refusal.result c.loop-i-test.true s.loop-i.invariant.0
          (line_told _ _ s.loop-i.i _ _ _ c.word_at-number.ensures c.word_at-many.ensures c.line_refusal-refusal.ensures)
          c.if-refusal-ne0.false (c.from-next.ensures ∙ c.word_at-number.ensures),
      puts_as (moves_step bytes s.loop-i.i)
          (then-puts c.requires s.loop-i.invariant.1 (puts_as (ap (λ (x : ℕ). x ∷ []) (sym c.word_at-many.ensures)) c.put_byte-place.ensures)),
    )

pub shape_of-moves : goal.shape_of-moves
shape_of-moves c = c.loop-i.invariant.1.size

pub returns : goal.returns
returns c = gathers_all _ _ c.loop-i.i c.loop-i.next _ _ _ _ c.loop-i.invariant.0 c.loop-i.invariant.1 c.loop-i-test.false
