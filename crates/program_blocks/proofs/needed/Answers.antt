-- `program_blocks::needed` meets its contract, case by case. Assumes nothing.
use Prim.Native.Nat.{ℕ, ◌+◌, ◌*◌, ◌≤◌, ◌<◌}
use mathlib.Core.Path.{sym, ap, ◌∙◌}
use native.Mathlib.Omega.{arith}
use Rattle.program_blocks.specs.Definitions.{block_count}
use Rattle.program_blocks.specs.Blocks.{needed_few, needed_short, needed_long}
use Rattle.program_blocks.proofs.needed.Goals as goal

pub returns-then-bytes-lt4 : goal.returns-then-bytes-lt4
returns-then-bytes-lt4 c = sym (needed_few _ c.if-bytes-lt4.true)

pub returns-then-count-lt513 : goal.returns-then-count-lt513
returns-then-count-lt513 c = let n : block_count c.args.bytes.now < 513 = omega (arith, c.word_at-count.ensures) in
    sym (needed_short _ c.if-bytes-lt4.false n ∙ ap (λ (k : ℕ). 4 + 4 * k) (sym c.word_at-count.ensures ∙ sym c.wide.ensures))

pub returns : goal.returns
returns c = let n : 513 ≤ block_count c.args.bytes.now = omega (arith, c.word_at-count.ensures) in
    sym (needed_long _ c.if-bytes-lt4.false n)
