-- `message_writer::fill` meets its contract. The loop's invariant: the first k lent words are the message's, the others as they were.
-- Assumes nothing.
use Prim.Native.Nat.{ℕ, ◌≤◌, ◌<◌, ◌+◌}
use native.Mathlib.Omega.{arith}
use mathlib.Core.List.{List}
use mathlib.Core.Path.{◌≡◌, refl, sym, ap, ◌∙◌}
use lib.ListN.{length, set}
use Rattle.base_laws.specs.Definitions.{tabulate}
use Rattle.base_laws.specs.Tables.{filled, filled_none, filled_more, filled_all, length_filled}
use Rattle.message_format.specs.Definitions.{message_of}
use Rattle.message_writer.proofs.fill.Goals as goal

-- the lent words so far: their length, a turn of the loop, and the last
kept_length : (k : ℕ) (f : ℕ → ℕ) (l b : List ℕ) → k ≤ length l → b ≡ filled k f l → length b ≡ length l
kept_length k f l b h e = ap length e ∙ length_filled k f l h

turn : (k : ℕ) (f : ℕ → ℕ) (l b : List ℕ) (v : ℕ) → k < length l → b ≡ filled k f l → v ≡ f k → set b k v ≡ filled (k + 1) f l
turn k f l b v h e i = rw (e, i) (filled_more k f l h)

done : (k : ℕ) (f : ℕ → ℕ) (l b : List ℕ) → k ≡ 512 → length l ≡ 512 → b ≡ filled k f l → b ≡ tabulate 512 f
done k f l b h e i = i ∙ rw h (filled_all 512 f l e)

pub loop-k-init : goal.loop-k-init
loop-k-init c = sym (filled_none _ _)

pub bounds-buffer-k : goal.bounds-buffer-k
bounds-buffer-k c = omega (arith, kept_length _ _ _ _ (omega arith) c.loop-k.invariant)

pub loop-k-preserved : goal.loop-k-preserved
loop-k-preserved c = turn _ _ _ _ _ (omega arith) c.loop-k.invariant c.word.ensures

pub overflow_add-result : goal.overflow_add-result
overflow_add-result c = let few = c.requires.1 in omega arith

pub overflow_mul-result : goal.overflow_mul-result
overflow_mul-result c = let few = c.requires.1 in omega arith

pub shape_of-buffer : goal.shape_of-buffer
shape_of-buffer c = kept_length _ _ _ _ (omega arith) c.loop-k.invariant

pub returns : goal.returns
unfolding message_of
returns c = record { answer = refl; words = done _ _ _ _ (omega arith) c.requires.0 c.loop-k.invariant }
