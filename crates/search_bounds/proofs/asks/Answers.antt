-- Each part by its contract. Assumes nothing.
use Prim.Native.Nat.{ℕ, ◌+◌, ◌*◌, ◌<◌, min}
use mathlib.Core.Path.{◌∙◌, ap}
use native.Mathlib.Omega.{arith}
use lib.ListN.{get_or}
use Rattle.search_bounds.proofs.asks.Goals as goal

-- a pair's place in its table
place : (i f : ℕ) → i < 16 → f < 16 → i * 16 + f < 256
place i f l h = omega arith

pub bounds-pairs-i : goal.bounds-pairs-i
bounds-pairs-i c = place c.args.i c.wide-2.result c.requires.i_bound.0
    (omega (arith, c.wide-2.ensures.0, c.requires.small.below c.args.n c.requires.i_bound.1))

pub returns : goal.returns
returns c = let s = c in (
  omega (
    arith,
    c.wide.ensures.0,
    c.large-2.ensures.0,
    c.large.ensures.0
        ∙ (c.smaller.ensures ∙ ap (λ (f : ℕ). min s.args.want (get_or s.args.pairs.now (s.args.i * 16 + f) 0)) c.wide-2.ensures.0),
  ),
  omega arith,
)
