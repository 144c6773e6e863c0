-- `settings_check::sizes_ok` meets its contract. The sum fits, since the ranges hold by then.
use mathlib.Core.Bool.{true}
use mathlib.Core.List.{List}
use mathlib.Core.Path.{◌≡◌, sym, ◌∙◌}
use Prim.Native.Nat.{ℕ, ◌+◌}
use native.Mathlib.Omega.{arith}
use lib.Dec.{eqb, leb}
use lib.ListN.{length}
use borrow.Author.Tests.{le-leb, lt-leb}
use Rattle.settings_values.specs.Definitions.{nodes, shards, ranges_ok, sizes_ok}
use Rattle.settings_values.specs.Laws.{ranges_give, range_high}
use Rattle.settings_check.proofs.sizes_ok.Goals as goal

last : (σ : List ℕ) (n s : ℕ) → leb 4 (length σ) ≡ true → ranges_ok σ ≡ true → n ≡ nodes σ → s ≡ shards σ
    → eqb (length σ) (4 + n + s) ≡ sizes_ok σ
unfolding sizes_ok
last σ n s l r e f = rw (l, r, e, f)

pub returns-then-settings-lt4 : goal.returns-then-settings-lt4
unfolding sizes_ok
returns-then-settings-lt4 c = simp (lt-leb _ _ c.if-settings-lt4.true)

pub returns-then-not-ranges_ok : goal.returns-then-not-ranges_ok
unfolding sizes_ok
returns-then-not-ranges_ok c = simp (le-leb _ _ c.if-settings-lt4.false, sym c.ranges_ok.ensures, c.if-not-ranges_ok.true)

pub overflow_add-result : goal.overflow_add-result
overflow_add-result c = let k = c.ranges_ok in
    let σ = c.args.settings.now in
    let r = ranges_give σ (sym k.ensures ∙ c.if-not-ranges_ok.false) in
    omega (arith, range_high 1 32 (nodes σ) r.nodes_range)

pub overflow_add-result-2 : goal.overflow_add-result-2
overflow_add-result-2 c = let k = c.ranges_ok in
    let σ = c.args.settings.now in
    let r = ranges_give σ (sym k.ensures ∙ c.if-not-ranges_ok.false) in
    omega (arith, range_high 1 32 (nodes σ) r.nodes_range, range_high 1 16 (shards σ) r.shards_range)

pub returns : goal.returns
returns c = let k = c.ranges_ok in
    let σ = c.args.settings.now in
    last σ c.wide.result c.wide-2.result (le-leb _ _ c.if-settings-lt4.false)
    (sym k.ensures ∙ c.if-not-ranges_ok.false)
    c.wide.ensures
    c.wide-2.ensures
