-- `settings_values::cap` meets its contract: the word is the shard's, and each way out has the test that led there.
use Prim.Native.Nat.{ℕ, ◌/◌, ◌%◌}
use mathlib.Core.Bool.{true, false, cond}
use mathlib.Core.List.{List}
use mathlib.Core.Path.{◌≡◌, ap}
use lib.Dec.{eqb}
use borrow.Author.Tests.{eq-eqb, ne_eqb}
use Rattle.settings_values.specs.Definitions.{shard_word, cap}
use Rattle.settings_values.proofs.cap.Goals as goal

module _ (σ : List ℕ) (s w : ℕ) (e : w ≡ shard_word σ s) where
  same : cond (eqb (w / 65536) 0) (w % 256) (w / 65536) ≡ cap σ s
  unfolding cap
  same = ap (λ (v : ℕ). cond (eqb (v / 65536) 0) (v % 256) (v / 65536)) e

  none : eqb (w / 65536) 0 ≡ true → w % 256 ≡ cap σ s
  none h = rw h at same

  some : eqb (w / 65536) 0 ≡ false → w / 65536 ≡ cap σ s
  some h = rw h at same

pub returns-then-word-eq0 : goal.returns-then-word-eq0
returns-then-word-eq0 c =
    let a = c.args in
    none a.settings.now a.shard.0 c.shard_word-word.result c.shard_word-word.ensures (eq-eqb _ _ c.if-word-eq0.true)

pub returns : goal.returns
returns c =
    let a = c.args in
    some a.settings.now a.shard.0 c.shard_word-word.result c.shard_word-word.ensures (ne_eqb _ _ c.if-word-eq0.false)
