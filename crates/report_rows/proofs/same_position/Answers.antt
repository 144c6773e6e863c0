-- `report_rows::same_position` meets its contract, test by test.
use Prim.Native.Nat.{ℕ}
use mathlib.Core.Path.{sym, ap, ◌∙◌}
use lib.Dec.{eqb}
use borrow.Author.Tests.{eq-eqb, ne_eqb}
use Rattle.base_laws.specs.Bools.{and_fails_left, and_rest}
use Rattle.report_rows.proofs.same_position.Goals as goal

pub returns-then-word1-v : goal.returns-then-word1-v
returns-then-word1-v c = sym (and_fails_left _ (ne_eqb _ _ (λ e. c.if-word1-v.true (c.word1.ensures ∙ e))))

pub returns : goal.returns
returns c = let a = c.args in
    ap (λ (x : ℕ). eqb x a.p.k) c.word2.ensures
    ∙ and_rest _ (eq-eqb _ _ (sym c.word1.ensures ∙ c.if-word1-v.false))
