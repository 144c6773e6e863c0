-- `place_layout::with_node` meets its contract: the test, taken or not. Assumes nothing.
use mathlib.Core.Path.{sym, ap, ◌∙◌}
use mathlib.Core.Bool.{Bool, cond}
use borrow.Author.Tests.{eq-eqb, ne_eqb}
use Rattle.base_laws.specs.Definitions.{with}
use Rattle.place_layout.proofs.with_node.Goals as goal

pub returns-then-owner-s : goal.returns-then-owner-s
returns-then-owner-s c =
    let a = c.args in
    c.with.ensures ∙ sym (ap (λ (b : Bool). cond b (with a.mask a.n.0) a.mask) (eq-eqb a.owner a.s.0 c.if-owner-s.true))

pub returns : goal.returns
returns c =
    let a = c.args in sym (ap (λ (b : Bool). cond b (with a.mask a.n.0) a.mask) (ne_eqb a.owner a.s.0 c.if-owner-s.false))
