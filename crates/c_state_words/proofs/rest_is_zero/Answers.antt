-- At the loop's head the first k of the words that carry nothing are zero.
use mathlib.Core.Path.{sym}
use native.Mathlib.Omega.{arith}
use borrow.Author.Tests.{eq-eqb, ne_eqb}
use Rattle.base_laws.specs.Below.{all_none}
use Rattle.base_laws.proofs.Below.{all_more, all_fails, all_fewer}
use Rattle.c_state_words.specs.Definitions.{rest_zero}
use Rattle.c_state_words.proofs.rest_is_zero.Goals as goal

pub loop-k-init : goal.loop-k-init
loop-k-init c = all_none _

pub returns-then-words-k-ne0 : goal.returns-then-words-k-ne0
unfolding rest_zero
returns-then-words-k-ne0 c = sym (all_fails 6 _ c.loop-k.k (omega arith) (ne_eqb _ _ c.if-words-k-ne0.true))

pub loop-k-preserved : goal.loop-k-preserved
loop-k-preserved c = all_more _ _ c.loop-k.invariant (eq-eqb _ _ c.if-words-k-ne0.false)

pub returns : goal.returns
unfolding rest_zero
returns c = sym (all_fewer 6 c.loop-k.k _ (omega arith) c.loop-k.invariant)
