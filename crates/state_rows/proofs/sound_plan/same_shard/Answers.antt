-- `state_rows::sound_plan::same_shard` meets its contract: the three tests as the definition has them. Assumes nothing.
use borrow.Author.Tests.{eq-eqb, ne_eqb}
use Rattle.state_rows.proofs.sound_plan.same_shard.Goals as goal

pub returns-then-holder-other : goal.returns-then-holder-other
returns-then-holder-other c = simp (ne_eqb _ _ c.if-holder-other.true)

pub returns-then-v-w : goal.returns-then-v-w
returns-then-v-w c = simp (eq-eqb _ _ c.if-holder-other.false, ne_eqb _ _ c.if-v-w.true)

pub returns : goal.returns
returns c = simp (eq-eqb _ _ c.if-holder-other.false, eq-eqb _ _ c.if-v-w.false)
