-- `state_rows::sound_plan::matches` meets its contract: test by test. Assumes nothing.
use mathlib.Core.Path.{sym}
use Rattle.state_rows.specs.Matches.{matches}
use Rattle.state_rows.proofs.sound_plan.matches.Goals as goal

pub returns-then-not-is_met : goal.returns-then-not-is_met
unfolding matches
returns-then-not-is_met c = simp (sym c.quorum-quorum.ensures, sym c.is_met.ensures, c.if-not-is_met.true)

pub returns-then-not-follows : goal.returns-then-not-follows
unfolding matches
returns-then-not-follows c = simp (sym c.quorum-quorum.ensures, sym c.is_met.ensures, c.if-not-is_met.false, sym c.follows.ensures, c.if-not-follows.true)

pub returns-then-not-layout_tidy : goal.returns-then-not-layout_tidy
unfolding matches
returns-then-not-layout_tidy c = simp (sym c.quorum-quorum.ensures, sym c.is_met.ensures, c.if-not-is_met.false, sym c.follows.ensures, c.if-not-follows.false, sym c.layout_tidy.ensures, c.if-not-layout_tidy.true)

pub returns-then-not-same_shards : goal.returns-then-not-same_shards
unfolding matches
returns-then-not-same_shards c = simp (sym c.quorum-quorum.ensures, sym c.is_met.ensures, c.if-not-is_met.false, sym c.follows.ensures, c.if-not-follows.false, sym c.layout_tidy.ensures, c.if-not-layout_tidy.false, sym c.same_shards.ensures, c.if-not-same_shards.true)

pub returns-then-not-groups_valid : goal.returns-then-not-groups_valid
unfolding matches
returns-then-not-groups_valid c = simp (sym c.quorum-quorum.ensures, sym c.is_met.ensures, c.if-not-is_met.false, sym c.follows.ensures, c.if-not-follows.false, sym c.layout_tidy.ensures, c.if-not-layout_tidy.false, sym c.same_shards.ensures, c.if-not-same_shards.false, sym c.groups_valid.ensures, c.if-not-groups_valid.true)

pub returns : goal.returns
unfolding matches
returns c = simp (sym c.quorum-quorum.ensures, sym c.is_met.ensures, c.if-not-is_met.false, sym c.follows.ensures, c.if-not-follows.false, sym c.layout_tidy.ensures, c.if-not-layout_tidy.false, sym c.same_shards.ensures, c.if-not-same_shards.false, sym c.groups_valid.ensures, c.if-not-groups_valid.false, sym c.all_moves.ensures)
