-- Each return is the case of the definition that the test picks.
use Rattle.message_flat.specs.Parted.{flag_of}
use Rattle.message_flat.proofs.to_flat.flag_of.Goals as goal

pub returns-then-ended : goal.returns-then-ended
unfolding flag_of
returns-then-ended c = simp c.if-ended.true

pub returns : goal.returns
unfolding flag_of
returns c = simp c.if-ended.false
