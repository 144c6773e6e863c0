-- A member of an open view whose disk is lost for ever cannot be asked. Where the machines that have the view are more than half of the members
-- of the view before it, no other view stands in its place and none can: every plan from that view would have held one of them, and that one
-- would have reported without it. So it may be taken to count, and the course goes on.
use Rattle.std.specs.Prelude.{ℕ, ◌*◌, ◌<◌}
use Rattle.std.specs.Int.Bits.{bit_and}
use Rattle.base_laws.specs.Definitions.{count}
use Rattle.history_laws.specs.Definitions.{members_at}
use Rattle.history_course_laws.specs.Course.{last_of}
use Rattle.history_rule_laws.specs.Disks.{Attempt}

-- the machines that have the view are more than half of the members of the view before it
pub record MostHave {S : ℕ} (a : Attempt S) : Type 0 where
  pub most : count (members_at a.since (last_of a.since)) < 2 * count (bit_and a.have (members_at a.since (last_of a.since)))
