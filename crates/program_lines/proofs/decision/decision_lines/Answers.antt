-- `program_lines::decision::decision_lines` meets its contract, answer by answer. Assumes nothing.
use native.Mathlib.Omega.{arith}
use Rattle.program_lines.specs.Decisions.{says_plan, says_wait, says_refused}
use borrow.Author.Rules.{rules}
use Rattle.program_lines.proofs.decision.decision_lines.Goals as goal

pub enum_told-1 : goal.enum_told-1
enum_told-1 c = search rules

pub shards-shards-requires : goal.shards-shards-requires
shards-shards-requires c = c.requires c.in-Planned.is

pub plan_lines-requires : goal.plan_lines-requires
plan_lines-requires c = omega (arith, c.shards-shards.ensures, (c.requires c.in-Planned.is).sizes.shards_to)

pub returns-in-Planned : goal.returns-in-Planned
returns-in-Planned c = says_plan _ c.in-Planned.is c.shards-shards.ensures (omega (arith, c.shards-shards.ensures, (c.requires c.in-Planned.is).sizes.shards_to)) c.plan_lines.ensures

pub returns-in-Wait : goal.returns-in-Wait
returns-in-Wait c = says_wait _ c.in-Wait.is c.wait_line.ensures

pub returns-in-Refused : goal.returns-in-Refused
returns-in-Refused c = says_refused _ c.in-Refused.is c.number_line.ensures
