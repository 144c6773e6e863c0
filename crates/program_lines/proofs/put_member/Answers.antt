-- `program_lines::put_member` meets its contract: the node if the mask has it, and else nothing. Assumes nothing.
use mathlib.Core.Path.{sym, ◌∙◌}
use Rattle.program_text.specs.Puts.{puts_as, puts_none}
use Rattle.program_lines.specs.Members.{member_in, member_out}
use Rattle.program_lines.proofs.put_member.Goals as goal

pub returns-then-has : goal.returns-then-has
returns-then-has c = puts_as (member_in _ _ (sym c.has.ensures ∙ c.if-has.true)) c.put_field.ensures

pub returns : goal.returns
returns c = puts_as (member_out _ _ (sym c.has.ensures ∙ c.if-has.false)) (puts_none _ _ c.requires.at_in_bounds)
