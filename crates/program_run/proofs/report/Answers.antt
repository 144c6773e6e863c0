-- `program_run::report` meets its contract. Assumes nothing.
use Rattle.program_run.specs.Steps.{settled_right, report_accepted, report_refused}
use borrow.Author.Rules.{rules}
use Rattle.program_run.proofs.report.Goals as goal

pub slice_bounds-report_under-end : goal.slice_bounds-report_under-end
slice_bounds-report_under-end c = search (rules, c.requires.stage_value.1.0)

pub report_under-outcome-requires : goal.report_under-outcome-requires
report_under-outcome-requires c = record { settings = settled_right c.args.run c.requires.stage_value.1 c.requires.stage_value.0; desk_len = c.requires.desk_len }

pub enum_told-1 : goal.enum_told-1
enum_told-1 c = search rules

pub returns-in-Accepted : goal.returns-in-Accepted
returns-in-Accepted c = report_accepted c.args.run _ _ c.report_under-outcome.result _ c.requires.stage_value.0 c.requires.stage_value.1 c.report_under-outcome.ensures.outcome c.report_under-outcome.ensures.words c.in-Accepted.is

pub returns-in-Refused : goal.returns-in-Refused
returns-in-Refused c = report_refused c.args.run _ _ c.report_under-outcome.result _ c.requires.stage_value.0 c.requires.stage_value.1 c.report_under-outcome.ensures.outcome c.report_under-outcome.ensures.words _ _ c.in-Refused.is c.closed.ensures
