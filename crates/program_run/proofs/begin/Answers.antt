-- `program_run::begin` meets its contract: settings that are refused, and right ones. Assumes nothing.
use mathlib.Core.Path.{sym, ◌∙◌}
use Rattle.program_run.specs.Steps.{settings_size, open_refused, open_accepted}
use Rattle.program_run.proofs.begin.Goals as goal

pub returns-then-not-check : goal.returns-then-not-check
returns-then-not-check c = open_refused c.args.run _ _ c.requires (sym c.check.ensures ∙ c.if-not-check.true) c.closed.ensures

pub padded-requires : goal.padded-requires
padded-requires c = settings_size _ (sym c.check.ensures ∙ c.if-not-check.false)

pub returns : goal.returns
returns c = open_accepted c.args.run _ _ _ (sym c.check.ensures ∙ c.if-not-check.false) c.fresh.ensures c.padded.ensures
