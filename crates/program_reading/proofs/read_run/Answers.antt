-- `program_reading::read_run` meets its contract: where the input was cut the run stays as it is, else it is closed. Assumes nothing.
use mathlib.Core.Path.{sym, ◌∙◌}
use Rattle.program_reading.specs.Laws.{reads_ready, reads_cut, reads_closed}
use borrow.Author.Rules.{rules}
use Rattle.program_reading.proofs.read_run.Goals as goal

pub returns-then-is_cut : goal.returns-then-is_cut
returns-then-is_cut c = reads_cut c.read_all-intake.ensures (sym c.is_cut.ensures ∙ c.if-is_cut.true)

pub close-requires : goal.close-requires
close-requires c = record { ready_run = reads_ready c.read_all-intake.ensures; desk_len = search rules }

pub returns : goal.returns
returns c =
    reads_closed c.read_all-intake.ensures
    c.close.ensures
