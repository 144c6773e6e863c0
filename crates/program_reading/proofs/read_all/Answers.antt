-- `program_reading::read_all` meets its contract. The loop's invariant: reads, one after another, have led here. Assumes nothing.
use mathlib.Core.Path.{refl, sym, ◌∙◌}
use Rattle.program_input.specs.Definitions.{may_come}
use Rattle.program_input.specs.Inputs.{reads_fall}
use Rattle.program_run.specs.Definitions.{closed_at}
use Rattle.program_reading.specs.Laws.{fed_first, fed_then, going_open}
use Rattle.program_reading.proofs.read_all.Goals as goal

pub loop-buffer-init : goal.loop-buffer-init
loop-buffer-init c = (fed_first c.requires.bytes_len c.start.ensures c.start-2.ensures, refl)

pub turn-intake-requires : goal.turn-intake-requires
turn-intake-requires c = record { ready_run = c.loop-buffer.invariant.0.feeds.ready; desk_len = c.loop-buffer.invariant.1 ∙ c.requires.desk_len }

pub loop-buffer-smaller : goal.loop-buffer-smaller
loop-buffer-smaller c =
    reads_fall _ _ _
    (going_open (closed_at c.loop-buffer.intake.run.stage) (may_come c.loop-buffer.intake.input.source)
    (sym c.is_going_on.ensures ∙ c.loop-buffer-test.true))
    c.turn-intake.ensures.reads

pub loop-buffer-preserved : goal.loop-buffer-preserved
loop-buffer-preserved c = (
  fed_then c.loop-buffer.invariant.0 c.turn-intake.ensures,
  c.turn-intake.auto.desk ∙ c.loop-buffer.invariant.1,
)

pub returns : goal.returns
returns c = record { fed = c.loop-buffer.invariant.0; ended = sym c.is_going_on.ensures ∙ c.loop-buffer-test.false }
