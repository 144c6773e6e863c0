-- The parts are those of the definition.
use mathlib.Core.Bool.{Bool}
use mathlib.Core.Path.{ap, ◌∙◌}
use Rattle.base_ids.specs.Definitions.{none, unless}
use Rattle.c_state.specs.CallLaws.{entry_of}
use Rattle.c_state.proofs.enter.Goals as goal

pub returns : goal.returns
returns c =
    rw c.unwrap_or.ensures
    (entry_of _ _ _ _ c.decode_state-lent.result c.decode_state-lent.ensures _ c.fresh.ensures _ _ c.settings_of-own.ensures _ c.check-right.ensures
    _ (c.entry_refusal-refusal.ensures ∙ ap (λ (b : Bool). unless c.args.lengths 1 (unless c.check-right.result 2 (unless c.args.allowed 15 (unless b 3 none)))) c.is_some.ensures))
