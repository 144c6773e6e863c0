-- `report_kept::kept_stays` meets its contract. Assumes nothing.
use mathlib.Core.Bool.{false}
use mathlib.Core.List.{List}
use mathlib.Core.Path.{ap, ◌∙◌}
use Rattle.base_ids.specs.declared.Position.{Position}
use Rattle.base_ids.specs.Definitions.{none}
use Rattle.report_views.specs.declared.Termination.{Termination}
use Rattle.report_kept.specs.Words.{made_first}
use Rattle.report_kept.proofs.kept_stays.Goals as goal

pub returns : goal.returns
returns c =
    let a = c.args in
    ap (λ (u : Termination). record { refusal = none; node = a.node; view = a.v.number; kept = a.v; termination = u })
    (c.made_first-termination.ensures ∙ ap (λ (l : List Position). made_first a.t (record { made = false; positions = l })) c.no_positions.ensures)
