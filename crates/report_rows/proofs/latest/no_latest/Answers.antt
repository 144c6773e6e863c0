-- `report_rows::latest::no_latest` meets its contract: it is the definition. Assumes nothing.
use mathlib.Core.Path.{refl}
use Rattle.report_rows.specs.Definitions.{no_latest}
use Rattle.report_rows.proofs.latest.no_latest.Goals as goal

pub returns : goal.returns
unfolding no_latest
returns c = refl
