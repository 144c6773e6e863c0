-- `mondays_windows::put_window` meets its contract: the sum, and after it the greatest. Assumes nothing.
use mathlib.Core.List.{[], ◌∷◌}
use mathlib.Core.Path.{sym, ap}
use Rattle.program_text.specs.Puts.{then-puts, puts_as}
use Rattle.program_text.specs.Definitions.{line}
use Rattle.mondays_windows.specs.Definitions.{window_line}
use Rattle.mondays_windows.proofs.put_window.Goals as goal

pub returns : goal.returns
unfolding window_line
returns c =
    then-puts c.requires c.put_decimal-next.ensures
    (puts_as (ap (line (32 ∷ [])) (sym c.from.ensures)) c.put_line.ensures)
