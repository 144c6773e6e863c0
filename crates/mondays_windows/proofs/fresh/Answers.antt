-- `mondays_windows::fresh` meets its contract. Assumes nothing.
use Prim.Native.Nat.{ℕ}
use mathlib.Core.Path.{ap₂}
use Rattle.mondays_windows.proofs.fresh.Goals as goal

pub returns : goal.returns
returns c = ap₂ (λ (s g : ℕ). record { sum = s; greatest = g }) c.sum_of.ensures c.greatest_of.ensures
