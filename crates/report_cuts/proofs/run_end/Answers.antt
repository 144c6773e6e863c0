-- `report_cuts::run_end` meets its contract: its two words are the position.
use Prim.Native.Nat.{ℕ}
use mathlib.Core.Path.{ap₂}
use Rattle.report_views.specs.Definitions.{pos}
use Rattle.report_cuts.proofs.run_end.Goals as goal

pub returns : goal.returns
returns c = ap₂ (λ (v k : ℕ). pos v k) c.word1.ensures c.word2.ensures
