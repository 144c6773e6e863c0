-- What the held reports give depends on their contents alone: desks whose held slots say the same give the same quorum, holders and
-- targets, whatever stands off the chains and in other slots.
use Rattle.std.specs.Prelude.{ℕ, ◌<◌, true, List, ◌≡◌}
use Rattle.base_laws.specs.Definitions.{has}
use Rattle.report_views.specs.Definitions.{report_of}

-- every held node's slot says the same on both desks
pub record SameReports (held : ℕ) (d e : List ℕ) : Type 0 where
  pub told : (n : ℕ) → n < 32 → has held n ≡ true → report_of d n ≡ report_of e n
