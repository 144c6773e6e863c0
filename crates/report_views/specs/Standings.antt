-- What the held reports give as one value: the quorum, and each shard's holder and target.
use Rattle.std.specs.Prelude.{ℕ, List}
use Rattle.base_ids.specs.declared.Node.{Node}
use Rattle.base_ids.specs.declared.Position.{Position}
use Rattle.report_views.specs.declared.Layout.{Layout}
use Rattle.report_views.specs.declared.Quorum.{Quorum}
use Rattle.report_views.specs.declared.Termination.{Termination}
use Rattle.report_views.specs.Definitions.{quorum_of, holders_of, targets_of}

pub record Standing : Type 0 where
  pub quorum : Quorum
  pub holders : List Node
  pub targets : List Position

unfoldable pub standing_of : List ℕ → Layout → Termination → ℕ → List ℕ → Standing
standing_of σ v t held d =
    record {
      quorum = quorum_of σ v t held d;
      holders = holders_of σ v t held d;
      targets = targets_of σ v t held d;
    }
