-- Every call of the planner is an event, by its own promise: what it did is told by what it hands back. An order, and every call that only
-- looks, leaves the state: nothing happened.
use Rattle.std.specs.Prelude.{ℕ, List, [], ◌∷◌}
use Rattle.state_planner.specs.declared.State.{State}
use Rattle.state_laws.specs.Reached as reached
use Rattle.state_laws.specs.Reached.{Reached}
use Rattle.state_commit_laws.specs.Events as events
use Rattle.state_commit_laws.specs.Events.{Deed, happened_by}

-- ---- the states that are reached

module _ (σ : List ℕ) where
  -- what happened on the way, the latest first
  unfoldable pub happened_on : {x : State} {d : List ℕ} → Reached σ x d → List Deed
  happened_on (reached.starting d s l) = []
  happened_on (reached.reporting x d w r h) = events.Appeared ∷ happened_on r
  happened_on (reached.dropping x d n r h) = events.DropDone ∷ happened_on r
  happened_on (reached.deciding x d a r h w) = happened_by a.decision ∷ happened_on r
  happened_on (reached.improving x d n a r h w) = happened_by a.decision ∷ happened_on r
  happened_on (reached.fetching x d n r h) = events.Fetched n ∷ happened_on r
  happened_on (reached.preparing x d n r h) = events.PrepareDone n ∷ happened_on r
