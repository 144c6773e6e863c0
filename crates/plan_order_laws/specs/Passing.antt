-- An order passes rows 9, 16, 17, 10 and 11 where its masks pass row 10, targets and cuts are positions before its view, and holders are
-- among its members. Rows 9, 16 and 17 go by the parts of the order, rows 10 and 11 by what each part says.
use Rattle.std.specs.Prelude.{ℕ, ◌<◌, List, ◌≡◌}
use Rattle.std.proofs.Math.Bool.{true}
use Rattle.base_laws.specs.Definitions.{has}
use Rattle.settings_values.specs.Definitions.{shards}
use Rattle.message_format.specs.Definitions.{row10, is_position}
use Rattle.plan_order_laws.specs.Parts.{OrderSays, carries_by}

-- what the masks, targets, holders and cuts are to be for an order of a view to a node
pub record Fitting (σ : List ℕ) (node view members : ℕ) (a : OrderSays) : Type 0 where
  pub masks_fit : row10 σ members a.members ≡ true
  pub target_legal : (s : ℕ) → s < shards σ → is_position (a.target s).view.0 (a.target s).k ≡ true
  pub target_earlier : (s : ℕ) → s < shards σ → (a.target s).view.0 < view
  pub holder_node : (s : ℕ) → s < shards σ → a.holder s < 32
  pub holder_member : (s : ℕ) → s < shards σ → has members (a.holder s) ≡ true
  pub cut_legal : (s : ℕ) → s < shards σ → carries_by a node s ≡ true → is_position (a.cut s).view.0 (a.cut s).k ≡ true
  pub cut_earlier : (s : ℕ) → s < shards σ → carries_by a node s ≡ true → (a.cut s).view.0 < view
