-- Row 14 of document 01's table, after row 6.
use Rattle.std.specs.Prelude.{Bool, ℕ, List, ltb}
use Rattle.base_ids.specs.declared.Refusal.{Refusal}
use Rattle.base_ids.specs.Definitions.{none, unless}
use Rattle.settings_values.specs.Definitions.{nodes}

-- row 14, after row 6, for a node that an event names
unfoldable pub node_refusal : List ℕ → ℕ → Bool → Refusal
node_refusal σ n ok = unless (ltb n (nodes σ)) 6 (unless ok 14 none)
