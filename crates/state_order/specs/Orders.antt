-- Rows 1 and 2 of the order event.
use Rattle.std.specs.Prelude.{ℕ, List, eqb, length}
use Rattle.base_ids.specs.declared.Refusal.{Refusal}
use Rattle.base_ids.specs.Definitions.{unless}
use Rattle.state_planner.specs.Refusing.{call_refusal}

-- rows 1 and 2: the buffer's length and the desk's, and the settings
unfoldable pub call_refuses : List ℕ → List ℕ → List ℕ → Refusal
call_refuses σ d buffer = unless (eqb (length buffer) 512) 1 (call_refusal σ d)
