-- What decoding 160 words gives.
use Rattle.std.specs.Prelude.{ℕ, true, false, cond, List}
use Rattle.state_planner.specs.Definitions.{fresh}
use Rattle.c_state_words.specs.declared.DecodedState.{DecodedState}
use Rattle.c_state_words.specs.Definitions.{is_state, state_in}

-- ---- the state that words say

-- whether words are a state, and the state; the fresh state where they are none
unfoldable pub decoded : List ℕ → DecodedState
decoded w = cond (is_state w) (record { ok = true; state = state_in w }) (record { ok = false; state = fresh })
