-- What a C call over the planner's state finds before its event.
use Rattle.std.specs.Prelude.{ℕ, Bool, List, length}
use Rattle.base_laws.specs.Definitions.{padded}
use Rattle.base_lent.specs.Definitions.{words_in}
use Rattle.base_lent.specs.Lent.{words_within}
use Rattle.c_state_words.specs.Definitions.{is_state}
use Rattle.c_state_words.specs.StateWords.{decoded}
use Rattle.c_state.specs.declared.CallFinds.{CallFinds}
use Rattle.c_state.specs.Definitions.{entry_refused}

-- what a call finds before its event
unfoldable pub entry : Bool → Bool → List ℕ → List ℕ → CallFinds
entry allowed lengths settings state =
    record {
      refusal = entry_refused allowed lengths settings (is_state (words_in state));
      state = (decoded (words_in state)).state;
      settings = padded 52 (words_within 52 settings);
      words = length (words_within 52 settings);
    }
