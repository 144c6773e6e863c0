-- Bytes of another length are no state, and 640 bytes are 160 words.
use mathlib.Core.Path.{ap, ◌∙◌}
use mathlib.Core.List.{List}
use Prim.Native.Nat.{ℕ}
use Rattle.base_laws.specs.Options.{some_if, none_is}
use Rattle.base_lent.specs.Lent.{all_words}
use Rattle.c_state_words.specs.Definitions.{is_state, state_in}
use Rattle.c_state.specs.Definitions.{state_lent}
use Rattle.c_state.specs.CallLaws.{no_state_lent}
use Rattle.c_state.proofs.decode_state.Goals as goal

pub returns-then-bytes-ne640 : goal.returns-then-bytes-ne640
returns-then-bytes-ne640 c = none_is _ _ (no_state_lent _ c.if-bytes-ne640.true)

pub returns : goal.returns
unfolding state_lent
returns c =
    c.decode-2.ensures ∙ ap (λ (w : List ℕ). some_if (is_state w) (state_in w)) (c.decode.ensures ∙ all_words _ 160 c.if-bytes-ne640.false)
