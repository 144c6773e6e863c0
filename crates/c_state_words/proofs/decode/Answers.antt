-- The words are a state or they are none.
use mathlib.Core.Path.{sym, ap, ◌∙◌}
use Rattle.std.specs.Prelude.{Some}
use Rattle.base_laws.specs.Options.{some_is, none_is}
use Rattle.c_state_words.specs.Laws.{stated}
use Rattle.c_state_words.proofs.decode.Goals as goal

pub returns-then-not-is_state : goal.returns-then-not-is_state
returns-then-not-is_state c = none_is _ _ (sym c.is_state.ensures ∙ c.if-not-is_state.true)

pub state_in-requires : goal.state_in-requires
state_in-requires c = (stated _ (sym c.is_state.ensures ∙ c.if-not-is_state.false)).long

pub returns : goal.returns
returns c = ap Some c.state_in.ensures ∙ some_is _ _ (sym c.is_state.ensures ∙ c.if-not-is_state.false)
