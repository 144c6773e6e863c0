-- `c_views::open_view` meets its contract: the word of what is found.
use mathlib.Core.Path.{ap, ◌∙◌}
use Rattle.c_views.specs.Definitions.{finding_word, open_view_answer}
use Rattle.c_views.proofs.open_view.Goals as goal

pub returns : goal.returns
unfolding open_view_answer
returns c = c.finding_word.ensures ∙ ap finding_word c.judge.ensures
