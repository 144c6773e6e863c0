-- `message_reader::head_of` meets its contract: the head's words are those that the reader reaches. Assumes nothing.
use mathlib.Core.Path.{ap, ◌∙◌}
use Rattle.base_ids.specs.Definitions.{or_refusal}
use Rattle.message_format.specs.Definitions.{head_refusal}
use Rattle.message_chain.specs.declared.Record.{Record}
use Rattle.message_reader.specs.Bodies.{head_words}
use Rattle.message_reader.proofs.head_of.Goals as goal

pub returns : goal.returns
returns c =
    c.head_refusal.ensures
    ∙ ap (λ (h : Record). or_refusal (head_refusal c.args.form c.args.settings.now h.word0 h.word1 h.word2) tt)
    (head_words c.args.words.now _ c.requires.sized_message c.step_from-first.ensures)
