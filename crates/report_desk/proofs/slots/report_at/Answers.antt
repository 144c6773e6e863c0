-- `report_desk::slots::report_at` meets its contract: the words are the slot's, and can be read.
use mathlib.Core.Path.{ap, ◌∙◌}
use Rattle.base_lent.specs.Definitions.{words_in}
use Rattle.message_format.specs.Definitions.{contents_of}
use Rattle.report_views.specs.Definitions.{report_of}
use Rattle.report_desk.specs.Bytes.{desk_length}
use Rattle.report_desk.specs.SlotsOf.{slot_as}
use Rattle.report_desk.proofs.slots.report_at.Goals as goal

pub contents_of-requires : goal.contents_of-requires
contents_of-requires c =
    let s = c in
    let all = slot_as (words_in s.args.desk.now) s.args.node.0 (desk_length s.args.desk.now s.requires.desk_len.0) s.requires.desk_len.1 s.requires.node_value c.slot_words-words.ensures in
    record { sized_message = all.0; words_value = all.1 }

pub returns : goal.returns
unfolding report_of
returns c = c.contents_of.ensures ∙ ap contents_of c.slot_words-words.ensures
