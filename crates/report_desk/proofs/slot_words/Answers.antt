-- `report_desk::slot_words` meets its contract: the part that is lent is the slot's bytes.
use mathlib.Core.Path.{◌∙◌}
use Rattle.report_desk.specs.Bytes.{slot_bytes}
use Rattle.report_desk.proofs.slot_words.Goals as goal

pub returns : goal.returns
returns c =
    let s = c in
    c.decode.ensures ∙ slot_bytes s.args.desk.now s.requires.0 s.args.node.0 s.requires.1
