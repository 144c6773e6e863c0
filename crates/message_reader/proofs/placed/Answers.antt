-- An index on the chain leads to a record inside the message, so a refusal has room for it.
use mathlib.Core.Path.{ap, ◌∙◌}
use Prim.Native.Nat.{◌/◌}
use native.Mathlib.Omega.{arith}
use Rattle.message_format.specs.Definitions.{place}
use Rattle.message_reader.specs.Walks.{place_inside}
use Rattle.message_reader.specs.Readings.{placed_told}
use Rattle.message_reader.proofs.placed.Goals as goal

pub told_at-requires : goal.told_at-requires
told_at-requires c =
    let s = c in
    let sized = s.requires.sized_message in
    let here = c.place_of-at.ensures ∙ ap (place c.args.words.now) c.wide.ensures in
    let inside = (place_inside s.args.words.now sized s.requires.words_value (s.args.refusal.code / 256) s.requires.refusal_bound).0 in
    let few = sized.few in
    record { row_bound = omega arith; i_bound = omega arith }

pub returns : goal.returns
returns c =
    c.told_at.ensures
    ∙ placed_told (place c.args.words.now) _ c.requires.refused _ (c.place_of-at.ensures ∙ ap (place c.args.words.now) c.wide.ensures)
