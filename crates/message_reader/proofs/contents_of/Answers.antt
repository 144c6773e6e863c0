-- At the loop's head the records so far stand in the body, and the next one is at hand (`Gathering`). While the chain goes
-- on there is room for it, since at most 127 records follow the head. At the end of the chain the body is the message's.
use native.Mathlib.Omega.{arith}
use Rattle.message_format.specs.Chain.{following_le}
use Rattle.message_reader.specs.Bodies.{gathering_start, gathering_room, gathering_more, gathering_contents}
use Rattle.message_reader.proofs.contents_of.Goals as goal

pub loop-at-init : goal.loop-at-init
loop-at-init c = gathering_start _ _ c.step_from-first.ensures

pub store-requires : goal.store-requires
store-requires c =
    let r = gathering_room _ _ _ _ c.requires.sized_message c.requires.words_value c.loop-at.invariant c.loop-at-test.true in
    omega (arith, following_le c.args.words.now)

pub overflow_add-len : goal.overflow_add-len
overflow_add-len c =
    let r = gathering_room _ _ _ _ c.requires.sized_message c.requires.words_value c.loop-at.invariant c.loop-at-test.true in
    omega (arith, following_le c.args.words.now)

pub loop-at-smaller : goal.loop-at-smaller
loop-at-smaller c = let r = gathering_room _ _ _ _ c.requires.sized_message c.requires.words_value c.loop-at.invariant c.loop-at-test.true in omega arith

pub loop-at-preserved : goal.loop-at-preserved
loop-at-preserved c =
    let p = c.requires in
    let l = c.loop-at in
    gathering_more _ _ _ _ p.sized_message p.words_value l.invariant c.loop-at-test.true _ _
    c.store.ensures c.step_from-found.ensures

pub returns : goal.returns
returns c =
    let p = c.requires in
    gathering_contents _ _ _ _ p.sized_message p.words_value c.loop-at.invariant c.loop-at-test.false _ c.step_from-first.ensures
