-- `state_order::order_under` meets its contract. Both answers and the lent words after each follow from the rows of an event that names
-- a node: a refusal leaves the words as they were, and where there is none no row refuses the order's contents. Assumes nothing.
use mathlib.Core.Path.{refl, sym}
use Rattle.std.proofs.lemmas.Result.{err_from_is_err_and}
use borrow.Author.Tests.{eq-eqb}
use Rattle.base_ids.specs.Results.{err_code}
use Rattle.base_lent.specs.Definitions.{words_in}
use Rattle.state_planner.specs.EventLaws.{given_refusal, given_none}
use Rattle.state_order.specs.Taken.{found_refusal, taken_node, taken_holders, refused_answer, refused_words, not_refused, made_few, made_answer, made_words}
use Rattle.state_order.proofs.order_under.Goals as goal

pub returns-in_err-check_event : goal.returns-in_err-check_event
returns-in_err-check_event c =
    let s = c in
    let a = s.args in
    let p = err_from_is_err_and c.from_residual.result c.from_residual.ensures.1 in
    let k = c.in_err-check_event.ensures in
    let e = found_refusal a.settings.now a.x (words_in a.desk.now) a.node.0 a.buffer.now (eq-eqb _ _ s.requires.buffer_len) _ _ c.is_ordered-in_phase.ensures c.has-known.ensures _ (given_refusal _ _ _ k) in
    record { answer = rw (p.1, p.2) (refused_answer _ _ _ _ _ _ e (err_code _ _ _ k)); words = refused_words _ _ _ _ _ _ e (err_code _ _ _ k) }

pub order_contents-c-requires : goal.order_contents-c-requires
order_contents-c-requires c =
    let s = c in
    let a = s.args in
    let e = found_refusal a.settings.now a.x (words_in a.desk.now) a.node.0 a.buffer.now (eq-eqb _ _ s.requires.buffer_len) _ _ c.is_ordered-in_phase.ensures c.has-known.ensures _ (sym (given_none _ _ _ c.in_ok-check_event.ensures)) in
    let h = not_refused _ _ _ _ _ _ e refl in
    record { sizes = s.requires.settings.sizes; readable_slot = taken_node _ _ _ _ _ h; holders = taken_holders _ _ _ _ _ h }

pub fill-requires : goal.fill-requires
fill-requires c =
    let s = c in
    let a = s.args in
    let e = found_refusal a.settings.now a.x (words_in a.desk.now) a.node.0 a.buffer.now (eq-eqb _ _ s.requires.buffer_len) _ _ c.is_ordered-in_phase.ensures c.has-known.ensures _ (sym (given_none _ _ _ c.in_ok-check_event.ensures)) in
    (s.requires.buffer_len, made_few _ _ _ _ _ _ e refl _ c.order_contents-c.ensures)

pub returns : goal.returns
returns c =
    let s = c in
    let a = s.args in
    let e = found_refusal a.settings.now a.x (words_in a.desk.now) a.node.0 a.buffer.now (eq-eqb _ _ s.requires.buffer_len) _ _ c.is_ordered-in_phase.ensures c.has-known.ensures _ (sym (given_none _ _ _ c.in_ok-check_event.ensures)) in
    let made = c.order_contents-c.ensures in
    let filled = c.fill.ensures in record {
      answer = made_answer _ _ _ _ _ _ e refl _ made _ filled.answer;
      words = made_words _ _ _ _ _ _ e refl _ made _ filled.words;
    }
