-- `state_planner::State::report_under` meets its contract: the outcome, and where it accepts the message is stored. Assumes nothing.
use mathlib.Core.Path.{refl, sym, ap, ◌∙◌}
use Rattle.state_planner.specs.Definitions.{reported}
use Rattle.state_planner.specs.Events.{outcome_by}
use Rattle.state_planner.specs.EventLaws.{handed_is}
use Rattle.state_planner.specs.ReportLaws.{answer_leaves, left_refused, left_accepted, reporter_told, report_small, reporter_named, stored_desk}
use borrow.Author.Rules.{rules}
use Rattle.state_planner.proofs.State.report_under.Goals as goal

pub returns-then-is_err : goal.returns-then-is_err
unfolding reported
returns-then-is_err c =
    let s = c in
    let e = c.report_by-next.ensures in
    let d = answer_leaves s.args.settings.now s.args.self s.args.desk.now s.args.message.now _ refl (left_refused s.args.settings.now s.args.self s.args.desk.now s.args.message.now c.report_by-next.result e (sym c.is_err.ensures.value ∙ c.if-is_err.true)) in
    record { outcome = c.handed_back.ensures ∙ ap (outcome_by s.args.self) e ∙ handed_is _ s.args.self _; words = d.0; bytes = d.1 }

pub bounds-message-0 : goal.bounds-message-0
bounds-message-0 c =
    let s = c in
    let e = c.report_by-next.ensures in
    search (rules, reporter_told s.args.settings.now s.args.self s.args.desk.now s.args.message.now _ refl (left_accepted s.args.settings.now s.args.self s.args.desk.now s.args.message.now c.report_by-next.result e (sym c.is_err.ensures.value ∙ c.if-is_err.false)))

pub store-requires : goal.store-requires
store-requires c =
    let s = c in
    let e = c.report_by-next.ensures in
    let yes = left_accepted s.args.settings.now s.args.self s.args.desk.now s.args.message.now c.report_by-next.result e (sym c.is_err.ensures.value ∙ c.if-is_err.false) in record { desk_len = (s.requires.desk_len, reporter_named s.args.settings.now s.args.self s.args.desk.now s.args.message.now _ refl yes s.requires.settings); message_len_bound = report_small s.args.settings.now s.args.self s.args.desk.now s.args.message.now _ refl yes }

pub returns : goal.returns
unfolding reported
returns c =
    let s = c in
    let e = c.report_by-next.ensures in
    let d = stored_desk s.args.settings.now s.args.self s.args.desk.now s.args.message.now _ refl (left_accepted s.args.settings.now s.args.self s.args.desk.now s.args.message.now c.report_by-next.result e (sym c.is_err.ensures.value ∙ c.if-is_err.false)) _ (c.store.ensures.words, c.store.ensures.bytes) in
    record { outcome = c.handed_back-2.ensures ∙ ap (outcome_by s.args.self) e ∙ handed_is _ s.args.self _; words = d.0; bytes = d.1 }
