-- `state_order::order` meets its contract: rows 1 and 2, then the rest. Assumes nothing.
use Rattle.std.proofs.lemmas.Result.{err_from_is_err_and}
use Rattle.base_lent.specs.Definitions.{words_in}
use Rattle.base_ids.specs.Results.{ok_none, err_value, err_code}
use Rattle.report_desk.specs.Bytes.{desk_bytes}
use Rattle.state_order.specs.Taken.{called_refuses, called_buffer, called_words, called_right, refused_answer, refused_words}
use Rattle.state_order.proofs.order.Goals as goal

pub returns-in_err-call_refusal : goal.returns-in_err-call_refusal
returns-in_err-call_refusal c =
    let a = c.args in
    let p = err_from_is_err_and c.from_residual.result c.from_residual.ensures.1 in
    let f = c.in_err-call_refusal.ensures in
    let bad = err_code _ _ _ f in
    let e = called_refuses a.settings.now a.x (words_in a.desk.now) a.node.0 a.buffer.now _ (err_value _ _ _ f) bad in
    (record { answer = rw (p.1, p.2) (refused_answer _ _ _ _ _ _ e bad); words = refused_words _ _ _ _ _ _ e bad })

pub order_under-requires : goal.order_under-requires
order_under-requires c =
    let a = c.args in
    let passed = ok_none _ _ _ c.in_ok-call_refusal.ensures in
    record { settings = called_right _ _ _ passed; desk_len = desk_bytes a.desk.now (called_words _ _ _ passed); buffer_len = called_buffer _ _ _ passed }

pub returns : goal.returns
returns c = c.order_under.ensures
