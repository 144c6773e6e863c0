-- `message_contents::contents_refusal` meets its contract: the words needed, then the head, then the records.
use Rattle.std.specs.Prelude.{refl}
use Rattle.std.proofs.Common.{ap, ◌∙◌}
use Rattle.std.proofs.lemmas.Result.{err_from_is_err_and}
use Rattle.base_ids.specs.declared.Refusal.{Refusal}
use Rattle.base_ids.specs.Definitions.{or_refusal}
use Rattle.base_ids.specs.Results.{err_is}
use Rattle.message_contents.specs.Whole.{contents_5, contents_first}
use Rattle.message_contents.specs.Ways.{refused_first, passed_first}
use Rattle.message_contents.proofs.contents_refusal.Goals as goal

pub returns-then-c-gt127 : goal.returns-then-c-gt127
returns-then-c-gt127 c = err_is _ _ _ (contents_5 _ _ _ c.if-c-gt127.true) refl

pub returns-in_err-head_refusal : goal.returns-in_err-head_refusal
returns-in_err-head_refusal c =
    let p = err_from_is_err_and c.from_residual.result c.from_residual.ensures.1 in
    rw (p.1, p.2)
    (refused_first _ _ _ _ _ c.in_err-head_refusal.ensures
    ∙ ap (λ (r : Refusal). or_refusal r tt) (contents_first _ _ _ c.if-c-gt127.false))

pub returns : goal.returns
returns c =
    c.records_refusal.ensures
    ∙ passed_first _ _ _ _ _ c.in_ok-head_refusal.ensures
    ∙ ap (λ (r : Refusal). or_refusal r tt) (contents_first _ _ _ c.if-c-gt127.false)
