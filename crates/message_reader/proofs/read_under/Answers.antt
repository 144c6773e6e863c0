-- Each way out is a row of the list: what was found on the way there is what the law for that row asks.
use mathlib.Core.Path.{sym, ap, ◌∙◌}
use Rattle.std.proofs.lemmas.Result.{err_from_is_err_and}
use Rattle.base_ids.specs.Definitions.{accepted}
use Rattle.base_ids.specs.Results.{ok_none, err_value, err_refused}
use Rattle.message_reader.specs.Walks.{row5_gives}
use Rattle.message_reader.specs.Readings.{chain_linked, records_few, reading_length, reading_head, reading_chain, reading_placed, reading_records, contents_few}
use Rattle.message_reader.proofs.read_under.Goals as goal

pub returns-then-not-length_ok : goal.returns-then-not-length_ok
returns-then-not-length_ok c = reading_length _ _ _ (sym c.length_ok.ensures ∙ c.if-not-length_ok.true)

pub head_of-requires : goal.head_of-requires
head_of-requires c = record { settings = c.requires; sized_message = row5_gives _ (sym c.length_ok.ensures ∙ c.if-not-length_ok.false) }

pub returns-in_err-head_of : goal.returns-in_err-head_of
returns-in_err-head_of c =
    let p = err_from_is_err_and c.from_residual.result c.from_residual.ensures.1 in
    rw (p.1, p.2) (reading_head _ _ _ (sym c.length_ok.ensures ∙ c.if-not-length_ok.false) _ c.in_err-head_of.ensures)

pub chain_refusal-requires : goal.chain_refusal-requires
chain_refusal-requires c = row5_gives _ (sym c.length_ok.ensures ∙ c.if-not-length_ok.false)

pub returns-in_err-chain_refusal : goal.returns-in_err-chain_refusal
returns-in_err-chain_refusal c =
    let p = err_from_is_err_and c.from_residual-in_err-chain_refusal.result c.from_residual-in_err-chain_refusal.ensures.1 in
    rw (p.1, p.2)
    (reading_chain _ _ _ (sym c.length_ok.ensures ∙ c.if-not-length_ok.false) c.in_ok-head_of.ensures _ c.in_err-chain_refusal.ensures)

pub contents_of-c-requires : goal.contents_of-c-requires
contents_of-c-requires c =
    record {
      sized_message = row5_gives _ (sym c.length_ok.ensures ∙ c.if-not-length_ok.false);
      words_value = chain_linked _ (ok_none _ _ _ c.in_ok-chain_refusal.ensures);
    }

pub records_refusal-requires : goal.records_refusal-requires
records_refusal-requires c = record { settings = c.requires; len_bound = contents_few _ _ c.contents_of-c.ensures }

pub placed-requires : goal.placed-requires
placed-requires c =
    let e = err_value _ _ _ c.in-Err.ensures in
    record {
      sized_message = row5_gives _ (sym c.length_ok.ensures ∙ c.if-not-length_ok.false);
      words_value = chain_linked _ (ok_none _ _ _ c.in_ok-chain_refusal.ensures);
      refused = ap accepted e ∙ err_refused _ _ _ c.in-Err.ensures;
      refusal_bound = records_few _ _ _ _ _ c.contents_of-c.ensures e;
    }

pub returns-in-Ok : goal.returns-in-Ok
returns-in-Ok c =
    reading_records _ _ _ (sym c.length_ok.ensures ∙ c.if-not-length_ok.false) c.in_ok-head_of.ensures
    (chain_linked _ (ok_none _ _ _ c.in_ok-chain_refusal.ensures)) _ c.contents_of-c.ensures c.in-Ok.ensures

pub returns-in-Err : goal.returns-in-Err
returns-in-Err c =
    reading_placed _ _ _ (sym c.length_ok.ensures ∙ c.if-not-length_ok.false) c.in_ok-head_of.ensures
    (chain_linked _ (ok_none _ _ _ c.in_ok-chain_refusal.ensures)) _ c.contents_of-c.ensures _ _ c.in-Err.ensures c.placed.ensures
