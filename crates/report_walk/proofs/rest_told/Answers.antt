-- `report_walk::rest_told` meets its contract.
use Rattle.std.proofs.Common.{◌+◌, refl, inl, inr}
use Rattle.report_walk.specs.Told.{told_more}
use Rattle.report_walk.proofs.rest_told.Goals as goal

pub returns-then-positions_told : goal.returns-then-positions_told
returns-then-positions_told c =
    told_more c.runs_after.result
    (λ i h. (h.0, record { front = c.args.count + c.args.count; ending = inr (refl, c.positions_told.ensures c.if-positions_told.true); runs = h.1 }))
    c.runs_after.ensures

pub returns : goal.returns
returns c = told_more c.runs_after-2.result (λ i h. (h.0, record { front = c.args.count; ending = inl refl; runs = h.1 })) c.runs_after-2.ensures
