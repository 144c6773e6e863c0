-- `report_walk::tables_of` meets its contract, part by part.
use Rattle.std.proofs.Common.{ℕ, refl, ◌∙◌, subst}
use Rattle.report_walk.specs.Seen.{PositionRecords}
use Rattle.report_walk.proofs.tables_of.Goals as goal

pub returns : goal.returns
returns c = let a = c.args in
    let p = c.position_records-positions in
    let all = c.wide-count.ensures ∙ c.shards.ensures in
    record {
      ready = c.ready.ensures;
      number = refl;
      members = refl;
      made = refl;
      count = all;
      masks = c.mask_records-masks.ensures;
      positions = subst (λ (x : ℕ). PositionRecords a.t.positions x p.result) all p.ensures;
    }
