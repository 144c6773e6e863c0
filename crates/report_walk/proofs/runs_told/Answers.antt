-- `report_walk::runs_told` meets its contract.
use Rattle.std.proofs.Common.{ℕ, ◌+◌, ◌*◌, ◌%◌, List, get_or, set, sym, ap, ◌∙◌, subst}
use Rattle.report_walk.specs.Seen.{RunEnds, noted_next}
use Rattle.report_walk.proofs.runs_told.Goals as goal

pub before_at-since-requires : goal.before_at-since-requires
before_at-since-requires c = (c.requires.0, c.runs_on-i.ensures.runs_on.from, c.runs_on-i.ensures.runs_on.few)

pub returns : goal.returns
returns c =
    let a = c.args in
    let i = c.runs_on-i.result in (
      c.runs_on-i.ensures.runs_on.few,
      record {
        on = c.runs_on-i.ensures.runs_on;
        last = subst (λ (x : ℕ). RunEnds x (get_or a.b.now (2 * i) 0) (get_or a.b.now (2 * i + 1) 0) a.count a.view) c.before_at-since.ensures (c.run_ends.ensures c.if-not-run_ends.false);
        list = ap (λ (x : List ℕ). set x (get_or a.b.now (2 * i) 0 % 16) i) c.runs_on-i.ensures.last_after ∙ sym (noted_next a.b.now a.last.now a.first i c.runs_on-i.ensures.runs_on.from);
      },
    )
