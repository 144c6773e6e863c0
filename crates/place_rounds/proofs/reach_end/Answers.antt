-- `place_rounds::reach_end` meets its contract: the first of least weight is where rounds enough end, and a subgroup without shards has nothing
-- to place. Assumes nothing.
use Prim.Native.Nat.{ℕ}
use mathlib.Core.List.{List}
use mathlib.Core.Path.{refl, sym, ◌∙◌, subst}
use lib.ListN.{get_or}
use Rattle.std.proofs.Common.{Some, None}
use Rattle.base_laws.specs.Bools.{clash}
use Rattle.search_laws.specs.Case.{Case}
use Rattle.search_laws.specs.Tables.{case_of}
use Rattle.search_laws.specs.Floor.{SheetFor}
use Rattle.search_total.specs.Post.{LeastAnswer, as_solution}
use Rattle.place_groups.specs.Sheet.{sheet_of}
use Rattle.place_rounds.specs.Tables.{floor_told}
use Rattle.place_rounds.specs.Turns.{round_tables}
use Rattle.place_rounds.specs.Ends.{sheet_round, never_least, ended_least, ended_none}
use Rattle.place_rounds.proofs.reach_end.Goals as goal

pub returns-then-not-has_shards : goal.returns-then-not-has_shards
returns-then-not-has_shards c =
    let m = c in
    let a = m.args in
    let h = c.has_shards in
    record {
      ended = λ e. ended_none a.settings.now a.held (λ s. get_or a.old.now s 0) a.g m.requires.settings (sym h.ensures ∙ c.if-not-has_shards.true) _;
      none = λ e. clash refl e;
    }

pub least-requires : goal.least-requires
least-requires c =
    let m = c in
    let a = m.args in
    let p = m.requires in
    let o : ℕ → ℕ = λ s. get_or a.old.now s 0 in
    let n = c.needs-needs in
    let x = c.sets-sets in
    let y = c.caps-caps in
    let t = c.repriced_table-counted in
    let i = round_tables a.settings.now a.held o a.g 1 x.ensures n.ensures y.ensures c.costs-costs.ensures in
    subst (SheetFor (case_of x.result n.result y.result t.result 0)) (sym p.sheet_value)
    (subst (λ (q : List ℕ). SheetFor (case_of x.result n.result y.result q 0) (sheet_of a.settings.now a.held o)) (sym t.ensures)
    (subst (λ (K : Case). SheetFor K (sheet_of a.settings.now a.held o)) (sym i) (sheet_round a.settings.now a.held o a.g p.settings p.held_bound)))

pub returns-in-None : goal.returns-in-None
returns-in-None c =
    let m = c in
    let a = m.args in
    let p = m.requires in
    let o : ℕ → ℕ = λ s. get_or a.old.now s 0 in
    let n = c.needs-needs in
    let x = c.sets-sets in
    let y = c.caps-caps in
    let t = c.repriced_table-counted in
    let i = round_tables a.settings.now a.held o a.g 1 x.ensures n.ensures y.ensures c.costs-costs.ensures in
    let k = subst (λ (K : Case). LeastAnswer K (as_solution None)) i (subst (λ (q : List ℕ). LeastAnswer (case_of x.result n.result y.result q 0) (as_solution None)) t.ensures c.in-None.ensures) in
    record {
      ended = λ e. clash e refl;
      none = λ e. never_least a.settings.now a.held o a.g p.settings p.held_bound (as_solution None) k refl;
    }

pub returns-in-Some : goal.returns-in-Some
returns-in-Some c =
    let m = c in
    let a = m.args in
    let p = m.requires in
    let o : ℕ → ℕ = λ s. get_or a.old.now s 0 in
    let n = c.needs-needs in
    let x = c.sets-sets in
    let y = c.caps-caps in
    let t = c.repriced_table-counted in
    let i = round_tables a.settings.now a.held o a.g 1 x.ensures n.ensures y.ensures c.costs-costs.ensures in
    let k = subst (λ (K : Case). LeastAnswer K (as_solution (Some c.in-Some.best))) i (subst (λ (q : List ℕ). LeastAnswer (case_of x.result n.result y.result q 0) (as_solution (Some c.in-Some.best))) t.ensures c.in-Some.ensures) in
    let f = c.floor-floor in
    record {
      ended = λ e.
          ended_least a.settings.now a.held o a.g p.settings p.held_bound (as_solution (Some c.in-Some.best)) k refl f.result
          (floor_told a.settings.now a.held o a.g p.settings p.held_bound n.result a.sheet.now f.result n.ensures p.sheet_value f.ensures);
      none = λ e. clash refl e;
    }
