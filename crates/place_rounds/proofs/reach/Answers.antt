-- `place_rounds::reach` meets its contract: the start is the first of all, the rounds go on from it, and a subgroup without shards has nothing
-- to place. Assumes nothing.
use Prim.Native.Nat.{ℕ}
use Rattle.std.proofs.Common.{Some, None}
use mathlib.Core.Path.{refl, sym, ◌∙◌, subst}
use lib.ListN.{get_or}
use Rattle.base_laws.specs.Bools.{clash}
use Rattle.search_laws.specs.Case.{Case}
use Rattle.search_total.specs.Post.{WithinAnswer, as_solution}
use Rattle.search_rounds.specs.Post.{Low, Weighed, Improved, as_improvement}
use Rattle.place_rounds.specs.Tables.{round_case, floor_told}
use Rattle.place_rounds.specs.Turns.{round_tables, low_floor, never_placed, start_weighed, reached_start, reached_better, reached_none}
use Rattle.place_rounds.proofs.reach.Goals as goal

pub returns-then-not-has_shards : goal.returns-then-not-has_shards
returns-then-not-has_shards c =
    let m = c in
    let a = m.args in
    let h = c.has_shards in
    record {
      reached = λ e.
          reached_none a.settings.now a.held (λ s. get_or a.old.now s 0) a.g m.requires.settings (sym h.ensures ∙ c.if-not-has_shards.true) a.rounds _;
      none = λ e. clash refl e;
    }

pub returns-in-None : goal.returns-in-None
returns-in-None c =
    let m = c in
    let a = m.args in
    let p = m.requires in
    let o : ℕ → ℕ = λ s. get_or a.old.now s 0 in
    let n = c.needs-needs in
    let t = round_tables a.settings.now a.held o a.g 0 c.sets-sets.ensures n.ensures c.caps-caps.ensures c.costs-costs.ensures in
    let k = subst (λ (K : Case). WithinAnswer K 0 (as_solution None)) t c.in-None.ensures in
    record {
      reached = λ e. clash e refl;
      none = λ e. never_placed a.settings.now a.held o a.g p.settings p.held_bound (as_solution None) k refl;
    }

pub returns-then-rounds-eq0 : goal.returns-then-rounds-eq0
returns-then-rounds-eq0 c =
    let m = c in
    let a = m.args in
    let p = m.requires in
    let o : ℕ → ℕ = λ s. get_or a.old.now s 0 in
    let n = c.needs-needs in
    let t = round_tables a.settings.now a.held o a.g 0 c.sets-sets.ensures n.ensures c.caps-caps.ensures c.costs-costs.ensures in
    let k = subst (λ (K : Case). WithinAnswer K 0 (as_solution (Some c.in-Some.first))) t c.in-Some.ensures in
    let f = c.floor-floor in
    record {
      reached = λ e.
          reached_start a.settings.now a.held o a.g p.settings p.held_bound (as_solution (Some c.in-Some.first)) k refl a.rounds f.result c.if-rounds-eq0.true
          (floor_told a.settings.now a.held o a.g p.settings p.held_bound n.result a.sheet.now f.result n.ensures p.sheet_value f.ensures);
      none = λ e. clash refl e;
    }

pub moves_of-weight-requires : goal.moves_of-weight-requires
moves_of-weight-requires c = c.requires.settings

pub onward-best-requires : goal.onward-best-requires
onward-best-requires c =
    let m = c in
    let a = m.args in
    let p = m.requires in
    let o : ℕ → ℕ = λ s. get_or a.old.now s 0 in
    let n = c.needs-needs in
    let t = round_tables a.settings.now a.held o a.g 0 c.sets-sets.ensures n.ensures c.caps-caps.ensures c.costs-costs.ensures in
    let i = round_tables a.settings.now a.held o a.g 1 c.sets-sets.ensures n.ensures c.caps-caps.ensures c.costs-costs.ensures in
    let k = subst (λ (K : Case). WithinAnswer K 0 (as_solution (Some c.in-Some.first))) t c.in-Some.ensures in
    let f = c.floor-floor in
    let v = c.moves_of-weight in
    let l = floor_told a.settings.now a.held o a.g p.settings p.held_bound n.result a.sheet.now f.result n.ensures p.sheet_value f.ensures in record {
      low = subst (λ (K : Case). Low K f.result) (sym i)
          (subst (Low (round_case a.settings.now a.held o a.g 1)) (sym l) (low_floor a.settings.now a.held o a.g p.settings p.held_bound));
      weighed = subst (λ (K : Case). Weighed K (as_solution (Some (record { weight = v.result; owners = c.in-Some.first.owners })))) (sym i)
          (start_weighed a.settings.now a.held o a.g p.settings p.held_bound (as_solution (Some c.in-Some.first)) k refl v.result v.ensures);
    }

pub returns-else-rounds-eq0 : goal.returns-else-rounds-eq0
returns-else-rounds-eq0 c =
    let m = c in
    let a = m.args in
    let p = m.requires in
    let o : ℕ → ℕ = λ s. get_or a.old.now s 0 in
    let n = c.needs-needs in
    let t = round_tables a.settings.now a.held o a.g 0 c.sets-sets.ensures n.ensures c.caps-caps.ensures c.costs-costs.ensures in
    let i = round_tables a.settings.now a.held o a.g 1 c.sets-sets.ensures n.ensures c.caps-caps.ensures c.costs-costs.ensures in
    let k = subst (λ (K : Case). WithinAnswer K 0 (as_solution (Some c.in-Some.first))) t c.in-Some.ensures in
    let f = c.floor-floor in
    let v = c.moves_of-weight in
    let b = c.onward-best in
    record {
      reached = λ e.
          reached_better a.settings.now a.held o a.g p.settings p.held_bound (as_solution (Some c.in-Some.first)) k refl a.rounds v.result f.result (as_improvement b.result)
          (subst (λ (K : Case). Improved K a.rounds (as_solution (Some (record { weight = v.result; owners = c.in-Some.first.owners }))) (as_improvement b.result)) i b.ensures)
          (floor_told a.settings.now a.held o a.g p.settings p.held_bound n.result a.sheet.now f.result n.ensures p.sheet_value f.ensures);
      none = λ e. clash refl e;
    }
