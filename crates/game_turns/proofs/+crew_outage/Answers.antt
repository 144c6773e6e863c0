-- The two turns meet their contracts.
use Rattle.std.proofs.Common.{ℕ, ◌≡◌, ◌-◌, sym, ap, ◌∙◌, arith}
use Rattle.base_laws.specs.Definitions.{has, with, without}
use Rattle.base_laws.specs.Bools.{and_both, and_fails_left, and_fails_right, or_left, or_right, not_of_false}
use mathlib.Core.Bool.{not, ◌&&◌}
use Rattle.base_laws.specs.Below.{all_none, any_none, any_more}
use Rattle.base_laws.proofs.Below.{all_more}
use Rattle.base_laws.specs.Masks.{with_lt}
use Rattle.game_rules.specs.Turns.{absent, outage_turn, crew_turn, saves, survives}
use Rattle.game_turns.specs.Table.{plan_at}
use Rattle.game_turns.specs.Steps.{small, outage_none, outage_passes, outage_lost, outage_kept, crew_none, crew_fails, crew_goes, crew_saved, crew_lost}
use Rattle.game_turns.proofs.+crew_outage.Goals as goal
use Rattle.game_turns.proofs.+crew_outage.Goals.{crew-then-is_absent+then-has_plan+else-outage, crew-then-is_absent+else-has_plan, crew-else-is_absent, outage-then-has+else-not-crew, outage-else-has}

pub crew-returns-then-left-eq0 : goal.crew-returns-then-left-eq0
crew-returns-then-left-eq0 t c =
    let a = c.args in
    crew_none a.nodes a.table.now a.left a.held a.taken c.if-left-eq0.true

pub crew-has_plan-requires : goal.crew-has_plan-requires
crew-has_plan-requires t c = small c.args.nodes c.args.held c.requires.0 c.requires.1

pub crew-returns-then-not-has_plan : goal.crew-returns-then-not-has_plan
crew-returns-then-not-has_plan t c =
    let a = c.args in
    crew_fails a.nodes a.table.now a.left a.held a.taken c.if-left-eq0.false (sym c.if-not-some_absent.ensures) (sym c.if-not-has_plan.ensures)

pub crew-returns-then-not-some_absent : goal.crew-returns-then-not-some_absent
crew-returns-then-not-some_absent t c =
    let a = c.args in
    c.outage.ensures
    ∙ crew_goes a.nodes a.table.now a.left a.held a.taken c.if-left-eq0.false (sym c.if-not-some_absent.ensures) (sym c.if-not-has_plan.ensures)

pub crew-loop-b-init : goal.crew-loop-b-init
crew-loop-b-init t c =
    let a = c.args in
    any_none (saves a.nodes (plan_at a.table.now) (a.left - 1) a.held a.taken)

pub crew-has_plan-requires-then-is_absent : goal.crew-has_plan-requires-then-is_absent
crew-has_plan-requires-then-is_absent t c =
    let a = c.args in
    small a.nodes c.with-back.result c.requires.0 (rw c.with-back.ensures (with_lt a.nodes a.held c.loop-b.b c.requires.1 c.loop-b-test.true))

pub crew-outage-requires-then-has_plan : goal.crew-outage-requires-then-has_plan
crew-outage-requires-then-has_plan t c =
    let a = c.args in
    (omega arith, (c.requires.0, rw c.with-back.ensures (with_lt a.nodes a.held c.loop-b.b c.requires.1 c.loop-b-test.true)))

pub crew-returns-then-outage : goal.crew-returns-then-outage
crew-returns-then-outage t c =
    let a = c.args in
    let w = c.with-back in
    crew_saved a.nodes a.table.now a.left a.held a.taken c.loop-b.b c.if-left-eq0.false (sym c.if-not-some_absent.ensures) c.loop-b-test.true
    (and_both (sym c.if-is_absent.ensures)
    (and_both (ap (plan_at a.table.now) (sym w.ensures) ∙ sym c.if-has_plan.ensures)
    (ap (outage_turn a.nodes (plan_at a.table.now) (a.left - 1)) (sym w.ensures) ∙ sym c.if-outage.ensures)))

pub crew-loop-b-preserved : goal.crew-loop-b-preserved
crew-loop-b-preserved t c =
    let a = c.args in
    let l = c.loop-b in
    let e = c.is_absent in
    any_more l.b (saves a.nodes (plan_at a.table.now) (a.left - 1) a.held a.taken) l.invariant
    (elim c.if-is_absent.branch [
      | crew-then-is_absent+then-has_plan+else-outage w ↦ and_fails_right (absent a.held a.taken l.b) (and_fails_right (plan_at a.table.now (with a.held l.b))
          (ap (outage_turn a.nodes (plan_at a.table.now) (a.left - 1)) (sym w.with-back.ensures) ∙ sym w.if-outage.ensures))
      | crew-then-is_absent+else-has_plan w ↦ and_fails_right (absent a.held a.taken l.b) (and_fails_left (outage_turn a.nodes (plan_at a.table.now) (a.left - 1) (with a.held l.b))
          (ap (plan_at a.table.now) (sym w.with-back.ensures) ∙ sym w.if-has_plan.ensures))
      | crew-else-is_absent w ↦ and_fails_left (plan_at a.table.now (with a.held l.b) && outage_turn a.nodes (plan_at a.table.now) (a.left - 1) (with a.held l.b)) (sym w.if-is_absent.ensures)
    ])

pub crew-returns : goal.crew-returns
crew-returns t c =
    let a = c.args in
    let l = c.loop-b in
    let e : l.b ≡ a.nodes = omega arith in
    crew_lost a.nodes a.table.now a.left a.held a.taken c.if-left-eq0.false (sym c.if-not-some_absent.ensures) (rw e at l.invariant)

pub outage-returns-then-left-eq0 : goal.outage-returns-then-left-eq0
outage-returns-then-left-eq0 t c =
    let a = c.args in
    outage_none a.nodes a.table.now a.left a.held c.if-left-eq0.true

pub outage-returns-then-held-eq0 : goal.outage-returns-then-held-eq0
outage-returns-then-held-eq0 t c =
    let a = c.args in
    c.crew.ensures ∙ outage_passes a.nodes a.table.now a.left a.held c.if-left-eq0.false c.if-held-eq0.true

pub outage-loop-o-init : goal.outage-loop-o-init
outage-loop-o-init t c =
    let a = c.args in
    all_none (survives a.nodes (plan_at a.table.now) (a.left - 1) a.held)

pub outage-returns-then-not-crew : goal.outage-returns-then-not-crew
outage-returns-then-not-crew t c =
    let a = c.args in
    let l = c.loop-o in
    outage_lost a.nodes a.table.now a.left a.held l.o c.if-left-eq0.false c.if-held-eq0.false c.loop-o-test.true
    (sym c.if-has.ensures)
    (ap (λ (x : ℕ). crew_turn a.nodes (plan_at a.table.now) (a.left - 1) x l.o) (sym c.without.ensures) ∙ sym c.if-not-crew.ensures)

pub outage-loop-o-preserved : goal.outage-loop-o-preserved
outage-loop-o-preserved t c =
    let a = c.args in
    let l = c.loop-o in
    all_more l.o (survives a.nodes (plan_at a.table.now) (a.left - 1) a.held) l.invariant
    (elim c.if-has.branch [
      | outage-then-has+else-not-crew w ↦ or_right (not (has a.held l.o))
          (ap (λ (x : ℕ). crew_turn a.nodes (plan_at a.table.now) (a.left - 1) x l.o) (sym w.without.ensures) ∙ sym w.if-not-crew.ensures)
      | outage-else-has w ↦ or_left (crew_turn a.nodes (plan_at a.table.now) (a.left - 1) (without a.held l.o) l.o) (not_of_false (sym w.if-has.ensures))
    ])

pub outage-returns : goal.outage-returns
outage-returns t c =
    let a = c.args in
    let l = c.loop-o in
    let e : l.o ≡ a.nodes = omega arith in
    outage_kept a.nodes a.table.now a.left a.held c.if-left-eq0.false c.if-held-eq0.false (rw e at l.invariant)
