-- Who wins: each return is a case of the turns. Assumes nothing.
use Prim.Native.Nat.{ℕ, ◌<◌, ◌-◌, ◌*◌, ◌^◌}
use mathlib.Core.Bool.{not}
use mathlib.Core.Path.{◌≡◌, sym, ap, ◌∙◌, subst⁻¹}
use native.Mathlib.Omega.{arith}
use Rattle.base_laws.specs.Bools.{or_left, or_right, not_of_false}
use Rattle.base_laws.specs.Definitions.{has, without}
use Rattle.base_laws.specs.Below.{all_none}
use Rattle.base_laws.proofs.Below.{all_more}
use Rattle.base_laws.specs.Masks.{without_lt}
use Rattle.game_rules.specs.Turns.{crew_turn, survives}
use Rattle.game_turns.specs.Table.{plan_at}
use Rattle.game_turns.specs.Steps.{outage_none, outage_passes, outage_lost, outage_kept, won_crew, won_passing, won_taking}
use borrow.Author.Rules.{rules}
use Rattle.game_turns.proofs.winner.Goals as goal
use Rattle.game_turns.proofs.winner.Goals.{then-has+else-not-crew, else-has}

pub returns-then-rounds-eq0 : goal.returns-then-rounds-eq0
returns-then-rounds-eq0 c =
    let a = c.args in
    won_crew a.nodes a.table.now a.rounds a.held
    (outage_none a.nodes a.table.now (2 * a.rounds) a.held (omega (arith, c.if-rounds-eq0.true)))

pub crew-requires : goal.crew-requires
crew-requires c =
    search rules

pub returns-then-crew : goal.returns-then-crew
returns-then-crew c =
    let a = c.args in
    let k = c.crew in
    let some = c.if-rounds-eq0.false in
    won_crew a.nodes a.table.now a.rounds a.held
    (sym c.if-crew.true ∙ k.ensures
    ∙ outage_passes a.nodes a.table.now (2 * a.rounds) a.held (λ e. some (omega (arith, e))) c.if-held-eq0.true)

pub returns-then-held-eq0 : goal.returns-then-held-eq0
returns-then-held-eq0 c =
    let a = c.args in
    let k = c.crew in
    let some = c.if-rounds-eq0.false in
    won_passing a.nodes a.table.now a.rounds a.held c.if-held-eq0.true
    (sym c.if-crew.false ∙ k.ensures
    ∙ outage_passes a.nodes a.table.now (2 * a.rounds) a.held (λ e. some (omega (arith, e))) c.if-held-eq0.true)

pub loop-o-init : goal.loop-o-init
loop-o-init c =
    let a = c.args in all_none (survives a.nodes (plan_at a.table.now) (2 * a.rounds - 1) a.held)

pub crew-requires-then-has : goal.crew-requires-then-has
crew-requires-then-has c =
    let s = c in
    let a = s.args in
    let o = c.loop-o.o in (
      s.requires.nodes_bound.0,
      subst⁻¹ (λ (x : ℕ). x < 2 ^ a.nodes) c.without.ensures (without_lt a.nodes a.held o s.requires.nodes_bound.1),
    )

pub returns-then-not-crew : goal.returns-then-not-crew
returns-then-not-crew c =
    let s = c in
    let a = s.args in
    let some = c.if-rounds-eq0.false in
    let z = c.if-held-eq0.false in
    let l = c.loop-o in
    let below = c.loop-o-test.true in
    let p = sym c.has.ensures ∙ c.if-has.true in
    let k = c.crew-then-has in
    let q =
    ap (λ (x : ℕ). crew_turn a.nodes (plan_at a.table.now) (2 * a.rounds - 1) x l.o) (sym c.without.ensures)
    ∙ sym k.ensures ∙ c.if-not-crew.true in
    won_taking a.nodes a.table.now a.rounds a.held l.o s.requires.nodes_bound.0 z below l.invariant p q
    (outage_lost a.nodes a.table.now (2 * a.rounds) a.held l.o (λ e. some (omega (arith, e))) z below p q)

pub loop-o-preserved : goal.loop-o-preserved
loop-o-preserved c =
    let a = c.args in
    let l = c.loop-o in
    let h = c.has in all_more l.o (survives a.nodes (plan_at a.table.now) (2 * a.rounds - 1) a.held) l.invariant
    (elim c.if-has.branch [
      | then-has+else-not-crew w ↦ or_right (not (has a.held l.o))
          (ap (λ (x : ℕ). crew_turn a.nodes (plan_at a.table.now) (2 * a.rounds - 1) x l.o) (sym w.without.ensures) ∙ sym w.if-not-crew.ensures)
      | else-has w ↦ or_left (crew_turn a.nodes (plan_at a.table.now) (2 * a.rounds - 1) (without a.held l.o) l.o) (not_of_false (sym w.if-has.ensures))
    ])

pub returns : goal.returns
returns c =
    let a = c.args in
    let l = c.loop-o in
    let e : l.o ≡ a.nodes = omega arith in
    let some = c.if-rounds-eq0.false in
    won_crew a.nodes a.table.now a.rounds a.held
    (outage_kept a.nodes a.table.now (2 * a.rounds) a.held (λ z. some (omega (arith, z))) c.if-held-eq0.false (rw e at l.invariant))
