-- `plan_quorum::quorum` meets its contract: each reason in its turn.
use Prim.Native.Nat.{◌<◌, ◌≤◌}
use mathlib.Core.Path.{sym, ◌∙◌}
use native.Mathlib.Omega.{arith}
use Rattle.base_laws.specs.Definitions.{count}
use Rattle.settings_values.specs.Definitions.{least}
use Rattle.plan_quorum.specs.Quorum.{quorum_view, quorum_most, quorum_few, quorum_holder, quorum_met}
use Rattle.plan_quorum.proofs.quorum.Goals as goal

pub returns-then-number-eq0 : goal.returns-then-number-eq0
returns-then-number-eq0 c = let a = c.args in
    quorum_view a.settings.now a.v a.held a.holders c.if-number-eq0.true

pub returns-then-not-most_held : goal.returns-then-not-most_held
returns-then-not-most_held c = let a = c.args in
    let m = c.most_held in
    quorum_most a.settings.now a.v a.held a.holders c.if-number-eq0.false (sym m.ensures ∙ c.if-not-most_held.true)

pub returns-then-count-least : goal.returns-then-count-least
returns-then-count-least c = let a = c.args in
    let m = c.most_held in
    let few : count a.held < least a.settings.now = omega (arith, c.count.ensures, c.least.ensures) in
    quorum_few a.settings.now a.v a.held a.holders c.if-number-eq0.false (sym m.ensures ∙ c.if-not-most_held.false) few

pub returns-then-s-count : goal.returns-then-s-count
returns-then-s-count c = let e = c in
    let a = e.args in
    let m = e.most_held in
    let n = c.wide-count in
    let s = c.first_without-s in
    let enough : least a.settings.now ≤ count a.held = omega (arith, e.count.ensures, e.least.ensures, e.if-count-least.false) in
    quorum_holder a.settings.now a.v a.held a.holders e.if-number-eq0.false (sym m.ensures ∙ e.if-not-most_held.false) enough
    n.result s.result (n.ensures ∙ c.shards.ensures) s.ensures c.if-s-count.true

pub returns : goal.returns
returns c = let e = c in
    let a = e.args in
    let m = e.most_held in
    let n = c.wide-count in
    let s = c.first_without-s in
    let enough : least a.settings.now ≤ count a.held = omega (arith, e.count.ensures, e.least.ensures, e.if-count-least.false) in
    quorum_met a.settings.now a.v a.held a.holders e.if-number-eq0.false (sym m.ensures ∙ e.if-not-most_held.false) enough
    n.result s.result (n.ensures ∙ c.shards.ensures) s.ensures c.if-s-count.false
