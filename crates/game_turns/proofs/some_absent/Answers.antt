-- meets its contract
use mathlib.Core.Path.{◌≡◌, sym, ◌∙◌}
use native.Mathlib.Omega.{arith}
use Rattle.base_laws.specs.Below.{any_none, any_more, any_at}
use Rattle.game_rules.specs.Turns.{absent}
use Rattle.game_turns.proofs.some_absent.Goals as goal

pub loop-b-init : goal.loop-b-init
loop-b-init c = any_none (absent c.args.held c.args.taken)

pub returns-then-is_absent : goal.returns-then-is_absent
returns-then-is_absent c =
    let a = c.args in
    let l = c.loop-b in
    sym (any_at a.nodes (absent a.held a.taken) l.b c.loop-b-test.true (sym c.is_absent.ensures ∙ c.if-is_absent.true))

pub loop-b-preserved : goal.loop-b-preserved
loop-b-preserved c =
    let a = c.args in
    let l = c.loop-b in any_more l.b (absent a.held a.taken) l.invariant (sym c.is_absent.ensures ∙ c.if-is_absent.false)

pub returns : goal.returns
returns c =
    let a = c.args in
    let l = c.loop-b in
    let z : l.b ≡ a.nodes = omega arith in
    sym (rw z at l.invariant)
