-- The loop's invariant: every node below n is allowed where it is placed. Assumes nothing.
use Prim.Native.Nat.{ℕ, ◌+◌, ◌*◌}
use mathlib.Core.Path.{◌≡◌, sym, ◌∙◌, ap}
use mathlib.Core.Bool.{Bool, true, cond}
use mathlib.Core.List.{List, []}
use native.Mathlib.Omega.{arith}
use lib.Dec.{ltb}
use lib.ListN.{get_or}
use Rattle.base_laws.specs.Below.{all_none}
use Rattle.base_laws.proofs.Below.{all_more, all_fails}
use Rattle.base_laws.specs.Loops.{all_done}
use Rattle.search_laws.specs.Tables.{case_of, owners_of}
use Rattle.search_laws.specs.Tests.{stands}
use Rattle.search_judge.proofs.stands.Goals as goal

-- what the test of a node says
test : (costs owner : List ℕ) (n o : ℕ) (r : Bool) →
    r ≡ cond (ltb o 16) (ltb (get_or costs (o * 32 + n) 0) 255) true →
    o ≡ get_or owner n 0 →
    r ≡ stands (case_of [] [] [] costs 0) (owners_of owner) n
test costs owner n o r h e =
    h ∙ ap (λ (o : ℕ). cond (ltb o 16) (ltb (get_or costs (o * 32 + n) 0) 255) true) e

pub loop-n-init : goal.loop-n-init
loop-n-init c = all_none _

pub returns-then-not-stands_at : goal.returns-then-not-stands_at
returns-then-not-stands_at c =
    sym
    (all_fails 32 _ c.loop-n.n (omega arith)
    (sym (test _ _ _ _ _ c.stands_at.ensures c.wide.ensures.0) ∙ c.if-not-stands_at.true))

pub loop-n-preserved : goal.loop-n-preserved
loop-n-preserved c = all_more _ _ c.loop-n.invariant
    (sym (test _ _ _ _ _ c.stands_at.ensures c.wide.ensures.0) ∙ c.if-not-stands_at.false)

pub returns : goal.returns
returns c = sym (all_done c.loop-n.auto.n-end c.loop-n-test.false true _ c.loop-n.invariant)
