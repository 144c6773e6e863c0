-- `plan_seen::record_pairs` meets its contract. The invariant: the records below j are stored.
use Prim.Native.Nat.{ℕ, ◌<◌, ◌+◌, ◌*◌, ◌/◌, ◌%◌}
use mathlib.Core.Path.{◌≡◌, ◌∙◌, subst}
use native.Mathlib.Omega.{arith}
use lib.ListN.{set, length-set, length-replicate}
use Rattle.message_format.specs.Definitions.{tag, word1, word2}
use Rattle.report_walk.specs.Updates.{RecordsAre}
use Rattle.plan_seen.specs.Steps.{pairs_more}
use Rattle.plan_seen.proofs.record_pairs.Goals as goal

-- the halves of a pair
halves : (x a y : ℕ) → x ≡ a + 4294967296 * y → a < 4294967296 → (x % 4294967296 ≡ a) × (x / 4294967296 ≡ y)
halves x a y e l = (omega arith, omega arith)

pub loop-j-init : goal.loop-j-init
loop-j-init c = (length-replicate {A = ℕ} 256 0, record { tags = λ j l. absurd (omega arith); firsts = λ j l. absurd (omega arith); seconds = λ j l. absurd (omega arith) })

pub loop-j-preserved : goal.loop-j-preserved
loop-j-preserved c = let s = c in
    let l = c.loop-j in
    let x = c.joined in
    let y = c.joined-in-loop-j in
    let few = c.loop-j-test.true in
    let front = halves x.result (tag s.args.body.now l.j) (word1 s.args.body.now l.j) x.ensures.value x.ensures.low_bound in
    let back = halves y.result (word2 s.args.body.now l.j) 0 y.ensures.value y.ensures.low_bound in (length-set (set l.list (2 * l.j + 2) x.result) (2 * l.j + 3) y.result ∙ (length-set l.list (2 * l.j + 2) x.result ∙ l.invariant.0), pairs_more l.list s.args.body.now l.j x.result y.result l.invariant.0 (omega (arith, s.requires, few)) front.0 front.1 back.0 l.invariant.1)

pub returns : goal.returns
returns c = let s = c in
    let l = c.loop-j in
    let z : l.j ≡ s.args.len = omega (arith, l.auto.j-end, c.loop-j-test.false) in
    subst (λ (x : ℕ). RecordsAre l.list s.args.body.now x) z l.invariant.1
