-- `report_rows::same_masks` meets its contract. The invariant: the masks of the shards below s are the same.
use Prim.Native.Nat.{ℕ}
use mathlib.Core.Bool.{Bool}
use mathlib.Core.List.{List}
use mathlib.Core.Path.{◌≡◌, sym, ◌∙◌}
use native.Mathlib.Omega.{arith}
use lib.Dec.{eqb}
use lib.ListN.{get_or}
use borrow.Author.Tests.{eq-eqb, ne_eqb}
use Rattle.base_laws.specs.Below.{all_none}
use Rattle.base_laws.proofs.Below.{all_more, all_fails}
use Rattle.message_format.specs.Definitions.{members_of}
use Rattle.report_rows.specs.Comparisons.{masks_same}
use Rattle.report_rows.proofs.same_masks.Goals as goal

abbrev same : List ℕ → List ℕ → ℕ → Bool
same masks b s = eqb (members_of b s) (get_or masks s 0)

pub loop-s-init : goal.loop-s-init
loop-s-init c = let a = c.args in all_none (same a.masks.now a.body.now)

pub returns-then-word1-masks : goal.returns-then-word1-masks
unfolding masks_same
returns-then-word1-masks c = let a = c.args in
    let w = c.word1 in
    sym (all_fails a.count (same a.masks.now a.body.now) c.loop-s.s (omega arith)
    (ne_eqb _ _ (λ e. c.if-word1-masks.true (w.ensures ∙ e))))

pub loop-s-preserved : goal.loop-s-preserved
loop-s-preserved c = let a = c.args in
    let w = c.word1 in
    let l = c.loop-s in all_more l.s (same a.masks.now a.body.now) l.invariant (eq-eqb _ _ (sym w.ensures ∙ c.if-word1-masks.false))

pub returns : goal.returns
unfolding masks_same
returns c = let a = c.args in
    let l = c.loop-s in
    let e : l.s ≡ a.count = omega arith in
    sym (rw e at l.invariant)
