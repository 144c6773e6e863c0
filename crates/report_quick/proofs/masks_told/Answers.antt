-- `report_quick::masks_told` meets its contract. The invariant: what is promised, of the shards below s.
use Prim.Native.Nat.{ℕ}
use mathlib.Core.Logic.{⊎_elim}
use mathlib.Core.Path.{◌≡◌, sym, ◌∙◌, subst}
use native.Mathlib.Omega.{arith}
use Rattle.base_laws.specs.Bools.{eq_or_ne}
use lib.ListN.{get_or, set, length-set}
use lib.Seq.{get_or-set_same, get_or-set_other}
use Rattle.report_quick.specs.Told.{mask_told}
use borrow.Author.Rules.{rules}
use Rattle.report_quick.proofs.masks_told.Goals as goal

pub loop-s-init : goal.loop-s-init
loop-s-init c = (search rules, λ j l. absurd (omega arith))

pub loop-s-preserved : goal.loop-s-preserved
loop-s-preserved c = (length-set c.loop-s.masks c.loop-s.s (mask_told c.args.w.now c.loop-s.s) ∙ c.loop-s.invariant.0, λ j l. ⊎_elim (λ e. subst (λ (i : ℕ). mask_told c.args.w.now i ≡ get_or (set c.loop-s.masks c.loop-s.s (mask_told c.args.w.now c.loop-s.s)) i 0) (sym e) (sym (get_or-set_same c.loop-s.masks c.loop-s.s _ 0 (omega (arith, c.loop-s.invariant.0))))) (λ e. c.loop-s.invariant.1 j (omega arith) ∙ sym (get_or-set_other c.loop-s.masks c.loop-s.s j _ 0 e)) (eq_or_ne j c.loop-s.s))

pub returns : goal.returns
returns c =
    λ j l. c.loop-s.invariant.1 j (omega arith)
