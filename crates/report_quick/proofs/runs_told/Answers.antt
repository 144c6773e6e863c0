-- `report_quick::runs_told` meets its contract. The invariant: runs stand up to record i, and tag and word are its words.
use Prim.Native.Nat.{ℕ, ◌+◌, ◌*◌}
use mathlib.Core.Bool.{false≢true}
use mathlib.Core.Logic.{⊎_elim}
use mathlib.Core.Path.{sym, ap, subst}
use native.Mathlib.Omega.{arith}
use borrow.Author.Tests.{eqb-true}
use Rattle.base_laws.specs.Bools.{eq_or_ne}
use lib.ListN.{get_or}
use Rattle.report_quick.specs.Told.{RunFits, RunTold}
use borrow.Author.Rules.{rules}
use Rattle.report_quick.proofs.runs_told.Goals as goal

pub loop-i-init : goal.loop-i-init
loop-i-init c = (search rules, search rules, search rules, λ j k l. absurd (omega arith))

pub returns-then-w-i-eq0 : goal.returns-then-w-i-eq0
returns-then-w-i-eq0 c =
    λ h. (c.loop-i.i, record { from = c.loop-i.invariant.0; few = c.loop-i.auto.i-end (omega arith); each = c.loop-i.invariant.3; end = c.if-w-i-eq0.true })

pub returns-then-w-i : goal.returns-then-w-i
returns-then-w-i c = λ h. absurd (false≢true h)

pub returns-then-not-run_fits : goal.returns-then-not-run_fits
returns-then-not-run_fits c = λ h. absurd (false≢true h)

pub loop-i-preserved : goal.loop-i-preserved
loop-i-preserved c = (
  omega arith,
  ap (λ (k : ℕ). get_or c.args.w.now k 0) (omega arith),
  ap (λ (k : ℕ). get_or c.args.w.now k 0) (omega arith),
  λ j k l. ⊎_elim
      (λ e. subst (RunTold c.args.w.now c.args.count c.args.view) (sym e) (record {
        linked = c.if-w-i.false;
        fits = subst (λ (x : ℕ). RunFits x (get_or c.args.w.now (4 * c.loop-i.i + 1) 0) (get_or c.args.w.now (4 * c.loop-i.i + 4) 0) (get_or c.args.w.now (4 * c.loop-i.i + 5) 0) (get_or c.args.w.now (4 * c.loop-i.i + 6) 0) c.args.count c.args.view) c.loop-i.invariant.1
            (subst (λ (x : ℕ). RunFits c.loop-i.tag x (get_or c.args.w.now (4 * c.loop-i.i + 4) 0) (get_or c.args.w.now (4 * c.loop-i.i + 5) 0) (get_or c.args.w.now (4 * c.loop-i.i + 6) 0) c.args.count c.args.view) c.loop-i.invariant.2
            (c.run_fits.ensures c.if-not-run_fits.false));
      }))
      (λ e. c.loop-i.invariant.3 j k (omega arith)) (eq_or_ne j c.loop-i.i),
)

pub returns : goal.returns
returns c =
    λ h. (127, record { from = omega arith; few = search rules; each = λ j k l. c.loop-i.invariant.3 j k (omega (arith, c.loop-i.auto.i-end)); end = eqb-true _ _ h })
