-- `report_walk::runs_on` meets its contract. The invariant: the records below i are runs that go on, and noted.
use Rattle.std.proofs.Common.{◌≡◌, ℕ, suc, ◌+◌, ◌-◌, ◌*◌, ◌%◌, List, get_or, set, sym, ap, ◌∙◌, subst, ⊎_elim, arith}
use Rattle.base_laws.specs.Bools.{eq_or_ne}
use Rattle.report_walk.specs.Seen.{before_at, runs_noted, Goes, RunsOn, before_first, before_next, noted_next, noted_none}
use Rattle.report_walk.proofs.runs_on.Goals as goal

pub loop-i-init : goal.loop-i-init
loop-i-init c = let a = c.args in (
  record { from = omega arith; few = c.requires.1; each = λ j k l. absurd (omega arith) },
  sym (before_first a.b.now a.first),
  noted_none a.b.now a.last.now a.first,
)

pub goes_on-requires : goal.goes_on-requires
goes_on-requires c = omega (arith, c.loop-i.invariant.0.few)

pub returns-then-not-goes_on : goal.returns-then-not-goes_on
returns-then-not-goes_on c = (record { runs_on = c.loop-i.invariant.0; last_after = c.loop-i.invariant.2 })

pub loop-i-preserved : goal.loop-i-preserved
loop-i-preserved c =
    let a = c.args in
    let l = c.loop-i in
    let goes : Goes (before_at a.b.now a.first l.i) (get_or a.b.now (2 * l.i) 0) (get_or a.b.now (2 * l.i + 1) 0) l.i a.view =
    subst (λ (x : ℕ). Goes x (get_or a.b.now (2 * l.i) 0) (get_or a.b.now (2 * l.i + 1) 0) l.i a.view) l.invariant.1 (c.goes_on.ensures c.if-not-goes_on.false) in
    let e : l.i + 1 - a.first ≡ suc (l.i - a.first) = omega (arith, l.invariant.0.from) in (
      record {
        from = omega (arith, l.invariant.0.from);
        few = omega arith;
        each = λ j k m. ⊎_elim
            (λ d. subst (λ (x : ℕ). Goes (before_at a.b.now a.first x) (get_or a.b.now (2 * x) 0) (get_or a.b.now (2 * x + 1) 0) x a.view) (sym d) goes)
            (λ d. l.invariant.0.each j k (omega arith)) (eq_or_ne j l.i);
      },
      c.key_of-since.ensures ∙ sym (before_next a.b.now a.first l.i l.invariant.0.from),
      ap (λ (x : List ℕ). set x (get_or a.b.now (2 * l.i) 0 % 16) l.i) l.invariant.2 ∙ (sym (noted_next a.b.now a.last.now a.first l.i l.invariant.0.from) ∙ ap (runs_noted a.b.now a.last.now a.first) (sym e)),
    )

pub returns : goal.returns
returns c =
    let a = c.args in
    let l = c.loop-i in
    let e : l.i ≡ 127 = omega (arith, l.auto.i-end, c.loop-i-test.false) in
    record {
      runs_on = subst (λ (x : ℕ). RunsOn a.b.now a.first a.view x) e l.invariant.0;
      last_after = l.invariant.2 ∙ ap (λ (x : ℕ). runs_noted a.b.now a.last.now a.first (x - a.first)) e;
    }
