-- A pair is left where it is barred, or where a cut excludes it. Assumes nothing.
use mathlib.Core.Path.{sym, ◌∙◌}
use native.Mathlib.Omega.{arith}
use Rattle.base_laws.specs.Bools.{of_not_true}
use Rattle.search_judge.specs.Post.{barred_never}
use Rattle.search_hinted.specs.Stage.{stage_cut, stage_shut, advance_leave}
use Rattle.search_hinted.proofs.leaves.Goals as goal

pub returns-then-hint-eq-BARRED : goal.returns-then-hint-eq-BARRED
returns-then-hint-eq-BARRED c = λ e. advance_leave c.requires.narrowed c.requires.t_bound.0 (λ y f d. barred_never _ _ _ c.barred.ensures e c.requires.t_bound.0 c.requires.narrowed.ready.begun y f.has.valid f.agree d)

pub prune-requires : goal.prune-requires
prune-requires c = let s = c in record { t_bound = (omega (arith, s.requires.t_bound.0), s.requires.t_bound.1); small = s.requires.small; rows_len = s.requires.narrowed.long; begun = s.requires.narrowed.ready.begun }

pub returns-in-Some : goal.returns-in-Some
returns-in-Some c = λ e.
    let s = c in
    let after = stage_cut s.requires.narrowed c.in-Some.ensures in
    advance_leave after s.requires.t_bound.0 (stage_shut after s.requires.t_bound.0 (sym c.has.ensures ∙ of_not_true c.has.result e))
