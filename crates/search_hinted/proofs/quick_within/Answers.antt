-- A cut at pair 0 gives the floor: below it there is none, else the hints are followed. Assumes nothing.
use mathlib.Core.Path.{refl}
use native.Mathlib.Omega.{arith}
use Rattle.search_total.specs.Answers.{ready_blank, within_none}
use Rattle.search_hinted.specs.Stage.{stage_cut}
use Rattle.search_hinted.specs.Post.{stage_start, at_least, none_below, within_capped}
use Rattle.search_hinted.proofs.quick_within.Goals as goal

pub prune-requires : goal.prune-requires
prune-requires c = record { t_bound = (omega arith, omega (arith, c.capped-most.ensures)); small = c.fit.ensures (c.if-not-fit.false); rows_len = c.all_allowed-rows.ensures.long; begun = ready_blank.begun }

pub returns-then-most-floor : goal.returns-then-most-floor
returns-then-most-floor c =
    let a = c.args in
    within_capped (omega (arith, c.ranges.idle)) c.capped-most.ensures
    (within_none
    (none_below c.if-most-floor.true
    (at_least a.sets.now a.needs.now a.caps.now a.prices.now a.idle c.capped-most.result _ c.all_allowed-rows.ensures c.in_ok-floor.ensures))
    (record { exists = refl; weight = refl; owners = refl }))

pub follow-requires : goal.follow-requires
follow-requires c =
    let a = c.args in
    record {
      k_bound = omega (arith, c.capped-most.ensures);
      small = c.fit.ensures (c.if-not-fit.false);
      narrowed = stage_cut (stage_start a.sets.now a.needs.now a.caps.now a.prices.now a.idle c.capped-most.result c.all_allowed-rows.ensures) c.in_ok-floor.ensures;
    }

pub returns : goal.returns
returns c = within_capped (omega (arith, c.ranges.idle)) c.capped-most.ensures c.in_ok-found.ensures.within
