-- A cut at pair 0 gives the floor: above 8192 there is none; where the claim is the floor, the hints are followed. Assumes nothing.
use mathlib.Core.Path.{refl, subst}
use native.Mathlib.Omega.{arith}
use Rattle.search_laws.specs.Least.{AtLeast}
use Rattle.search_laws.proofs.Least.{none_above}
use Rattle.search_laws.specs.Tables.{case_of}
use Rattle.search_total.specs.Answers.{ready_blank, least_found, least_none}
use Rattle.search_hinted.specs.Stage.{stage_cut}
use Rattle.search_hinted.specs.Post.{stage_start, at_least}
use Rattle.search_hinted.proofs.by_claim.Goals as goal

pub prune-requires : goal.prune-requires
prune-requires c = record { t_bound = (omega arith, omega (arith, c.capped-most.ensures)); small = c.requires; rows_len = c.all_allowed-rows.ensures.long; begun = ready_blank.begun }

pub returns-then-floor-gt8192 : goal.returns-then-floor-gt8192
returns-then-floor-gt8192 c =
    let a = c.args in
    least_none (none_above (omega (arith, c.ranges.idle)) c.if-floor-gt8192.true
    (at_least a.sets.now a.needs.now a.caps.now a.prices.now a.idle c.capped-most.result _ c.all_allowed-rows.ensures c.in_ok-floor.ensures))
    (record { exists = refl; weight = refl; owners = refl })

pub follow-requires : goal.follow-requires
follow-requires c =
    let a = c.args in
    record {
      k_bound = omega (arith, c.capped-most.ensures);
      small = c.requires;
      narrowed = stage_cut (stage_start a.sets.now a.needs.now a.caps.now a.prices.now a.idle c.capped-most.result c.all_allowed-rows.ensures) c.in_ok-floor.ensures;
    }

pub returns : goal.returns
returns c =
    let a = c.args in
    least_found
    (subst (AtLeast (case_of a.sets.now a.needs.now a.caps.now a.prices.now a.idle)) c.if-floor-most.false
    (at_least a.sets.now a.needs.now a.caps.now a.prices.now a.idle c.capped-most.result _ c.all_allowed-rows.ensures c.in_ok-floor.ensures))
    c.in_ok-found.ensures.within c.in_ok-found.ensures.exists
