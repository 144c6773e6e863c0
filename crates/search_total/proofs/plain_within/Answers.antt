-- From no owners and pair 0 the search's answer is that of all placements. Assumes nothing.
use mathlib.Core.Path.{refl}
use mathlib.Core.Bool.{false≢true}
use native.Mathlib.Omega.{arith}
use Rattle.search_laws.specs.Case.{weight}
use Rattle.search_laws.specs.Order.{first_start, none_start}
use Rattle.search_total.specs.Answers.{ready_blank, within_found, within_none}
use Rattle.search_total.proofs.plain_within.Goals as goal

pub seek-requires : goal.seek-requires
seek-requires c = record { t_bound = omega arith; ready_from = ready_blank; has_none = λ e. absurd (false≢true e) }

pub returns : goal.returns
unfolding weight
returns c =
    within_found (first_start (c.seek.ensures.yes c.if-not-seek.false)) c.seek.ensures.owners
    (record { exists = refl; weight = c.placed.ensures.weight; owners = c.placed.ensures.owners })

pub returns-then-not-seek : goal.returns-then-not-seek
returns-then-not-seek c = within_none (none_start (c.seek.ensures.no c.if-not-seek.true)) (record { exists = refl; weight = refl; owners = refl })
