-- `c_placement::placement_within` passes on what `search_hinted::first_within` promises of copies of its tables; an answer's weight is small. Where a length is
-- wrong nothing is done. Assumes nothing.
use mathlib.Core.Path.{refl, sym, ap, ◌∙◌}
use lib.ListN.{length}
use native.Mathlib.Omega.{arith}
use Rattle.base_laws.specs.Bools.{clash}
use Rattle.c_placement.specs.Number.{small_within, lengths_of, within_given}
use Rattle.c_placement.proofs.placement_within.Goals as goal

pub returns-then-not-fit : goal.returns-then-not-fit
returns-then-not-fit c = record { answered = λ e. clash e (sym c.fit.ensures ∙ c.if-not-fit.true); refused = λ e. (refl, refl) }

pub array-s-requires : goal.array-s-requires
array-s-requires c =
    let e = c in
    let a = e.args in
    let ok = lengths_of a.sets.now a.needs.now a.caps.now a.costs.now a.owners.now (sym e.fit.ensures ∙ e.if-not-fit.false) in (omega arith, ok.sets_are)

pub array-m-requires : goal.array-m-requires
array-m-requires c =
    let e = c in
    let a = e.args in
    let ok = lengths_of a.sets.now a.needs.now a.caps.now a.costs.now a.owners.now (sym e.fit.ensures ∙ e.if-not-fit.false) in (omega arith, ok.needs_are)

pub array-c-requires : goal.array-c-requires
array-c-requires c =
    let e = c in
    let a = e.args in
    let ok = lengths_of a.sets.now a.needs.now a.caps.now a.costs.now a.owners.now (sym e.fit.ensures ∙ e.if-not-fit.false) in (omega arith, ok.caps_are)

pub array-p-requires : goal.array-p-requires
array-p-requires c =
    let e = c in
    let a = e.args in
    let ok = lengths_of a.sets.now a.needs.now a.caps.now a.costs.now a.owners.now (sym e.fit.ensures ∙ e.if-not-fit.false) in (omega arith, ok.costs_are)

pub copy_from_slice-requires : goal.copy_from_slice-requires
copy_from_slice-requires c =
    let e = c in
    let a = e.args in
    let ok = lengths_of a.sets.now a.needs.now a.caps.now a.costs.now a.owners.now (sym e.fit.ensures ∙ e.if-not-fit.false) in ok.owners_are ∙ sym (ap length c.owners_in-o.ensures ∙ c.first_within-w.ensures.owners.long)

pub number-requires : goal.number-requires
number-requires c = small_within (omega (arith, c.ranges.idle)) c.first_within-w.ensures

pub returns : goal.returns
returns c =
    let e = c in
    let t = c in
    within_given t.array-s.ensures t.array-m.ensures t.array-c.ensures t.array-p.ensures
    (sym e.fit.ensures ∙ e.if-not-fit.false) c.number.ensures (c.copy_from_slice.ensures.after ∙ c.owners_in-o.ensures) c.first_within-w.ensures
