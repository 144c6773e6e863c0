-- What decide answers in cases A to F and I of document 01's table, which is history_cases/Cases: whatever decide's promise allows it to
-- hand back is document 01's. G, H and J are cuts and stand there.
use Rattle.std.specs.Prelude.{ℕ, ◌<◌, List, ◌≡◌, refl}
use Rattle.std.proofs.Common.{⊎_elim, ap, ◌∙◌, arith}
use Rattle.std.specs.Int.Count.{ones, ones_in}
use Rattle.base_laws.specs.Bools.{eq_or_ne}
use Rattle.base_laws.specs.Definitions.{all_below, any_below, lowest, count, pair_not_after, tabulate}
use Rattle.message_format.specs.Definitions.{place, following, body_word, body_of, contents_of}
use Rattle.report_views.specs.declared.Reason.TheVariants.{NoView, NoMajority, TooFew, NoHolder, NoPlacement}
use Rattle.report_views.specs.declared.Quorum.TheVariants.{Short}
use Rattle.report_views.specs.Definitions.{end_of, reaches, holds, has_update, slot, report_of, candidate, greatest, best, target, able, holder, majority, first_unheld, quorum_of, no_termination}
use Rattle.history_cases.specs.Runs.{case_settings, settings_with, desk, view7, six_members}
use Rattle.history_cases.proofs.Cases.{cases}
use Rattle.state_planner.specs.declared.State.{State}
use Rattle.state_planner.specs.declared.Decision.{Decision}
use Rattle.state_planner.specs.declared.Decided.{Decided}
use Rattle.state_planner.specs.Definitions.{fresh, still, Decides, Stuck}
use Rattle.state_cases.specs.Start.{gathered, desk_of_six, desk_of_seven}
use Rattle.state_cases.specs.Taken.{taken}
use Rattle.state_cases.specs.PlanA.{PlanOfA, printed}

-- whatever decide hands back waits for the reason, and leaves the state as it was
abbrev pub Waits : List ℕ → State → List ℕ → Decision → Type 0
Waits σ x d a = (r : Decided) → Decides σ x d r → r ≡ still x a

pub record Table : Type 0 where
  -- A: nodes 0 to 5 report; the plan that document 01 prints
  pub a : (r : Decided) → Decides case_settings (gathered view7 63) desk r → PlanOfA r
  -- B: only 3 of the 7 held, whichever they are
  pub b : (held : ℕ) → held < 128 → count held ≡ 3 → Waits case_settings (gathered view7 held) desk_of_seven (Decision.Wait NoMajority)
  -- C: 3 of 6 members; 4 pass that condition
  pub c_three : Waits case_settings (gathered six_members 7) desk_of_six (Decision.Wait NoMajority)
  pub c_four : Waits case_settings (gathered six_members 15) desk_of_six (Decision.Wait (NoHolder (record { 0 = 2 })))
  -- D: no report
  pub d : Waits case_settings fresh desk (Decision.Wait NoView)
  -- E: least size 7, six held
  pub e : Waits (settings_with 7 2) (gathered view7 63) desk (Decision.Wait TooFew)
  -- F: A with node 5 absent
  pub f : Waits case_settings (gathered view7 31) desk (Decision.Wait (NoHolder (record { 0 = 2 })))
  -- I: A with shard 0 needing 3
  pub i : Waits (settings_with 4 3) (gathered view7 63) desk (Decision.Wait (NoPlacement 0))

c_three_short : quorum_of case_settings six_members no_termination 7 desk_of_six ≡ Short NoMajority
unfolding ones ones_in majority quorum_of
c_three_short = refl

c_four_short : quorum_of case_settings six_members no_termination 15 desk_of_six ≡ Short (NoHolder (record { 0 = 2 }))
unfolding desk_of_six ones ones_in all_below any_below lowest tabulate pair_not_after place following body_word body_of contents_of end_of reaches holds has_update slot report_of candidate greatest best target able holder majority first_unheld quorum_of
c_four_short = refl

d_waits : Waits case_settings fresh desk (Decision.Wait NoView)
unfolding fresh
d_waits r w = w.waits taken.d NoView cases.d

-- subgroup 0 has no placement, so it is the lowest without one
i_waits : Waits (settings_with 4 3) (gathered view7 63) desk (Decision.Wait (NoPlacement 0))
i_waits r w =
    ⊎_elim (λ p. absurd (cases.i.none _ (p.plans.chosen 0 (omega arith)).least.valid)) (λ s. lowest_is s)
    (w.answers taken.i cases.i_met)
  where
    lowest_is : Stuck (settings_with 4 3) (gathered view7 63) r → r ≡ still (gathered view7 63) (Decision.Wait (NoPlacement 0))
    lowest_is s =
        ⊎_elim (λ e. s.given ∙ ap (λ (n : ℕ). still (gathered view7 63) (Decision.Wait (NoPlacement n))) e)
        (λ o. let k = s.lowest.lower 0 (omega arith) in absurd (cases.i.none k.0 k.1))
        (eq_or_ne s.group 0)

pub table : Table
table =
    record {
      a = printed;
      b = λ held l three r w. w.waits (taken.b held l) NoMajority (cases.b held l three desk_of_seven);
      c_three = λ r w. w.waits taken.c_three NoMajority c_three_short;
      c_four = λ r w. w.waits taken.c_four (NoHolder (record { 0 = 2 })) c_four_short;
      d = d_waits;
      e = λ r w. w.waits taken.e TooFew cases.e;
      f = λ r w. w.waits taken.f (NoHolder (record { 0 = 2 })) cases.f;
      i = i_waits;
    }
