-- Document 01's cases A to I, Request Five's case J and cases K and L of caps from the rules: the one table. Reports are those of case A, and held masks name who is back.
-- What decide answers in them stands in state_cases, what the program prints in program_cases; both cite this table.
use Rattle.std.specs.Prelude.{ℕ, ◌<◌, true, not, ◌||◌, List, ◌≡◌, refl, eqb}
use Rattle.std.proofs.Common.{⊎_elim, eq-eqb}
use Rattle.std.specs.Int.Count.{ones, ones_in}
use Rattle.base_laws.specs.Bools.{clash, or-holds, of_not_true}
use Rattle.base_laws.specs.Definitions.{all_below, any_below, lowest, count, tabulate, pair_not_after}
use Rattle.base_laws.specs.Below.{all_at}
use Rattle.message_format.specs.Definitions.{place, following, body_word, body_of, contents_of}
use Rattle.report_views.specs.declared.Reason.TheVariants.{NoMajority}
use Rattle.report_views.specs.declared.Quorum.TheVariants.{Short}
use Rattle.report_views.specs.Definitions.{end_of, runs_from, runs_of, reaches, holds, has_update, slot, report_of, candidate, greatest, best, target, able, holder, majority, first_unheld, quorum_of, runs_to, shared_after, cut_from, no_termination}
use Rattle.history_cases.specs.Runs.{case_settings, desk, view7}
use Rattle.history_cases.specs.Placed.{three, a_valid, a_moves, a_least, a_chosen, i_none}
use Rattle.history_cases.specs.Caps.{four_move}
use Rattle.history_cases.proofs.Caps.{four_chosen, four_kept, prefix_chosen}
use Rattle.history_cases.specs.Cases.{Cases, b-test}

-- a view whose members are no majority waits for them
short : (held : ℕ) (d : List ℕ) → not (majority view7 held) ≡ true → quorum_of case_settings view7 no_termination held d ≡ Short NoMajority
unfolding quorum_of
short held d h = rw h

b_short : (held : ℕ) → held < 128 → count held ≡ 3 → (d : List ℕ) → quorum_of case_settings view7 no_termination held d ≡ Short NoMajority
b_short held l three d =
    ⊎_elim (λ n. clash (eq-eqb (count held) 3 three) (of_not_true (eqb (count held) 3) n)) (λ m. short held d m)
    (or-holds (not (eqb (count held) 3)) (not (majority view7 held)) (all_at 128 (λ m. not (eqb (count m) 3) || not (majority view7 m)) b-test held l))

pub cases : Cases
unfolding desk ones ones_in all_below any_below lowest tabulate pair_not_after place following body_word body_of contents_of end_of reaches holds has_update slot report_of candidate greatest best target able holder majority first_unheld quorum_of runs_from runs_of runs_to shared_after cut_from
cases =
    record {
      a_met = refl;
      a_holder0 = refl;
      a_holder1 = refl;
      a_holder2 = refl;
      a_target0 = refl;
      a_target1 = refl;
      a_target2 = refl;
      a_placed = a_valid;
      a_moved = a_moves;
      a_only = a_least;
      a_first = a_chosen;
      b = b_short;
      c_three = refl;
      c_four = refl;
      d = refl;
      e = refl;
      f = refl;
      g = refl;
      h_later = refl;
      h_within = refl;
      h_empty = refl;
      j = refl;
      i_met = refl;
      i = i_none;
      k = four_chosen;
      k_moves = four_move;
      k_only = four_kept;
      l = prefix_chosen;
    }
