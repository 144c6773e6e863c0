-- Games worked out, computed: who wins, by rounds and held nodes.
use Rattle.std.specs.Prelude.{ℕ, Bool, ◌||◌, ◌≡◌, refl, eqb}
use Rattle.base_laws.specs.Definitions.{all_below, any_below, lowest}
use Rattle.game_rules.specs.declared.Winner.{Winner}
use Rattle.game_rules.specs.declared.Winner.TheVariants.{Crew, Outage}
use Rattle.game_rules.specs.declared.Lead.TheVariants.{Taking, Passing}
use Rattle.game_rules.specs.Definitions.{lead_by}
use Rattle.game_rules.specs.Turns.{outage_turn, crew_turn, wins, first_move, winner_of}

-- the outage wins by taking node o first
abbrev takes_first : ℕ → Winner
takes_first o = Outage (Taking (record { 0 = o }))

-- ---- seven nodes: case A's settings and a report of each

abbrev seven_plans : ℕ → Bool
seven_plans h = eqb h 63 || eqb h 111 || eqb h 119 || eqb h 123 || eqb h 125 || eqb h 126 || eqb h 127

-- by rounds, with a mask held
abbrev seven_won : ℕ → ℕ → Winner
seven_won rounds h = winner_of 7 seven_plans rounds h

pub record SevenRows : Type 0 where
  -- all held: without node 5 there is no plan, and the crew may not bring it back at once
  pub full_0 : seven_won 0 127 ≡ Crew
  pub full_1 : seven_won 1 127 ≡ takes_first 5
  pub full_2 : seven_won 2 127 ≡ takes_first 0
  pub full_3 : seven_won 3 127 ≡ takes_first 0
  -- node 0 is absent
  pub without_0_1 : seven_won 1 126 ≡ takes_first 5
  pub without_0_2 : seven_won 2 126 ≡ takes_first 1
  -- with node 5 absent there is no plan, but the start is not asked
  pub without_5_0 : seven_won 0 95 ≡ Crew
  pub without_5_1 : seven_won 1 95 ≡ Crew
  pub without_5_2 : seven_won 2 95 ≡ takes_first 0
  pub without_6_1 : seven_won 1 63 ≡ takes_first 5
  pub without_6_2 : seven_won 2 63 ≡ takes_first 0
  pub alone_5 : seven_won 1 32 ≡ takes_first 5
  pub alone_6 : seven_won 1 64 ≡ takes_first 6
  -- nobody held: the outage wins by passing
  pub nobody_0 : seven_won 0 0 ≡ Crew
  pub nobody_1 : seven_won 1 0 ≡ Outage Passing
  pub nobody_2 : seven_won 2 0 ≡ Outage Passing

pub seven_rows : SevenRows
unfolding winner_of first_move wins outage_turn crew_turn all_below any_below lowest lead_by
seven_rows =
    record {
      full_0 = refl;
      full_1 = refl;
      full_2 = refl;
      full_3 = refl;
      without_0_1 = refl;
      without_0_2 = refl;
      without_5_0 = refl;
      without_5_1 = refl;
      without_5_2 = refl;
      without_6_1 = refl;
      without_6_2 = refl;
      alone_5 = refl;
      alone_6 = refl;
      nobody_0 = refl;
      nobody_1 = refl;
      nobody_2 = refl;
    }

-- ---- four nodes: masks 3, 5 and 6 tell one round from two

abbrev four_plans : ℕ → Bool
four_plans h = eqb h 5 || eqb h 6 || eqb h 7 || eqb h 11 || eqb h 13 || eqb h 14 || eqb h 15

abbrev four_won : ℕ → ℕ → Winner
four_won rounds h = winner_of 4 four_plans rounds h

pub record FourRows : Type 0 where
  pub three_1 : four_won 1 3 ≡ Crew
  pub three_2 : four_won 2 3 ≡ takes_first 0
  pub five_1 : four_won 1 5 ≡ takes_first 2
  pub five_2 : four_won 2 5 ≡ takes_first 0
  pub six_1 : four_won 1 6 ≡ takes_first 2
  pub six_2 : four_won 2 6 ≡ takes_first 1
  pub ten_3 : four_won 3 10 ≡ takes_first 1
  pub seven_3 : four_won 3 7 ≡ Crew
  pub full_four : four_won 3 15 ≡ Crew

pub four_rows : FourRows
unfolding winner_of first_move wins outage_turn crew_turn all_below any_below lowest lead_by
four_rows =
    record {
      three_1 = refl;
      three_2 = refl;
      five_1 = refl;
      five_2 = refl;
      six_1 = refl;
      six_2 = refl;
      ten_3 = refl;
      seven_3 = refl;
      full_four = refl;
    }

-- ---- five nodes, of which the crew keeps a pair: the third round is the first that it loses

abbrev five_plans : ℕ → Bool
five_plans h = eqb h 3 || eqb h 5 || eqb h 6 || eqb h 17 || eqb h 24

pub record FiveRows : Type 0 where
  pub lasts_2 : winner_of 5 five_plans 2 18 ≡ Crew
  pub lost_3 : winner_of 5 five_plans 3 18 ≡ takes_first 1

pub five_rows : FiveRows
unfolding winner_of first_move wins outage_turn crew_turn all_below any_below lowest lead_by
five_rows = record { lasts_2 = refl; lost_3 = refl }

-- ---- a side moves where it can, and passes where it cannot

pub record PassingRows : Type 0 where
  -- one node, needed: with it the crew has nothing to bring back and passes; without it the crew brings it back, and one round later it is taken
  pub one_held : winner_of 1 (eqb 1) 1 1 ≡ takes_first 0
  pub one_absent_1 : winner_of 1 (eqb 1) 1 0 ≡ Crew
  pub one_absent_2 : winner_of 1 (eqb 1) 2 0 ≡ Outage Passing
  -- a plan with nobody held, and none else: the crew has to bring node 1 back, and the outage has to take node 0
  pub crew_moves : winner_of 2 (eqb 0) 1 1 ≡ takes_first 0
  pub outage-moves : winner_of 1 (eqb 0) 1 1 ≡ Crew

pub passing_rows : PassingRows
unfolding winner_of first_move wins outage_turn crew_turn all_below any_below lowest lead_by
passing_rows = record { one_held = refl; one_absent_1 = refl; one_absent_2 = refl; crew_moves = refl; outage-moves = refl }
