-- Document 01's cases A to I, Request Five's case J and cases K and L of caps from the rules: the one table. Reports are those of case A, and held masks name who is back.
-- What decide answers in them stands in state_cases, what the program prints in program_cases; both cite this table.
use Rattle.std.specs.Prelude.{ℕ, ◌<◌, true, not, ◌||◌, List, [], ◌∷◌, ◌≡◌, refl, eqb}
use Rattle.std.specs.Int.Count.{ones, ones_in}
use Rattle.base_laws.specs.Definitions.{all_below, count}
use Rattle.place_groups.specs.Definitions.{group_valid, group_moves, Impossible, LeastMoves, Chosen}
use Rattle.report_views.specs.declared.Reason.TheVariants.{NoView, NoMajority, TooFew, NoHolder}
use Rattle.report_views.specs.declared.Quorum.TheVariants.{Met, Short}
use Rattle.report_views.specs.Definitions.{pos, mask_at, target, holder, majority, quorum_of, no_view, no_termination}
use Rattle.report_views.specs.Cuts.{cut}
use Rattle.history_cases.specs.Runs.{case_settings, settings_with, desk, view7, six_members, log_of}
use Rattle.history_cases.specs.Placed.{three, plan_a}
use Rattle.history_cases.specs.Caps.{cap_of_four, prefix_settings}

pub record Cases : Type 0 where
  -- A: nodes 0 to 5. Every quorum condition is met; holders and targets of the three shards; the plan's placement is valid with two
  -- moves, it is the only valid one of least moves, and the order chooses it
  pub a_met : quorum_of case_settings view7 no_termination 63 desk ≡ Met
  pub a_holder0 : holder view7 no_termination 63 desk 0 ≡ 0
  pub a_holder1 : holder view7 no_termination 63 desk 1 ≡ 1
  pub a_holder2 : holder view7 no_termination 63 desk 2 ≡ 5
  pub a_target0 : target view7 no_termination 63 desk 0 ≡ pos 0 0
  pub a_target1 : target view7 no_termination 63 desk 1 ≡ pos 7 5
  pub a_target2 : target view7 no_termination 63 desk 2 ≡ pos 0 0
  pub a_placed : group_valid case_settings 63 plan_a 0 ≡ true
  pub a_moved : group_moves case_settings (mask_at view7) plan_a 0 ≡ 2
  pub a_only : (P : ℕ → ℕ) → LeastMoves case_settings 63 (mask_at view7) P 0 → (P 0 ≡ 5) × (P 1 ≡ 50) × (P 2 ≡ 8)
  pub a_first : Chosen case_settings 63 (mask_at view7) plan_a 0
  -- B: any three of the seven, whatever the desk
  pub b : (held : ℕ) → held < 128 → count held ≡ 3 → (d : List ℕ) → quorum_of case_settings view7 no_termination held d ≡ Short NoMajority
  -- C: three of six members, and four
  pub c_three : quorum_of case_settings six_members no_termination 7 desk ≡ Short NoMajority
  pub c_four : majority six_members 15 ≡ true
  -- D: no report
  pub d : quorum_of case_settings no_view no_termination 0 desk ≡ Short NoView
  -- E: least size 7
  pub e : quorum_of (settings_with 7 2) view7 no_termination 63 desk ≡ Short TooFew
  -- F: A without node 5
  pub f : quorum_of case_settings view7 no_termination 31 desk ≡ Short (NoHolder (record { 0 = 2 }))
  -- G and H: cuts against the holder's log. A node that ends in view 6 has run (5, 3) before it, one that ends in view 5 nothing
  pub g : cut (log_of 2 (768 ∷ 5 ∷ 3 ∷ 768 ∷ 6 ∷ 9 ∷ [])) (log_of 2 (768 ∷ 5 ∷ 3 ∷ 768 ∷ 6 ∷ 8 ∷ [])) 0 (pos 6 8) ≡ pos 6 8
  pub h_later : cut (log_of 2 (768 ∷ 5 ∷ 3 ∷ 768 ∷ 6 ∷ 9 ∷ [])) (log_of 2 (768 ∷ 5 ∷ 3 ∷ 768 ∷ 7 ∷ 2 ∷ [])) 0 (pos 7 2) ≡ pos 5 3
  pub h_within : cut (log_of 1 (768 ∷ 5 ∷ 2 ∷ [])) (log_of 2 (768 ∷ 5 ∷ 3 ∷ 768 ∷ 7 ∷ 2 ∷ [])) 0 (pos 7 2) ≡ pos 5 2
  pub h_empty : cut (log_of 0 []) (log_of 2 (768 ∷ 5 ∷ 3 ∷ 768 ∷ 7 ∷ 2 ∷ [])) 0 (pos 7 2) ≡ pos 0 0
  -- J: logs that end at one position and differ before it
  pub j : cut (log_of 2 (768 ∷ 5 ∷ 2 ∷ 768 ∷ 6 ∷ 2 ∷ [])) (log_of 2 (768 ∷ 5 ∷ 3 ∷ 768 ∷ 6 ∷ 2 ∷ [])) 0 (pos 6 2) ≡ pos 5 2
  -- I: A with shard 0 needing 3. Every quorum condition is met, and no placement of subgroup 0 is valid
  pub i_met : quorum_of (settings_with 4 3) view7 no_termination 63 desk ≡ Met
  pub i : Impossible (settings_with 4 3) 63 0
  -- K: one shard that needs two sets, may have four nodes and had four, all held, keeps all of them
  pub k : Chosen cap_of_four 15 (λ s. 15) (λ s. 15) 0
  pub k_moves : group_moves cap_of_four (λ s. 15) (λ s. 15) 0 ≡ 0
  pub k_only : (P : ℕ → ℕ) → Chosen cap_of_four 15 (λ s. 15) P 0 → P 0 ≡ 15
  -- L: shards 0 and 1 had two nodes each and may keep them, shard 2 gets one of those: node 1, since a list that is a prefix comes first
  pub l : Chosen prefix_settings 15 (three 3 12 0) (three 1 12 2) 0

-- B, tried with every mask of the seven nodes: one of three nodes is no majority
pub b-test : all_below 128 (λ held. not (eqb (count held) 3) || not (majority view7 held)) ≡ true
unfolding ones ones_in all_below majority
b-test = refl
