-- Case A: what decide promises leaves only document 01's plan.
use Rattle.std.specs.Prelude.{ℕ, zero, suc, ◌+◌, ◌<◌, ◌≤◌, true, ◌||◌, ◌∷◌, ◌≡◌, refl, eqb, ltb, replicate}
use Rattle.std.proofs.Common.{⊎_elim, ◌∙◌, arith, eqb-true, le-ltb}
use Rattle.std.specs.Int.Count.{ones, ones_in}
use Rattle.base_laws.specs.Bools.{clash, or-holds}
use Rattle.base_laws.specs.Definitions.{all_below, any_below, count_below, lowest, count, minus, pair_not_after, tabulate}
use Rattle.base_laws.specs.Below.{all_at}
use Rattle.base_sum_laws.specs.Definitions.{sum_below}
use Rattle.settings_values.specs.Definitions.{shards, cap}
use Rattle.base_ids.specs.declared.Node.{Node}
use Rattle.message_format.specs.Definitions.{place, following, shard_apart, body_word, body_of, contents_of}
use Rattle.place_groups.specs.Definitions.{meets_set, sets_in, shard_valid, group_valid, group_valid_at, group_moves, group_moves_at}
use Rattle.report_views.specs.declared.Layout.{Layout}
use Rattle.report_views.specs.declared.Plan.{Plan}
use Rattle.report_views.specs.Definitions.{pos, start, end_of, reaches, holds, has_update, slot, report_of, mask_at, candidate, greatest, best, target, able, holder, holders_of, targets_of, layout_tidy, all_moves, no_termination}
use Rattle.history_cases.specs.Runs.{case_settings, desk, view7}
use Rattle.history_cases.proofs.Cases.{cases}
use Rattle.history_cases.specs.Placed.{plan_a, a_least}
use Rattle.state_planner.specs.declared.Decision.{Decision}
use Rattle.state_planner.specs.declared.Decided.{Decided}
use Rattle.state_planner.specs.Definitions.{planned, still, WithPlan, Decides}
use Rattle.state_laws.specs.Exactly.{plans_where_possible}
use Rattle.state_cases.specs.Start.{gathered}
use Rattle.state_cases.specs.Taken.{taken}

-- node n
abbrev the_node : ℕ → Node
the_node n = record { 0 = n }

-- the plan that document 01 prints
pub record PlanOfA (r : Decided) : Type 0 where
  pub plan : Plan
  pub given : r ≡ still (planned (gathered view7 63) plan) Decision.Planned
  pub view : plan.layout.number.0 ≡ 8
  pub members : plan.layout.members ≡ 63
  pub moves : plan.total ≡ 2
  pub holders : plan.holders ≡ the_node 0 ∷ the_node 1 ∷ the_node 5 ∷ replicate 13 (the_node 0)
  pub targets : plan.targets ≡ start ∷ pos 7 5 ∷ replicate 14 start
  -- nodes 0 and 2; 1, 4 and 5; 3
  pub shard0 : mask_at plan.layout 0 ≡ 5
  pub shard1 : mask_at plan.layout 1 ≡ 50
  pub shard2 : mask_at plan.layout 2 ≡ 8
  pub rest : (s : ℕ) → 3 ≤ s → s < 16 → mask_at plan.layout s ≡ 0

-- subgroup 0 has the plan's placement, and the others have no shard
placements : (g : ℕ) → g < 4 → group_valid case_settings 63 plan_a g ≡ true
unfolding all_below any_below ones ones_in count_below cap meets_set sets_in shard_valid shard_apart group_valid group_valid_at
placements zero l = refl
placements (suc zero) l = refl
placements (suc (suc zero)) l = refl
placements (suc (suc (suc zero))) l = refl
placements (suc (suc (suc (suc g)))) l = absurd (omega arith)

holders_are : holders_of case_settings view7 no_termination 63 desk ≡ the_node 0 ∷ the_node 1 ∷ the_node 5 ∷ replicate 13 (the_node 0)
unfolding desk ones ones_in all_below any_below lowest tabulate pair_not_after place following body_word body_of contents_of end_of reaches holds has_update slot report_of candidate greatest best target able holder holders_of
holders_are = refl

targets_are : targets_of case_settings view7 no_termination 63 desk ≡ start ∷ pos 7 5 ∷ replicate 14 start
unfolding desk ones ones_in all_below any_below lowest tabulate pair_not_after place following body_word body_of contents_of end_of reaches holds has_update slot report_of candidate greatest best target able holder targets_of
targets_are = refl

-- the moves of the three shards' masks
moved : ℕ → ℕ → ℕ → ℕ
moved a b c = count (minus a 5) + count (minus b 82) + count (minus c 32)

moves_are : (w : Layout) → all_moves case_settings view7 w ≡ moved (mask_at w 0) (mask_at w 1) (mask_at w 2)
unfolding moved all_moves sum_below group_moves group_moves_at
moves_are w = omega arith

two : (a b c : ℕ) → a ≡ 5 → b ≡ 50 → c ≡ 8 → moved a b c ≡ 2
unfolding moved ones ones_in
two a b c p q r = rw (p, q, r)

empty_from : (w : Layout) → layout_tidy case_settings w ≡ true → (s : ℕ) → 3 ≤ s → s < 16 → mask_at w s ≡ 0
unfolding layout_tidy
empty_from w t s l k =
    ⊎_elim (λ e. clash e (le-ltb s 3 l)) (λ e. eqb-true (mask_at w s) 0 e)
    (or-holds (ltb s 3) (eqb (mask_at w s) 0) (all_at 16 (λ i. ltb i (shards case_settings) || eqb (mask_at w i) 0) t s k))

module _ (r : Decided) (decides : Decides case_settings (gathered view7 63) desk r) where
  found : WithPlan case_settings (gathered view7 63) desk r
  found =
      plans_where_possible case_settings (gathered view7 63) desk r decides taken.a
      (record { quorum = cases.a_met; placements = λ g l. (plan_a, placements g l) })

  pub printed : PlanOfA r
  printed =
      let p = found.plan in
      let w = found.plans in
      let m = a_least (mask_at p.layout) (w.chosen 0 (omega arith)).least in
      record {
        plan = p;
        given = found.given;
        view = w.number;
        members = w.members;
        moves = w.total ∙ moves_are p.layout ∙ two (mask_at p.layout 0) (mask_at p.layout 1) (mask_at p.layout 2) m.0 m.1 m.2;
        holders = w.holders ∙ holders_are;
        targets = w.targets ∙ targets_are;
        shard0 = m.0;
        shard1 = m.1;
        shard2 = m.2;
        rest = empty_from p.layout w.tidy;
      }
