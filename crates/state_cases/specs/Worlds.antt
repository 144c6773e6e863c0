-- Two sound states with their settings and desks that agree on subgroup 0 alone: decide would plan in the first and wait in the second,
-- they remember different views, and the watcher of subgroup 0 is shown one page. So what the theorem on watchers supposes can be met.
use Rattle.std.specs.Prelude.{ℕ, true, ◌∷◌, ◌≡◌, refl, replicate}
use Rattle.std.proofs.Common.{arith}
use Rattle.base_laws.specs.Definitions.{all_below, any_below, lowest, tabulate}
use Rattle.base_ids.specs.Definitions.{none, unless, unless_at, first_of}
use Rattle.base_roles.specs.declared.Role.TheVariants.{Watcher}
use Rattle.message_format.specs.Definitions.{place, following, row5, row8, precedes, shards_where, row6, view_ok, row7, kind_ok, plain, kind_at, shard_at, surplus, sequence_at, complete, shard_apart, row10_at, row10, is_position, view_fits, legal, row11_at, body_word, body_of, contents_of, records_refusal, head_refusal, message_refusal}
use Rattle.report_views.specs.declared.Phase.TheVariants.{Gathering}
use Rattle.report_views.specs.Definitions.{no_termination, no_plan, slot, report_of, same_view, row12, same_termination, row13, term_kept, slot_ok, slots_ok, layout_tidy, layout_blank, view_sound, term_sound_at, term_sound, nothing_kept, kept_sound, marks_sound, plan_blank, plan_fits}
use Rattle.report_rows.specs.declared.latest.Latest.{Latest}
use Rattle.report_rows.specs.Definitions.{recalled, latest_sound}
use Rattle.plan_page_cases.specs.Pair.{first_settings, second_settings, first_view, second_view, first_desk, second_desk, first_right, second_right, first_whole, second_whole, pair_agree}
use Rattle.state_planner.specs.declared.State.{State}
use Rattle.state_planner.specs.Definitions.{of_parts, sound}
use Rattle.state_page.specs.declared.Paged.{Paged}
use Rattle.state_page.specs.Definitions.{PageCalled}
use Rattle.state_page.specs.Watchers.{AgreeStates, Whole, watcher_sees}

-- nodes 0 and 1 have reported view 7, and node 2 an older one or none
abbrev remembered : ℕ → Latest
remembered n = record { views = record { 0 = 7 } ∷ record { 0 = 7 } ∷ record { 0 = n } ∷ replicate 29 (record { 0 = 0 }) }

abbrev pub first_state : State
first_state = of_parts Gathering first_view no_termination 3 0 0 no_plan (remembered 0)

abbrev pub second_state : State
second_state = of_parts Gathering second_view no_termination 3 0 0 no_plan (remembered 5)

first_sound : sound first_settings first_state first_desk ≡ true
unfolding first_desk all_below any_below lowest tabulate unless unless_at first_of place following row5 row8 precedes shards_where row6 view_ok row7 kind_ok plain kind_at shard_at surplus sequence_at complete shard_apart row10_at row10 is_position view_fits legal row11_at body_word body_of contents_of records_refusal head_refusal message_refusal slot report_of same_view row12 same_termination row13 term_kept slot_ok slots_ok layout_tidy layout_blank view_sound term_sound_at term_sound nothing_kept kept_sound marks_sound plan_blank plan_fits recalled latest_sound sound
first_sound = refl

second_sound : sound second_settings second_state second_desk ≡ true
unfolding second_desk all_below any_below lowest tabulate unless unless_at first_of place following row5 row8 precedes shards_where row6 view_ok row7 kind_ok plain kind_at shard_at surplus sequence_at complete shard_apart row10_at row10 is_position view_fits legal row11_at body_word body_of contents_of records_refusal head_refusal message_refusal slot report_of same_view row12 same_termination row13 term_kept slot_ok slots_ok layout_tidy layout_blank view_sound term_sound_at term_sound nothing_kept kept_sound marks_sound plan_blank plan_fits recalled latest_sound sound
second_sound = refl

pub first-state : Whole first_settings first_state first_desk
first-state = record { right = first_right; desk = first_whole; safe = first_sound }

pub second-state : Whole second_settings second_state second_desk
second-state = record { right = second_right; desk = second_whole; safe = second_sound }

pub states_agree : AgreeStates 0 first_settings second_settings first_state second_state first_desk second_desk
states_agree = record { phases = refl; holding = refl; parts = pair_agree }

-- the watcher of subgroup 0 is answered alike, whatever program meets the contract
pub same_answer : {r q : Paged} → PageCalled first_settings first_state first_desk (Watcher 0) 0 r
    → PageCalled second_settings second_state second_desk (Watcher 0) 0 q → (r.refusal ≡ none) × (r ≡ q)
same_answer v w = watcher_sees first-state second-state states_agree (omega arith) v w
