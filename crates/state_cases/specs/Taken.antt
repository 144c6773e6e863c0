-- Decide refuses none of the runs: desk, settings, state and phase are right in each.
use Rattle.std.specs.Prelude.{ℕ, ◌<◌, Bool, true, false, cond, not, ◌||◌, ◌≡◌, refl, leb}
use Rattle.std.proofs.Common.{arith, ⊎_elim, ap, ◌∙◌, leb-true}
use Rattle.base_laws.specs.Bools.{either, and_both, or_left, or_right, not_of_false}
use Rattle.base_laws.specs.Definitions.{all_below, any_below, lowest, has, tabulate}
use Rattle.base_laws.specs.Below.{all_at, all_of}
use Rattle.base_laws.specs.Masks.{has_below, lt_within}
use Rattle.base_laws.specs.Tables.{get_d_tabulate}
use Rattle.settings_values.specs.Definitions.{cap, sizes_ok, nodes_ok, shard_ok, shards_ok, settings_ok}
use Rattle.base_ids.specs.Definitions.{none, accepted, unless, unless_at, first_of}
use Rattle.base_ids.specs.declared.View.{View}
use Rattle.message_format.specs.Definitions.{place, following, row5, row8, precedes, shards_where, row6, view_ok, row7, kind_ok, plain, kind_at, shard_at, surplus, sequence_at, complete, shard_apart, row10_at, row10, is_position, view_fits, legal, row11_at, body_word, body_of, contents_of, records_refusal, head_refusal, message_refusal}
use Rattle.report_views.specs.Definitions.{slot, report_of, same_view, row12, same_termination, row13, term_kept, slot_ok, slots_ok, layout_tidy, layout_blank, view_sound, position_sound, term_sound_at, term_sound, nothing_kept, kept_sound, marks_sound, plan_blank, plan_fits, no_termination}
use Rattle.report_views.specs.Shorthands.{view_of}
use Rattle.report_rows.specs.Definitions.{no_latest, latest_at, recalled, latest_sound}
use Rattle.report_rows.specs.Laws.{latest-test}
use Rattle.history_cases.specs.Runs.{case_settings, settings_with, desk, view7, six_members}
use Rattle.state_planner.specs.Definitions.{sound, fresh, entry_refusal, decide_refusal}
use Rattle.state_cases.specs.Start.{reported_at, gathered, desk_of_six, desk_of_seven}

pub record StatesTaken : Type 0 where
  pub a : accepted (decide_refusal case_settings (gathered view7 63) desk) ≡ true
  pub b : (held : ℕ) → held < 128 → accepted (decide_refusal case_settings (gathered view7 held) desk_of_seven) ≡ true
  pub c_three : accepted (decide_refusal case_settings (gathered six_members 7) desk_of_six) ≡ true
  pub c_four : accepted (decide_refusal case_settings (gathered six_members 15) desk_of_six) ≡ true
  pub d : accepted (decide_refusal case_settings fresh desk) ≡ true
  pub e : accepted (decide_refusal (settings_with 7 2) (gathered view7 63) desk) ≡ true
  pub f : accepted (decide_refusal case_settings (gathered view7 31) desk) ≡ true
  pub i : accepted (decide_refusal (settings_with 4 3) (gathered view7 63) desk) ≡ true

-- ---- B: the seven slots are sound, so those of any held nodes are

seven : all_below 7 (slot_ok case_settings view7 no_termination desk_of_seven) ≡ true
unfolding desk_of_seven all_below any_below lowest tabulate unless unless_at first_of place following row5 row8 precedes shards_where row6 view_ok row7 kind_ok plain kind_at shard_at surplus sequence_at complete shard_apart row10_at row10 is_position view_fits legal row11_at body_word body_of contents_of records_refusal head_refusal message_refusal slot report_of same_view row12 same_termination row13 term_kept slot_ok
seven = refl

held_slots : (held : ℕ) → held < 128 → slots_ok case_settings view7 no_termination held desk_of_seven ≡ true
unfolding slots_ok
held_slots held l =
    all_of 32 (λ n. not (has held n) || slot_ok case_settings view7 no_termination desk_of_seven n)
    (λ n k.
    ⊎_elim
    (λ h. or_right (not (has held n)) (all_at 7 (slot_ok case_settings view7 no_termination desk_of_seven) seven n (has_below held 7 n (omega arith) h)))
    (λ h. or_left (slot_ok case_settings view7 no_termination desk_of_seven n) (not_of_false h))
    (either (has held n)))

held_kept : (held : ℕ) → held < 128 → kept_sound case_settings view7 no_termination held ≡ true
unfolding all_below view_ok shard_apart row10_at row10 layout_tidy layout_blank view_sound term_sound_at term_sound nothing_kept kept_sound
held_kept held l = and_both refl (lt_within 7 held (omega arith))

-- each held node is remembered at view 7
views_seven : all_below 7 (λ n. leb (view_of desk_of_seven n) 7) ≡ true
unfolding desk_of_seven all_below place following body_word body_of contents_of slot report_of
views_seven = refl

held_latest : (held : ℕ) → held < 128 → latest_sound case_settings 7 held desk_of_seven (reported_at 7 held) ≡ true
held_latest held l =
    latest-test case_settings 7 held desk_of_seven (reported_at 7 held)
    (record {
      from_report = λ n k h.
          let v = leb-true (view_of desk_of_seven n) 7 (all_at 7 (λ i. leb (view_of desk_of_seven i) 7) views_seven n (has_below held 7 n (omega arith) h)) in
          omega (arith, entry n k true h);
      to_kept = λ n k h. omega (arith, entry n k true h);
      none_past = λ n k p. ⊎_elim (λ h. absurd (omega (arith, has_below held 7 n (omega arith) h))) (entry n k false) (either (has held n));
    })
  where
    entry : (n : ℕ) → n < 32 → (b : Bool) → has held n ≡ b → latest_at (reported_at 7 held) n ≡ cond b 7 0
    entry n k b h =
        ap (λ (v : View). v.0) (get_d_tabulate 32 (λ i. record { 0 = cond (has held i) 7 0 }) n (record { 0 = 0 }) k) ∙ rw h

held_sound : (held : ℕ) → held < 128 → sound case_settings (gathered view7 held) desk_of_seven ≡ true
unfolding all_below layout_blank marks_sound plan_blank plan_fits sound
held_sound held l = and_both (and_both (and_both (and_both (held_kept held l) (held_slots held l)) refl) (held_latest held l)) refl

-- rows 1 to 4 find nothing wrong
entered : (lengths settings state : Bool) → lengths ≡ true → settings ≡ true → state ≡ true → accepted (unless lengths 1 (unless settings 2 (unless state 3 (unless true 4 none)))) ≡ true
unfolding unless
entered lengths settings state a b c = rw (a, b, c)

b_taken : (held : ℕ) → held < 128 → accepted (decide_refusal case_settings (gathered view7 held) desk_of_seven) ≡ true
unfolding desk_of_seven all_below sizes_ok nodes_ok cap shard_ok shards_ok settings_ok entry_refusal decide_refusal
b_taken held l = entered _ _ _ refl refl (held_sound held l)

pub taken : StatesTaken
unfolding desk desk_of_six fresh all_below any_below lowest tabulate sizes_ok nodes_ok cap shard_ok shards_ok settings_ok unless unless_at first_of place following row5 row8 precedes shards_where row6 view_ok row7 kind_ok plain kind_at shard_at surplus sequence_at complete shard_apart row10_at row10 is_position view_fits legal row11_at body_word body_of contents_of records_refusal head_refusal message_refusal slot report_of same_view row12 same_termination row13 term_kept slot_ok slots_ok layout_tidy layout_blank view_sound position_sound term_sound_at term_sound nothing_kept kept_sound marks_sound plan_blank plan_fits no_latest recalled latest_sound sound entry_refusal decide_refusal
taken =
    record {
      a = refl;
      b = b_taken;
      c_three = refl;
      c_four = refl;
      d = refl;
      e = refl;
      f = refl;
      i = refl;
    }
