-- A row for each clause of when the page call is refused, and of what a role learns to which the page is not allowed: with the clause left
-- out or turned round the row would be false.
use Rattle.std.specs.Prelude.{true, false, [], ◌≡◌, refl}
use Rattle.base_laws.specs.Definitions.{all_below, tabulate}
use Rattle.base_ids.specs.Definitions.{none, refused, unless}
use Rattle.base_roles.specs.declared.Role.TheVariants.{Planner, Watcher}
use Rattle.base_roles.specs.Definitions.{may_read}
use Rattle.settings_values.specs.Definitions.{cap, sizes_ok, nodes_ok, shard_ok, shards_ok, settings_ok}
use Rattle.message_format.specs.Definitions.{view_ok, shard_apart, row10_at, row10}
use Rattle.report_views.specs.Definitions.{slots_ok, layout_tidy, layout_blank, view_sound, term_sound_at, term_sound, nothing_kept, kept_sound, marks_sound, plan_blank, plan_fits}
use Rattle.report_rows.specs.Definitions.{no_latest, recalled, latest_sound}
use Rattle.history_cases.specs.Runs.{case_settings, desk}
use Rattle.state_planner.specs.declared.State.{State}
use Rattle.state_planner.specs.Definitions.{sound, fresh, marked}
use Rattle.state_page.specs.Definitions.{sound_refusal, page_refusal}
use Rattle.state_page.specs.Paging.{asked_refusal}
use Rattle.state_page.specs.Watchers.{barred_refusal}

-- the fresh state, and with a mark: unsound
abbrev broken : State
broken = marked fresh fresh.phase 1 0

pub record PageClauses : Type 0 where
  -- the desk's length before all else, then the settings, then the role, then the state
  pub short_desk : page_refusal [] broken [] (Watcher 0) 1 ≡ refused 1
  pub wrong_settings : page_refusal [] broken desk (Watcher 0) 1 ≡ refused 2
  pub foreign : page_refusal case_settings broken desk (Watcher 0) 1 ≡ refused 15
  pub above : page_refusal case_settings broken desk Planner 4 ≡ refused 15
  pub own_unsound : page_refusal case_settings broken desk (Watcher 0) 0 ≡ refused 3
  pub planner_unsound : page_refusal case_settings broken desk Planner 1 ≡ refused 3
  pub own : page_refusal case_settings fresh desk (Watcher 0) 0 ≡ none
  pub planner : page_refusal case_settings fresh desk Planner 3 ≡ none
  -- the first three alone
  pub asked_desk : asked_refusal [] [] (Watcher 0) 1 ≡ refused 1
  pub asked_settings : asked_refusal [] desk (Watcher 0) 1 ≡ refused 2
  pub asked_role : asked_refusal case_settings desk (Watcher 0) 1 ≡ refused 15
  pub asked_none : asked_refusal case_settings desk (Watcher 0) 0 ≡ none
  -- the last alone
  pub state_unsound : sound_refusal case_settings broken desk ≡ refused 3
  pub state_sound : sound_refusal case_settings fresh desk ≡ none
  -- what is told to a role to which the page is not allowed
  pub barred_desk : barred_refusal [] [] ≡ refused 1
  pub barred_settings : barred_refusal [] desk ≡ refused 2
  pub barred_role : barred_refusal case_settings desk ≡ refused 15

fresh_sound : sound case_settings fresh desk ≡ true
unfolding all_below tabulate view_ok shard_apart row10_at row10 slots_ok layout_tidy layout_blank view_sound term_sound_at term_sound nothing_kept kept_sound marks_sound plan_blank plan_fits no_latest recalled latest_sound fresh sound
fresh_sound = refl

broken_unsound : sound case_settings broken desk ≡ false
unfolding all_below tabulate view_ok shard_apart row10_at row10 slots_ok layout_tidy layout_blank view_sound term_sound_at term_sound nothing_kept kept_sound marks_sound plan_blank plan_fits no_latest recalled latest_sound fresh marked sound
broken_unsound = refl

pub page_clauses : PageClauses
unfolding desk all_below sizes_ok nodes_ok cap shard_ok shards_ok settings_ok unless may_read sound_refusal asked_refusal page_refusal barred_refusal
page_clauses =
    record {
      short_desk = refl;
      wrong_settings = refl;
      foreign = refl;
      above = refl;
      own_unsound = rw broken_unsound;
      planner_unsound = rw broken_unsound;
      own = rw fresh_sound;
      planner = rw fresh_sound;
      asked_desk = refl;
      asked_settings = refl;
      asked_role = refl;
      asked_none = refl;
      state_unsound = rw broken_unsound;
      state_sound = rw fresh_sound;
      barred_desk = refl;
      barred_settings = refl;
      barred_role = refl;
    }
