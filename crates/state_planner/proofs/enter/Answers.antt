-- `state_planner::enter` meets its contract: row by row, after rows 1 and 2. Assumes nothing.
use mathlib.Core.Path.{refl, sym, ◌∙◌}
use lib.ListN.{length}
use borrow.Author.Tests.{eq-eqb}
use Rattle.base_ids.specs.Results.{ok_is, err_is}
use Rattle.base_lent.specs.Definitions.{words_in}
use Rattle.report_desk.specs.Bytes.{desk_length}
use Rattle.state_rows.specs.Laws.{row_3, row_4, no_row, rows_passed}
use Rattle.state_planner.specs.Definitions.{sound, desk_ok, entry_refusal}
use Rattle.state_planner.proofs.enter.Goals as goal

-- the tables say whether the kept view and its termination pass their rows
pub is_sound-requires : goal.is_sound-requires
is_sound-requires c = record { settings = c.requires.settings; ready_value = c.tables_of-tables.ensures.ready }

pub returns-then-not-is_sound : goal.returns-then-not-is_sound
unfolding entry_refusal
returns-then-not-is_sound c =
    let s = c in
    let a = s.args in
    let d = words_in a.desk.now in
    let k = c.is_sound in
    let e = c.see-seen.ensures in
    let t = c.tables_of-tables.ensures in record {
      rows = err_is _ _ _ (row_3 (sound a.settings.now a.x d) a.in_phase (sym (k.ensures d e) ∙ c.if-not-is_sound.true)
          ∙ rows_passed (sound a.settings.now a.x d) a.in_phase (desk_ok d) a.settings.now (eq-eqb (length d) 16384 (desk_length a.desk.now s.requires.desk_len)) s.requires.settings) refl;
      seen = e;
      tables = t;
    }

pub returns-then-not-in_phase : goal.returns-then-not-in_phase
unfolding entry_refusal
returns-then-not-in_phase c =
    let s = c in
    let a = s.args in
    let d = words_in a.desk.now in
    let k = c.is_sound in
    let e = c.see-seen.ensures in
    let t = c.tables_of-tables.ensures in record {
      rows = err_is _ _ _ (row_4 (sound a.settings.now a.x d) a.in_phase (sym (k.ensures d e) ∙ c.if-not-is_sound.false) (c.if-not-in_phase.true)
          ∙ rows_passed (sound a.settings.now a.x d) a.in_phase (desk_ok d) a.settings.now (eq-eqb (length d) 16384 (desk_length a.desk.now s.requires.desk_len)) s.requires.settings) refl;
      seen = e;
      tables = t;
    }

pub returns : goal.returns
unfolding entry_refusal
returns c =
    let s = c in
    let a = s.args in
    let d = words_in a.desk.now in
    let k = c.is_sound in
    let e = c.see-seen.ensures in
    let t = c.tables_of-tables.ensures in record {
      rows = ok_is _ _ (sym (no_row (sound a.settings.now a.x d) a.in_phase (sym (k.ensures d e) ∙ c.if-not-is_sound.false) (c.if-not-in_phase.false)
          ∙ rows_passed (sound a.settings.now a.x d) a.in_phase (desk_ok d) a.settings.now (eq-eqb (length d) 16384 (desk_length a.desk.now s.requires.desk_len)) s.requires.settings));
      seen = e;
      tables = t;
    }
