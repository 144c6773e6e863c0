-- `plan_seen::read_step` meets its contract: what is accepted at once is sound, and so is what the reader accepts and fits.
use mathlib.Core.Path.{refl, sym, ◌∙◌}
use mathlib.Core.Bool.{true}
use Rattle.base_laws.specs.Bools.{clash}
use Rattle.plan_seen.specs.Steps.{words_long, read_few, stepped_other, stepped_refused, stepped_unfit, fits_sound, contents_are}
use Rattle.plan_seen.proofs.read_step.Goals as goal

pub returns-then-slot : goal.returns-then-slot
returns-then-slot c = let s = c in
    (record { holders_len_2 = s.requires.holders_len; value = λ e. (refl, refl, refl); stepped = λ e. clash c.if-slot.true e })

pub words_fit-requires : goal.words_fit-requires
words_fit-requires c = let s = c in
    record { settings = s.requires.settings; w_len = words_long s.args.b.now c.words_of-w.result c.words_of-w.ensures }

pub returns-then-words_fit : goal.returns-then-words_fit
returns-then-words_fit c = let s = c in
    let a = s.args in
    let w = c.words_of-w in
    (record { holders_len_2 = s.requires.holders_len; value = λ e. clash e c.if-slot.false; stepped = λ e d is. stepped_other a.settings.now a.v a.t d a.slot.node.0 a.b.now w.result s.requires.settings is s.requires.node_bound w.ensures a.holders.now a.tops.now (c.words_fit.ensures c.if-words_fit.true) })

pub returns-in_default : goal.returns-in_default
returns-in_default c = let s = c in
    let a = s.args in
    let w = c.words_of-w in
    (record { holders_len_2 = s.requires.holders_len; value = λ e. clash e c.if-slot.false; stepped = λ e d is. stepped_refused a.settings.now a.v a.t d a.slot.node.0 a.b.now w.result s.requires.settings is s.requires.node_bound w.ensures a.holders.now a.tops.now c.read_under.result c.read_under.ensures c.in_default.not-Ok })

pub returns-then-not-report_fits : goal.returns-then-not-report_fits
returns-then-not-report_fits c = let s = c in
    let a = s.args in
    let w = c.words_of-w in
    let f = c.report_fits in (record {
      holders_len_2 = s.requires.holders_len;
      value = λ e. clash e c.if-slot.false;
      stepped = λ e d is. stepped_unfit a.settings.now a.v a.t d a.slot.node.0 a.b.now w.result s.requires.settings is s.requires.node_bound w.ensures a.holders.now a.tops.now _ c.in-Ok.ensures
          (sym f.ensures ∙ c.if-not-report_fits.true);
    })

pub note_report-requires : goal.note_report-requires
note_report-requires c = let s = c in
    record { settings = s.requires.settings; holders_len = s.requires.holders_len; position_records = s.requires.position_records; len_bound = read_few _ _ _ c.in-Ok.ensures }

pub returns : goal.returns
returns c = let s = c in
    let a = s.args in
    let w = c.words_of-w in
    let f = c.report_fits in (record {
      holders_len_2 = c.note_report.ensures.holders_len_2;
      value = λ e. clash e c.if-slot.false;
      stepped = λ e d is.
          let ok = fits_sound a.settings.now a.v a.t d a.slot.node.0 a.b.now w.result s.requires.settings is s.requires.node_bound w.ensures a.holders.now a.tops.now _ c.in-Ok.ensures true
          (sym f.ensures ∙ c.if-not-report_fits.false) in
          record {
            sound = sym ok;
            renewed = λ q. c.note_report.ensures.by_index d a.b.now is s.requires.node_bound ok
                (contents_are a.settings.now a.v a.t d a.slot.node.0 a.b.now w.result s.requires.settings is s.requires.node_bound w.ensures a.holders.now a.tops.now _ c.in-Ok.ensures);
          };
    })
