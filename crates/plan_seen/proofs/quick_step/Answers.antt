-- `plan_seen::quick_step` meets its contract: what the walk tells is sound, and the ends are those of its list.
use mathlib.Core.Path.{refl, sym}
use Rattle.base_laws.specs.Bools.{clash}
use Rattle.plan_seen.specs.Quick.{walked_sound, walked_ends}
use Rattle.plan_seen.proofs.quick_step.Goals as goal

pub returns-in_default : goal.returns-in_default
returns-in_default c = let s = c in
    (record { holders_len_2 = s.requires.holders_len; quick_step = record { same = λ e. (refl, refl); done = λ e. clash e refl } })

pub note-requires : goal.note-requires
note-requires c = let s = c in
    record { holders_len = s.requires.holders_len; last_bound = (c.in-Some.ensures.0, s.requires.le_count.1) }

pub returns : goal.returns
returns c = let s = c in
    let a = s.args in
    let m = c.member_ends-ends in (record {
      holders_len_2 = c.note.ensures.holders_len_2;
      quick_step = record {
        same = λ e. clash refl e;
        done = λ e σ v t d kept is below.
            record {
              sound = sym (walked_sound σ v t a.frame a.masks.now a.records.now a.positions.now kept d a.node.0 a.b.now _ _ is below (c.in-Some.ensures.1, c.in-Some.ensures.2));
              renewed = λ q.
                  c.note.ensures.by_index σ v t d (walked_ends σ v t a.frame a.masks.now a.records.now a.positions.now kept d a.node.0 a.b.now _ _ is below (c.in-Some.ensures.1, c.in-Some.ensures.2) m.result m.ensures)
                  kept.masks_are kept.tables.made kept.tables.positions kept.tables.count;
            };
      };
    })
