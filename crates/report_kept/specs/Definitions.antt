-- A report taken in: when it is refused beside what is kept, and what is kept after it.
use Rattle.std.specs.Prelude.{ℕ, cond, not, ◌&&◌, List, eqb, ltb}
use Rattle.base_laws.specs.Definitions.{tabulate}
use Rattle.base_ids.specs.declared.Refusal.{Refusal}
use Rattle.base_ids.specs.Definitions.{none, unless, first_of}
use Rattle.settings_values.specs.Definitions.{shards}
use Rattle.message_format.specs.declared.Form.TheVariants.{Report}
use Rattle.message_format.specs.declared.Contents.{Contents}
use Rattle.message_format.specs.Definitions.{members_of, message_refusal, contents_of}
use Rattle.report_views.specs.declared.Layout.{Layout}
use Rattle.report_views.specs.declared.Termination.{Termination}
use Rattle.report_views.specs.Definitions.{start, terminated, terminated_at, row12, row13}
use Rattle.report_rows.specs.declared.latest.Latest.{Latest}
use Rattle.report_rows.specs.Definitions.{row18}
use Rattle.report_kept.specs.declared.Kept.{Kept}

-- row 18, then rows 12 and 13 of what a report says
unfoldable pub kept_refusal : List ℕ → Layout → Termination → Latest → Contents → Refusal
kept_refusal σ v t m c = unless (row18 m c) 18 (unless (row12 σ v c) 12 (unless (row13 σ v t c) 13 none))

-- rows 5 to 11, 18, 12 and 13 of a report, where v with t is kept and m remembered
unfoldable pub refusal_beside : List ℕ → Layout → Termination → Latest → List ℕ → Refusal
refusal_beside σ v t m w = first_of (message_refusal Report σ w) (kept_refusal σ v t m (contents_of w))

-- the view that a report gives
unfoldable pub layout_of : List ℕ → Contents → Layout
layout_of σ c =
    record {
      number = c.view;
      members = c.members;
      masks = tabulate 16 (λ s. cond (ltb s (shards σ)) (members_of c.body s) 0);
    }

-- the termination that a report gives, or none
unfoldable pub termination_of : List ℕ → Contents → Termination
termination_of σ c =
    record {
      made = terminated σ c;
      positions = tabulate 16 (λ s. cond (terminated σ c && ltb s (shards σ)) (terminated_at σ c s) start);
    }

abbrev pub keeps : Layout → Termination → Kept
keeps v t = record { view = v; termination = t }

-- what is kept after a report. A greater view becomes the kept view, with its termination or none; an equal one adds its
-- termination if none is kept; a smaller one changes neither.
unfoldable pub renewed : List ℕ → Layout → Termination → Contents → Kept
renewed σ v t c =
    cond (ltb v.number.0 c.view.0) (keeps (layout_of σ c) (termination_of σ c))
    (cond (eqb v.number.0 c.view.0 && not t.made) (keeps v (termination_of σ c)) (keeps v t))
