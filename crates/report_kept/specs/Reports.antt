-- What taking a report in hands back.
use Rattle.std.specs.Prelude.{ℕ, cond, List}
use Rattle.base_ids.specs.declared.Refusal.{Refusal}
use Rattle.base_ids.specs.Definitions.{none, accepted}
use Rattle.message_format.specs.declared.Form.TheVariants.{Report}
use Rattle.message_format.specs.declared.Contents.{Contents}
use Rattle.message_format.specs.declared.Reading.{Reading}
use Rattle.message_format.specs.Definitions.{contents_of}
use Rattle.message_reader.specs.Readings.{reading_under}
use Rattle.report_views.specs.declared.Layout.{Layout}
use Rattle.report_views.specs.declared.Termination.{Termination}
use Rattle.report_rows.specs.declared.latest.Latest.{Latest}
use Rattle.report_kept.specs.declared.Kept.{Kept}
use Rattle.report_kept.specs.declared.Received.{Received}
use Rattle.report_kept.specs.Definitions.{renewed, refusal_beside}

-- that refusal, and what the reader gives
unfoldable pub reading_beside : List ℕ → Layout → Termination → Latest → List ℕ → Reading
reading_beside σ v t m w =
    record {
      refusal = refusal_beside σ v t m w;
      contents = (reading_under Report σ w).contents;
    }

-- a report that says c, after which k is kept
abbrev pub takes_in : Contents → Kept → Received
takes_in c k = record { refusal = none; node = c.node; view = c.view; kept = k.view; termination = k.termination }

-- a report with a refusal leaves what is kept
abbrev pub leaves : Refusal → Layout → Termination → Received
leaves r v t = record { refusal = r; node = record { 0 = 0 }; view = record { 0 = 0 }; kept = v; termination = t }

-- a report beside what is kept and remembered
unfoldable pub taken_in : List ℕ → Layout → Termination → Latest → List ℕ → Received
taken_in σ v t m w =
    cond (accepted (refusal_beside σ v t m w)) (takes_in (contents_of w) (renewed σ v t (contents_of w))) (leaves (refusal_beside σ v t m w) v t)
