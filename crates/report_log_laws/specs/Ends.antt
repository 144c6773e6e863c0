-- In a report that passes rows 9 and 11 the end of a log is a position whose view is not above the report's.
use Rattle.std.specs.Prelude.{ℕ, ◌+◌, ◌<◌, ◌≤◌, ◌&&◌, List, ◌≡◌, refl}
use Rattle.std.proofs.Common.{zero-le, arith, ⊎_elim}
use Rattle.std.proofs.Math.Bool.{true}
use Rattle.std.proofs.Math.Dec.{leb}
use borrow.Author.Tests.{eqb-true, leb-true}
use Rattle.base_laws.specs.Bools.{and_right}
use Rattle.base_laws.specs.Below.{all_at}
use Rattle.base_ids.specs.declared.Position.{Position}
use Rattle.message_format.specs.declared.Form.TheVariants.{Report}
use Rattle.message_format.specs.Definitions.{tag, word1, word2, kind, is_position, view_fits, legal, row11_at}
use Rattle.message_format.specs.Passed.{RecordsPass}
use Rattle.report_views.specs.Definitions.{is_run, end_of}
use Rattle.report_views.specs.RunLaws.{passed_runs, position_start, position_from, LastRun, end_cases}

-- a position, and its view is at most v
pub record LegalEnd (v : ℕ) (p : Position) : Type 0 where
  pub is-position : is_position p.view.0 p.k ≡ true
  pub no_later : p.view.0 ≤ v

module _ (σ : List ℕ) (node view members : ℕ) (b : List ℕ) (len : ℕ) (p : RecordsPass Report σ node view members b len) (s : ℕ) (small : s < 256) where
  run_view : (j : ℕ) → j < len → is_run b s j ≡ true → word1 b j ≤ view
  unfolding row11_at legal view_fits
  run_view j l r =
      let e : kind b j ≡ 3 = omega (arith, eqb-true (tag b j) (768 + s) r) in
      let h : (leb 1 (word1 b j) && leb 1 (word2 b j) && leb (word1 b j) view) ≡ true =
      rw e at (all_at len (row11_at Report view members b) p.positions-pass j l) in
      leb-true (word1 b j) view (and_right (leb 1 (word1 b j) && leb 1 (word2 b j)) (leb (word1 b j) view) h)

  pub end_legal : LegalEnd view (end_of b s len)
  end_legal = ⊎_elim (λ e. rw e (record { is-position = position_start 0 0 refl refl; no_later = zero-le })) (λ w. last w.0 w.1) (end_cases b s len)
    where
      last : (j : ℕ) → LastRun b s len j (end_of b s len) → LegalEnd view (end_of b s len)
      last j r =
          let runs = passed_runs σ node view members b len p s small in
          rw r.at
          (record {
            is-position = position_from (word1 b j) (word2 b j) (runs.view_from j r.below r.is-run) (runs.count_from j r.below r.is-run);
            no_later = run_view j r.below r.is-run;
          })
