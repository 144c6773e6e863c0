-- Laws over the values that definitions have, where the code gives a Result or an Option.
use Rattle.report_kept.specs.Laws.{message_node}
use Rattle.std.specs.Prelude.{ℕ, ◌<◌, List, ◌≡◌}
use Rattle.std.proofs.Math.Bool.{true, false}
use Rattle.std.proofs.Math.Path.{sym, ap}
use Rattle.std.proofs.Common.{◌∙◌}
use Rattle.std.proofs.Math.ListN.{get_or}
use borrow.Author.Tests.{eq-eqb, ne_eqb}
use Rattle.settings_values.specs.Definitions.{Settings}
use Rattle.base_ids.specs.declared.Refusal.{Refusal}
use Rattle.base_ids.specs.Definitions.{refused, none, accepted}
use Rattle.base_ids.specs.Refusals.{accepted_none, first_left, first_none, first_refused}
use Rattle.message_format.specs.declared.Form.TheVariants.{Report}
use Rattle.message_format.specs.declared.Reading.{Reading}
use Rattle.message_format.specs.Definitions.{row6, message_refusal, contents_of}
use Rattle.message_reader.specs.Readings.{reading_under}
use Rattle.report_views.specs.declared.Layout.{Layout}
use Rattle.report_views.specs.declared.Termination.{Termination}
use Rattle.report_rows.specs.declared.latest.Latest.{Latest}
use Rattle.report_kept.specs.declared.Kept.{Kept}
use Rattle.report_kept.specs.Definitions.{kept_refusal, refusal_beside, renewed}
use Rattle.report_kept.specs.Reports.{reading_beside, takes_in, leaves, taken_in}

module _ (σ : List ℕ) (v : Layout) (t : Termination) (m : Latest) (w : List ℕ) (r : Reading) (e : r ≡ reading_under Report σ w) where
  refusal_is : r.refusal ≡ message_refusal Report σ w
  unfolding reading_under
  refusal_is = ap (λ (x : Reading). x.refusal) e

  pub beside_refused : (r.refusal.code ≡ 0 → ⊥) → r ≡ reading_beside σ v t m w
  unfolding reading_beside refusal_beside reading_under
  beside_refused h =
      let bad : accepted (message_refusal Report σ w) ≡ false = rw refusal_is at (ne_eqb r.refusal.code 0 h) in
      e
      ∙ ap (λ (k : Refusal). record { refusal = k; contents = (reading_under Report σ w).contents })
      (sym (first_refused (message_refusal Report σ w) (kept_refusal σ v t m (contents_of w)) bad))

  -- the node of a report that rows 5 to 11 do not refuse is one of the settings
  pub read_node : Settings σ → r.refusal.code ≡ 0 → r.contents.node.0 < 32
  unfolding reading_under row6 contents_of
  read_node right h =
      let good : accepted (message_refusal Report σ w) ≡ true = rw refusal_is at (eq-eqb r.refusal.code 0 h) in
      let same : r.contents.node.0 ≡ get_or w 0 0 = ap (λ (x : Reading). x.contents.node.0) e ∙ rw good in
      rw same (message_node σ w right (accepted_none (message_refusal Report σ w) good))

  pub beside_read : r.refusal.code ≡ 0 → (k : Refusal) → k ≡ kept_refusal σ v t m r.contents
      → record { refusal = k; contents = r.contents } ≡ reading_beside σ v t m w
  unfolding reading_beside refusal_beside reading_under
  beside_read h k f =
      let good : accepted (message_refusal Report σ w) ≡ true = rw refusal_is at (eq-eqb r.refusal.code 0 h) in
      let same : r.contents ≡ contents_of w = ap (λ (x : Reading). x.contents) e ∙ rw good in
      rw (f, same, good, first_none (message_refusal Report σ w) (kept_refusal σ v t m (contents_of w)) (accepted_none (message_refusal Report σ w) good))

-- what acceptance gives
module _ (σ : List ℕ) (v : Layout) (t : Termination) (m : Latest) (w : List ℕ) (taken : accepted (refusal_beside σ v t m w) ≡ true) where
  taken_message : message_refusal Report σ w ≡ none
  unfolding refusal_beside
  taken_message = first_left (message_refusal Report σ w) _ (accepted_none (refusal_beside σ v t m w) taken)

  taken_contents : (reading_under Report σ w).contents ≡ contents_of w
  unfolding reading_under
  taken_contents = rw taken_message

module _ (σ : List ℕ) (v : Layout) (t : Termination) (m : Latest) (w : List ℕ) where
  in-refused : accepted (refusal_beside σ v t m w) ≡ false → taken_in σ v t m w ≡ leaves (refusal_beside σ v t m w) v t
  unfolding taken_in
  in-refused h = rw h

  in_taken : accepted (refusal_beside σ v t m w) ≡ true → taken_in σ v t m w ≡ takes_in (contents_of w) (renewed σ v t (contents_of w))
  unfolding taken_in
  in_taken h = rw h

  -- r: what the reading gives
  module _ (r : Reading) (e : r ≡ reading_beside σ v t m w) where
    beside_refusal : r.refusal ≡ refusal_beside σ v t m w
    unfolding reading_beside
    beside_refusal = ap (λ (x : Reading). x.refusal) e

    pub reading_leaves : (r.refusal.code ≡ 0 → ⊥) → leaves r.refusal v t ≡ taken_in σ v t m w
    reading_leaves h =
        ap (λ (k : Refusal). leaves k v t) beside_refusal ∙ sym (in-refused (sym (ap accepted beside_refusal) ∙ ne_eqb r.refusal.code 0 h))

    pub reading_takes : r.refusal.code ≡ 0 → (k : Kept) → k ≡ renewed σ v t r.contents
        → record { refusal = r.refusal; node = r.contents.node; view = r.contents.view; kept = k.view; termination = k.termination } ≡ taken_in σ v t m w
    unfolding reading_beside
    reading_takes h k f =
        let good : accepted (refusal_beside σ v t m w) ≡ true = sym (ap accepted beside_refusal) ∙ eq-eqb r.refusal.code 0 h in
        let same : r.contents ≡ contents_of w = ap (λ (x : Reading). x.contents) e ∙ taken_contents σ v t m w good in
        rw (ap refused h, f, same, in_taken good)
