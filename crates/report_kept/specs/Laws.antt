-- The functions' answers as the definitions: a view and a termination from the words of the body, what is kept case by
-- case, and what acceptance gives of a report.
use Rattle.std.specs.Prelude.{ℕ, ◌%◌, ◌<◌, ◌≤◌, ◌&&◌, List, ◌≡◌, refl, eqb, length, replicate, Ok, Err}
use Rattle.std.proofs.Math.Bool.{true, false}
use Rattle.std.proofs.Math.Logic.{⊎_elim}
use Rattle.std.proofs.Math.Path.{sym, ap}
use Rattle.std.proofs.Common.{◌∙◌, arith}
use Rattle.std.proofs.Math.Dec.{leb}
use Rattle.std.proofs.Math.ListN.{get_or}
use borrow.Author.Tests.{eq-eqb, ne_eqb, lt-ltb, le-ltb, ltb-true, leb-true}
use Rattle.base_laws.specs.Bools.{either, and_left, and_right}
use Rattle.base_laws.specs.Tables.{tabulate_same}
use Rattle.settings_values.specs.Definitions.{nodes, shards, Settings}
use Rattle.base_ids.specs.declared.Position.{Position}
use Rattle.base_ids.specs.declared.Refusal.{Refusal}
use Rattle.base_ids.specs.Definitions.{none, accepted, or_refusal}
use Rattle.base_ids.specs.Results.{err_is, ok_none, ok_value, err_value, err_refused}
use Rattle.base_ids.specs.Refusals.{accepted_none, first_left, first_none, first_refused}
use Rattle.message_format.specs.declared.Form.TheVariants.{Report}
use Rattle.message_format.specs.declared.Contents.{Contents}
use Rattle.message_format.specs.Definitions.{row5, row6, message_refusal, contents_of}
use Rattle.message_format.specs.Messages.{as_read}
use Rattle.message_format.specs.Passed.{message_given}
use Rattle.message_reader.specs.Readings.{reading_under}
use Rattle.report_views.specs.declared.Layout.{Layout}
use Rattle.report_views.specs.declared.Termination.{Termination}
use Rattle.report_views.specs.Definitions.{start, terminated}
use Rattle.report_rows.specs.declared.latest.Latest.{Latest}
use Rattle.report_kept.specs.declared.Kept.{Kept}
use Rattle.report_kept.specs.declared.Received.{Received}
use Rattle.report_kept.specs.Definitions.{kept_refusal, refusal_beside, layout_of, termination_of, keeps, renewed}
use Rattle.report_kept.specs.Reports.{reading_beside, takes_in, leaves, taken_in}
use Rattle.report_kept.specs.Words.{masks_in, positions_in, made_first}

-- ---- rows 5 to 13 with 18

-- the node of a report is one of the settings
pub message_node : (σ w : List ℕ) → Settings σ → message_refusal Report σ w ≡ none → get_or w 0 0 < 32
unfolding row6
message_node σ w right h =
    omega (arith, ltb-true (get_or w 0 0) (nodes σ) (message_given Report σ w h).head_passes.node_passes, right.sizes.nodes_to)

-- q: rows 5 to 11 refuse
module _ (σ : List ℕ) (v : Layout) (t : Termination) (m : Latest) (w : List ℕ) where
  pub beside_refused : (q : Refusal) → Err q ≡ as_read (reading_under Report σ w) → Err q ≡ as_read (reading_beside σ v t m w)
  unfolding reading_beside refusal_beside reading_under
  beside_refused q e =
      let is = err_value _ q _ e in
      let bad = err_refused _ q _ e in
      err_is _ q _ (is ∙ sym (first_refused (message_refusal Report σ w) (kept_refusal σ v t m (contents_of w)) bad)) (ap accepted is ∙ bad)

  -- c: what they read
  module _ (c : Contents) (e : Ok c ≡ as_read (reading_under Report σ w)) where
    read_passes : message_refusal Report σ w ≡ none
    unfolding reading_under
    read_passes = ok_none _ _ c e

    read_says : c ≡ contents_of w
    unfolding reading_under
    read_says = ok_value _ _ c e ∙ rw read_passes

    -- its node is one of the settings
    pub read_node : Settings σ → c.node.0 < 32
    unfolding row6 contents_of
    read_node right =
        let same : c.node.0 ≡ get_or w 0 0 = ap (λ (x : Contents). x.node.0) read_says in
        rw same (message_node σ w right read_passes)

    beside_rows : kept_refusal σ v t m c ≡ refusal_beside σ v t m w
    unfolding refusal_beside
    beside_rows =
        ap (kept_refusal σ v t m) read_says
        ∙ sym (first_none (message_refusal Report σ w) (kept_refusal σ v t m (contents_of w)) read_passes)

    -- rows 18, 12 and 13 refuse, or pass
    pub beside_kept : (q : Refusal) → Err q ≡ or_refusal (kept_refusal σ v t m c) (tt {0}) → Err q ≡ as_read (reading_beside σ v t m w)
    unfolding reading_beside
    beside_kept q f =
        let is = err_value _ q _ f in
        err_is _ q _ (is ∙ beside_rows) (ap accepted is ∙ err_refused _ q _ f)

    pub beside_taken : Ok (tt {0}) ≡ or_refusal (kept_refusal σ v t m c) (tt {0}) → Ok c ≡ as_read (reading_beside σ v t m w)
    unfolding reading_beside reading_under or_refusal
    beside_taken f = rw (sym beside_rows, ok_none _ _ _ f, read_passes) (ap Ok read_says)

-- what acceptance gives
module _ (σ : List ℕ) (v : Layout) (t : Termination) (m : Latest) (w : List ℕ) (taken : accepted (refusal_beside σ v t m w) ≡ true) where
  pub taken_message : message_refusal Report σ w ≡ none
  unfolding refusal_beside
  taken_message = first_left (message_refusal Report σ w) _ (accepted_none (refusal_beside σ v t m w) taken)

  pub taken_contents : (reading_under Report σ w).contents ≡ contents_of w
  unfolding reading_under
  taken_contents = rw taken_message

  -- its node is one of the settings
  pub taken_node : Settings σ → get_or w 0 0 < 32
  taken_node right = message_node σ w right taken_message

  -- and its first word is there
  pub taken_words : 1 ≤ length w
  unfolding row5
  taken_words = leb-true 1 (length w) (and_left _ _ (and_left _ _ (message_given Report σ w taken_message).words_pass))

  -- it has at most 512 words
  pub taken_few : length w ≤ 512
  unfolding row5
  taken_few =
      leb-true (length w) 512
      (and_right (leb 1 (length w)) (leb (length w) 512)
      (and_left (leb 1 (length w) && leb (length w) 512) (eqb (length w % 4) 0) (message_given Report σ w taken_message).words_pass))

-- ---- the view and the termination

module _ (σ : List ℕ) (c : Contents) (n : ℕ) (e : n ≡ shards σ) where
  pub layout_by : record { number = c.view; members = c.members; masks = masks_in c.body n } ≡ layout_of σ c
  unfolding layout_of masks_in
  layout_by = rw e

  pub termination_by : terminated σ c ≡ true → record { made = true; positions = positions_in c.body n } ≡ termination_of σ c
  unfolding termination_of positions_in
  termination_by h = rw (h, e)

pub termination_none : (σ : List ℕ) (c : Contents) → terminated σ c ≡ false
    → record { made = false; positions = replicate 16 start } ≡ termination_of σ c
unfolding termination_of
termination_none σ c h =
    rw h (ap (λ (l : List Position). record { made = false; positions = l }) (tabulate_same 16 start _ (λ k l. refl)))

-- ---- what is kept

module _ (σ : List ℕ) (v : Layout) (t : Termination) (c : Contents) where
  pub renewed_greater : v.number.0 < c.view.0 → keeps (layout_of σ c) (termination_of σ c) ≡ renewed σ v t c
  unfolding renewed
  renewed_greater l = rw (lt-ltb v.number.0 c.view.0 l)

  pub renewed-smaller : c.view.0 ≤ v.number.0 → (v.number.0 ≡ c.view.0 → ⊥) → keeps v t ≡ renewed σ v t c
  unfolding renewed
  renewed-smaller l h = rw (le-ltb v.number.0 c.view.0 l, ne_eqb v.number.0 c.view.0 h)

  pub renewed_equal : v.number.0 ≡ c.view.0 → keeps v (made_first t (termination_of σ c)) ≡ renewed σ v t c
  unfolding renewed
  renewed_equal h =
      ⊎_elim (λ m. rw (le-ltb v.number.0 c.view.0 (omega arith), eq-eqb v.number.0 c.view.0 h, m))
      (λ m. rw (le-ltb v.number.0 c.view.0 (omega arith), eq-eqb v.number.0 c.view.0 h, m)) (either t.made)

-- ---- a report taken in

module _ (σ : List ℕ) (v : Layout) (t : Termination) (m : Latest) (w : List ℕ) where
  pub in-refused : accepted (refusal_beside σ v t m w) ≡ false → taken_in σ v t m w ≡ leaves (refusal_beside σ v t m w) v t
  unfolding taken_in
  in-refused h = rw h

  pub in_taken : accepted (refusal_beside σ v t m w) ≡ true → taken_in σ v t m w ≡ takes_in (contents_of w) (renewed σ v t (contents_of w))
  unfolding taken_in
  in_taken h = rw h

  -- its refusal is the report's
  pub in-refusal : (taken_in σ v t m w).refusal ≡ refusal_beside σ v t m w
  in-refusal =
      ⊎_elim (λ h. ap (λ (x : Received). x.refusal) (in_taken h) ∙ sym (accepted_none (refusal_beside σ v t m w) h))
      (λ h. ap (λ (x : Received). x.refusal) (in-refused h)) (either (accepted (refusal_beside σ v t m w)))

  -- what the reading gives: q refuses, or c is taken
  pub reading_leaves : (q : Refusal) → Err q ≡ as_read (reading_beside σ v t m w) → leaves q v t ≡ taken_in σ v t m w
  unfolding reading_beside
  reading_leaves q e = ap (λ (k : Refusal). leaves k v t) (err_value _ q _ e) ∙ sym (in-refused (err_refused _ q _ e))

  pub reading_takes : (c : Contents) → Ok c ≡ as_read (reading_beside σ v t m w) → (k : Kept) → k ≡ renewed σ v t c
      → takes_in c k ≡ taken_in σ v t m w
  unfolding reading_beside
  reading_takes c e k f =
      let good : accepted (refusal_beside σ v t m w) ≡ true = ap accepted (ok_none _ _ c e) in
      let same : c ≡ contents_of w = ok_value _ _ c e ∙ taken_contents σ v t m w good in
      rw (f, same, in_taken good)
