-- What a report that passes its rows gives to be kept: its view obeys rows 7 and 10, and its termination obeys row 11.
use Rattle.std.specs.Prelude.{ℕ, ◌+◌, ◌<◌, ◌≤◌, Bool, true, false, ◌&&◌, ◌||◌, List, ◌≡◌, refl}
use Rattle.std.proofs.Common.{arith, ap, ◌∙◌}
use Rattle.std.proofs.Math.Bool.{cond}
use Rattle.std.proofs.Math.Logic.{⊎_elim}
use Rattle.std.proofs.Math.Dec.{eqb, ltb}
use borrow.Author.Tests.{eqb-true, eq-eqb, ltb-true, lt-ltb, le-ltb}
use Rattle.base_laws.specs.Bools.{and_both, and_left, and_right, or_left, or_right, lt_or_le}
use Rattle.base_laws.specs.Below.{all_at, all_of}
use Rattle.base_laws.specs.Definitions.{has, within}
use Rattle.base_laws.specs.Tables.{get_d_tabulate}
use Rattle.settings_values.specs.Definitions.{nodes, shards}
use Rattle.base_ids.specs.declared.Position.{Position}
use Rattle.message_format.specs.declared.Form.TheVariants.{Report}
use Rattle.message_format.specs.declared.Contents.{Contents}
use Rattle.message_format.specs.Definitions.{kind, members_of, view_ok, row7, view_fits, legal, row11_at}
use Rattle.message_format.specs.Alike.{row10_same}
use Rattle.message_format.specs.Passed.{HeadPasses, RecordsPass}
use Rattle.message_format.specs.Laws.{some_position}
use Rattle.message_format.proofs.Laws.{position-record, position_below}
use Rattle.report_views.specs.declared.Layout.{Layout}
use Rattle.report_views.specs.Definitions.{start, is_start, terminated, terminated_at, mask_at, position_at, layout_tidy, view_sound, position_sound, term_sound_at, term_sound}
use Rattle.report_kept.specs.Definitions.{layout_of, termination_of}

-- the report's rows 6 and 7, and 9 to 11
pub record Passes (σ : List ℕ) (c : Contents) : Type 0 where
  pub head : HeadPasses Report σ c.node.0 c.view.0 c.members
  pub records : RecordsPass Report σ c.node.0 c.view.0 c.members c.body c.len

module _ (σ : List ℕ) (c : Contents) where
  -- ---- the view

  pub mask_of : (s : ℕ) → s < 16 → mask_at (layout_of σ c) s ≡ cond (ltb s (shards σ)) (members_of c.body s) 0
  unfolding layout_of
  mask_of s l = get_d_tabulate 16 (λ i. cond (ltb i (shards σ)) (members_of c.body i) 0) s 0 l

  pub mask_same : shards σ ≤ 16 → (s : ℕ) → s < shards σ → mask_at (layout_of σ c) s ≡ members_of c.body s
  mask_same few s l = mask_of s (omega arith) ∙ rw (lt-ltb s (shards σ) l)

  tidy_view : layout_tidy σ (layout_of σ c) ≡ true
  unfolding layout_tidy
  tidy_view =
      all_of 16 (λ s. ltb s (shards σ) || eqb (mask_at (layout_of σ c) s) 0) (λ s l.
      ⊎_elim (λ i. or_left _ (lt-ltb s (shards σ) i))
      (λ i. or_right (ltb s (shards σ)) (eq-eqb (mask_at (layout_of σ c) s) 0 (mask_of s l ∙ rw (le-ltb s (shards σ) i))))
      (lt_or_le s (shards σ)))

  pub view_of_report : shards σ ≤ 16 → Passes σ c → view_sound σ (layout_of σ c) ≡ true
  unfolding view_sound row7 layout_of
  view_of_report few p =
      let e = and_left (view_ok Report c.view.0 && within (nodes σ) c.members) (has c.members c.node.0) p.head.view_passes in
      and_both
      (and_both e
      (row10_same σ c.members (mask_at (layout_of σ c)) (members_of c.body) (mask_same few) ∙ p.records.masks-pass))
      tidy_view

  -- ---- the termination

  pub position_of : (s : ℕ) → s < 16 → position_at (termination_of σ c) s ≡ cond (terminated σ c && ltb s (shards σ)) (terminated_at σ c s) start
  unfolding termination_of
  position_of s l = get_d_tabulate 16 (λ i. cond (terminated σ c && ltb i (shards σ)) (terminated_at σ c i) start) s start l

  pub position_same : shards σ ≤ 16 → terminated σ c ≡ true → (s : ℕ) → s < shards σ → position_at (termination_of σ c) s ≡ terminated_at σ c s
  position_same few made s l = position_of s (omega arith) ∙ rw (made, lt-ltb s (shards σ) l)

  -- a position of the report's termination obeys row 11
  position_legal : shards σ ≤ 16 → Passes σ c → terminated σ c ≡ true → (s : ℕ) → s < shards σ
      → position_sound c.view.0 (terminated_at σ c s) ≡ true
  unfolding position_sound row11_at legal view_fits
  position_legal few p made s l =
      let later = ltb-true (shards σ) c.len (and_left (ltb (shards σ) c.len) (eqb (kind c.body (shards σ)) 2) made) in
      let two = eqb-true (kind c.body (shards σ)) 2 (and_right (ltb (shards σ) c.len) (eqb (kind c.body (shards σ)) 2) made) in
      let r = p.records in
      let made-there = some_position Report σ c.node.0 c.body c.len r.kinds_pass r.shards_pass r.sequence_passes r.complete_passes (shards σ) later two in
      let tagged = position-record Report σ c.node.0 c.body c.len r.kinds_pass r.shards_pass r.sequence_passes r.complete_passes made-there s l in
      let below = position_below Report σ c.node.0 c.body c.len r.kinds_pass r.shards_pass r.sequence_passes r.complete_passes made-there s l in
      let e : kind c.body (shards σ + s) ≡ 2 = omega (arith, tagged) in
      rw e at (all_at c.len (row11_at Report c.view.0 c.members c.body) r.positions-pass (shards σ + s) below)

  -- a position that is there is sound, and one that is not there is zero
  sound_at : (number : ℕ) (b : Bool) (p q : Position) → p ≡ cond b q start → (b ≡ true → position_sound number q ≡ true)
      → cond b (position_sound number p) (is_start p) ≡ true
  sound_at number true p q e h = ap (λ (r : Position). position_sound number r) e ∙ h refl
  sound_at number false p q e h = ap (λ (r : Position). is_start r) e

  pub term_of_report : shards σ ≤ 16 → Passes σ c → (v : Layout) → v.number.0 ≡ c.view.0 → term_sound σ v (termination_of σ c) ≡ true
  unfolding term_sound term_sound_at termination_of
  term_of_report few p v e =
      all_of 16 (term_sound_at σ v (termination_of σ c)) (λ s l.
      sound_at v.number.0 (terminated σ c && ltb s (shards σ)) (position_at (termination_of σ c) s) (terminated_at σ c s) (position_of s l) (λ q.
      rw e
      (position_legal few p (and_left (terminated σ c) (ltb s (shards σ)) q) s
      (ltb-true s (shards σ) (and_right (terminated σ c) (ltb s (shards σ)) q)))))
