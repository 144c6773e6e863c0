-- The walk that counts, node by node.
use Rattle.std.specs.Prelude.{ℕ, ◌+◌, ◌^◌, ◌<◌, ◌≤◌, Bool, false, cond, List, ◌≡◌, refl, eqb, ltb, length, get_or, replicate}
use Rattle.std.proofs.Math.Bool.{true}
use Rattle.std.proofs.Math.Logic.{⊎_elim}
use Rattle.std.proofs.Math.Path.{sym}
use Rattle.std.proofs.Common.{ap, ◌∙◌, arith, lt-ltb, le-ltb}
use Rattle.std.proofs.Math.ListN.{length-replicate}
use Rattle.base_laws.specs.Bools.{lt_or_le, and_fails_left, and_fails_right}
use Rattle.base_laws.specs.Definitions.{all_below, has, with}
use Rattle.base_laws.specs.Below.{all_none}
use Rattle.base_laws.proofs.Below.{all_more}
use Rattle.base_sum_laws.specs.Definitions.{mask_below}
use Rattle.base_sum_laws.specs.Picked.{mask_none, mask_turn}
use Rattle.base_laws.specs.Tables.{filled, get_d_tabulate, tabulate_same, tabulate_cong, tabulate_ext, length_filled, get_or_filled, get_or_filled_rest}
use Rattle.base_ids.specs.declared.Node.{Node}
use Rattle.settings_values.specs.Definitions.{shards, Settings}
use Rattle.report_desk.specs.SlotsOf.{node_ok, unheld_ok, held_ok}
use Rattle.report_views.specs.PlanLaws.{holders_at}
use Rattle.report_views.specs.Definitions.{node_at, slot_ok, slots_ok}
use Rattle.report_views.specs.declared.Layout.{Layout}
use Rattle.report_views.specs.declared.Termination.{Termination}
use Rattle.plan_seen.specs.Nodes.{eligible}
use Rattle.plan_seen.specs.Fold.{held_for}
use Rattle.plan_seen.specs.Sight.{seen_of, seen_ok, seen_holders}
use Rattle.plan_seen.specs.declared.Seen.{Seen}
use Rattle.plan_masks.specs.Counting.{counts_for, counted_masks, none_counted, counted_of, counted_with, counted_at, single_sound, single_holder}

-- the slots of the nodes below n are sound, and the masks have those of them that count
pub record CountedTo (σ : List ℕ) (v : Layout) (t : Termination) (all : ℕ) (d : List ℕ) (n : ℕ) (ms : List ℕ) : Type 0 where
  pub upto : n ≤ 32
  pub sized : length ms ≡ 16
  pub sound : all_below n (node_ok σ v t all d) ≡ true
  pub masks : ms ≡ counted_masks σ v t all d n

module _ (σ : List ℕ) (v : Layout) (t : Termination) (all : ℕ) (d : List ℕ) (right : Settings σ) where
  pub counted_none : CountedTo σ v t all d 0 (replicate 16 0)
  unfolding counted_masks
  counted_none =
      record {
        upto = omega arith;
        sized = length-replicate {A = ℕ} 16 0;
        sound = all_none (node_ok σ v t all d);
        masks = tabulate_same 16 0 (λ s. mask_below 0 (counts_for σ v t all d s)) (λ s l. sym (mask_none (counts_for σ v t all d s)));
      }

  -- a node that does not count changes no mask
  mask_kept : (s n : ℕ) → counts_for σ v t all d s n ≡ false → mask_below n (counts_for σ v t all d s) ≡ mask_below (n + 1) (counts_for σ v t all d s)
  mask_kept s n e =
      let m = mask_below n (counts_for σ v t all d s) in
      mask_turn n m m (counts_for σ v t all d s) refl (sym (ap (λ (b : Bool). cond b (with m n) m) e))

  pub counted_unheld : (n : ℕ) (ms : List ℕ) → n < 32 → has all n ≡ false → CountedTo σ v t all d n ms → CountedTo σ v t all d (n + 1) ms
  unfolding counted_masks
  counted_unheld n ms l h w =
      record {
        upto = omega arith;
        sized = w.sized;
        sound = all_more n (node_ok σ v t all d) w.sound (unheld_ok σ v t all d n h);
        masks = w.masks
            ∙ tabulate_cong 16 (λ s. mask_below n (counts_for σ v t all d s)) (λ s. mask_below (n + 1) (counts_for σ v t all d s))
            (λ s m. mask_kept s n (and_fails_right (ltb s (shards σ)) (and_fails_left (eligible v t d s n) h)));
      }

  module _ (whole : length d ≡ 16384) (n : ℕ) (below : n < 32) (h : has all n ≡ true) (x : Seen) (given : x ≡ seen_of σ v t (2 ^ n) d) where
    pub seen_own : x.ok ≡ slot_ok σ v t d n
    seen_own = seen_ok σ v t (2 ^ n) d x given ∙ single_sound σ v t d n below

    pub counted_held : (ms : List ℕ) → x.ok ≡ true → CountedTo σ v t all d n ms
        → CountedTo σ v t all d (n + 1) (filled (shards σ) (counted_at x.holders n ms) ms)
    unfolding counted_masks counted_with
    counted_held ms ok w =
        record {
          upto = omega arith;
          sized = length_filled (shards σ) (counted_at x.holders n ms) ms (omega (arith, w.sized, right.sizes.shards_to)) ∙ w.sized;
          sound = all_more n (node_ok σ v t all d) w.sound (held_ok σ v t all d n true h (sym seen_own ∙ ok));
          masks = tabulate_ext 0 16 (λ s. mask_below (n + 1) (counts_for σ v t all d s)) (filled (shards σ) (counted_at x.holders n ms) ms)
              (length_filled (shards σ) (counted_at x.holders n ms) ms (omega (arith, w.sized, right.sizes.shards_to)) ∙ w.sized)
              (λ s m. ⊎_elim (low s m) (high s m) (lt_or_le s (shards σ)));
        }
      where
        sound : slots_ok σ v t (2 ^ n) d ≡ true
        sound = sym (seen_ok σ v t (2 ^ n) d x given) ∙ ok

        old : (s : ℕ) → s < 16 → get_or ms s 0 ≡ mask_below n (counts_for σ v t all d s)
        old s m = ap (λ (l : List ℕ). get_or l s 0) w.masks ∙ get_d_tabulate 16 (λ i. mask_below n (counts_for σ v t all d i)) s 0 m

        holds : (s : ℕ) → s < shards σ → eqb (node_at x.holders s) n ≡ eligible v t d s n
        holds s m =
            ap (λ (l : List Node). eqb (node_at l s) n) (seen_holders σ v t (2 ^ n) d x given sound)
            ∙ ap (λ (y : ℕ). eqb y n) (holders_at σ v t (2 ^ n) d s (omega (arith, right.sizes.shards_to)) ∙ rw (lt-ltb s (shards σ) m))
            ∙ single_holder σ v t d n below right whole sound s m

        counts : (s : ℕ) → s < shards σ → counts_for σ v t all d s n ≡ eligible v t d s n
        counts s m = rw (lt-ltb s (shards σ) m, h)

        low : (s : ℕ) → s < 16 → s < shards σ → get_or (filled (shards σ) (counted_at x.holders n ms) ms) s 0 ≡ mask_below (n + 1) (counts_for σ v t all d s)
        low s m l =
            get_or_filled (shards σ) (counted_at x.holders n ms) ms s 0 l
            ∙ mask_turn n (get_or ms s 0) (cond (eqb (node_at x.holders s) n) (with (get_or ms s 0) n) (get_or ms s 0)) (counts_for σ v t all d s) (old s m)
            (ap (λ (b : Bool). cond b (with (get_or ms s 0) n) (get_or ms s 0)) (holds s l ∙ sym (counts s l)))

        high : (s : ℕ) → s < 16 → shards σ ≤ s → get_or (filled (shards σ) (counted_at x.holders n ms) ms) s 0 ≡ mask_below (n + 1) (counts_for σ v t all d s)
        high s m l =
            get_or_filled_rest (shards σ) (counted_at x.holders n ms) ms s 0 l ∙ old s m
            ∙ mask_kept s n (and_fails_left (held_for v t all d s n) (le-ltb s (shards σ) l))

  pub counted_sound : (ms : List ℕ) → CountedTo σ v t all d 32 ms → record { ok = true; masks = ms } ≡ counted_of σ v t all d
  unfolding counted_of slots_ok
  counted_sound ms w = rw (w.sound, w.masks)

  pub counted_failed : slots_ok σ v t all d ≡ false → none_counted ≡ counted_of σ v t all d
  unfolding counted_of
  counted_failed h = rw h
