-- For each shard the nodes that count for it, read once from the desk d for the nodes of the mask `all`; and that of any set of held nodes among
-- them a shard has a holder just where one of its own is held.
use Rattle.std.specs.Prelude.{ℕ, ◌^◌, ◌<◌, Bool, cond, ◌&&◌, ◌||◌, ◌⊎◌, ◌≡◌, eqb, length, get_or, replicate}
use Rattle.std.proofs.Math.Bool.{true, false, not}
use mathlib.Core.List.{List}
use Rattle.std.proofs.Common.{inl, inr, sym, ◌∙◌, arith, lt_of_lt_of_le, pow_mono}
use Rattle.std.proofs.Math.Logic.{⊎_elim}
use Rattle.std.proofs.Math.Path.{refl, ap, subst}
use Rattle.std.proofs.Math.Dec.{ltb}
use borrow.Author.Tests.{eq-eqb, ne_eqb, eqb-true, lt-ltb}
use Rattle.base_laws.specs.Bools.{either, clash, same, no_true, and_both, and_left, and_right, and_fails_left, and_fails_right, or-holds, of_not_true}
use Rattle.base_laws.specs.Definitions.{all_below, any_below, lowest, has, with, subset, disjoint, tabulate}
use Rattle.base_laws.specs.Below.{lowest_cong, any_none_of, any_at, all_at, all_of}
use Rattle.base_laws.specs.Masks.{has_single, has_with, has_zero, ext_all, subset_has, subset_of, width, disjoint_has, disjoint_of}
use Rattle.base_sum_laws.specs.Definitions.{mask_below}
use Rattle.base_sum_laws.specs.Picked.{has_mask}
use Rattle.base_laws.specs.Tables.{get_d_tabulate}
use Rattle.base_ids.specs.declared.Node.{Node}
use Rattle.settings_values.specs.Definitions.{nodes, shards, Settings}
use Rattle.report_views.specs.Best.{best_found, best_so_far}
use Rattle.report_views.specs.Definitions.{best, holder, first_unheld, quorum_of, end_at, node_at, slot_ok, slots_ok}
use Rattle.report_views.specs.Shorthands.{unheld}
use Rattle.report_views.specs.Numbers.{as_number}
use Rattle.report_views.specs.declared.Layout.{Layout}
use Rattle.report_views.specs.declared.Termination.{Termination}
use Rattle.plan_seen.specs.Nodes.{eligible}
use Rattle.plan_masks.specs.Masks.{unheld_in, first_unheld_in, quorum_in}
use Rattle.plan_masks.specs.declared.HolderMasks.{HolderMasks}
use Rattle.plan_seen.specs.Fold.{held_for, SoFar, holder_last}

-- node n is one of `all` and counts for shard s: it is a member, reported the kept view, and has the position of a kept termination
abbrev pub counts_for : List ℕ → Layout → Termination → ℕ → List ℕ → ℕ → ℕ → Bool
counts_for σ v t all d s n = ltb s (shards σ) && held_for v t all d s n

-- for each shard those of the nodes below n that count for it
unfoldable pub counted_masks : List ℕ → Layout → Termination → ℕ → List ℕ → ℕ → List ℕ
counted_masks σ v t all d n = tabulate 16 (λ s. mask_below n (counts_for σ v t all d s))

unfoldable pub none_counted : HolderMasks
none_counted = record { ok = false; masks = replicate 16 0 }

-- of all nodes, where each slot that is asked for is sound, else nothing
unfoldable pub counted_of : List ℕ → Layout → Termination → ℕ → List ℕ → HolderMasks
counted_of σ v t all d = cond (slots_ok σ v t all d) (record { ok = true; masks = counted_masks σ v t all d 32 }) none_counted

-- ---- what the code adds for a node: to the masks of the shards that have it as holder where no other is held

unfoldable pub counted_with : ℕ → ℕ → ℕ → ℕ
counted_with mask holder n = cond (eqb holder n) (with mask n) mask

abbrev pub counted_at : List Node → ℕ → List ℕ → ℕ → ℕ
counted_at holders n ms s = counted_with (get_or ms s 0) (node_at holders s) n

-- ---- what a caller takes from it

-- the masks are those of the nodes of `all` that count
pub record MasksCount (σ : List ℕ) (v : Layout) (t : Termination) (all : ℕ) (d : List ℕ) (ms : List ℕ) : Type 0 where
  pub each : (s : ℕ) → s < shards σ → (n : ℕ) → has (get_or ms s 0) n ≡ (ltb n 32 && held_for v t all d s n)

-- what is asked of a desk of which something is said with `held` held: the slots of the held nodes are sound, and they are among those counted
pub record Given (σ : List ℕ) (v : Layout) (t : Termination) (all held : ℕ) (d : List ℕ) (ms : List ℕ) : Type 0 where
  pub whole : length d ≡ 16384
  pub sound : slots_ok σ v t held d ≡ true
  pub among : subset held all ≡ true
  pub counting : MasksCount σ v t all d ms

module _ (σ : List ℕ) (v : Layout) (t : Termination) (all : ℕ) (d : List ℕ) (x : HolderMasks) (e : x ≡ counted_of σ v t all d) where
  pub counted_ok : x.ok ≡ slots_ok σ v t all d
  unfolding counted_of none_counted
  counted_ok = ap (λ (y : HolderMasks). y.ok) e ∙ go (slots_ok σ v t all d)
    where
      go : (b : Bool) → (cond b (record { ok = true; masks = counted_masks σ v t all d 32 }) none_counted).ok ≡ b
      go true = refl
      go false = refl

  pub counted-masks : Settings σ → slots_ok σ v t all d ≡ true → MasksCount σ v t all d x.masks
  unfolding counted_of counted_masks
  counted-masks right h =
      let same : x.masks ≡ tabulate 16 (λ s. mask_below 32 (counts_for σ v t all d s)) = ap (λ (y : HolderMasks). y.masks) e ∙ rw h in
      record {
        each = λ s l n.
            ap (λ (m : List ℕ). has (get_or m s 0) n) same
            ∙ ap (λ (m : ℕ). has m n) (get_d_tabulate 16 (λ i. mask_below 32 (counts_for σ v t all d i)) s 0 (omega (arith, right.sizes.shards_to)))
            ∙ has_mask 32 (counts_for σ v t all d s) n
            ∙ ap (λ (b : Bool). ltb n 32 && (b && held_for v t all d s n)) (lt-ltb s (shards σ) l);
      }

pub subset_through : (a b c : ℕ) → subset a b ≡ true → subset b c ≡ true → subset a c ≡ true
subset_through a b c p q = subset_of a a c (width a) (λ n l h. subset_has b c q n (subset_has a b p n h))

-- sound slots of more nodes are sound of fewer
pub slots_fewer : (σ : List ℕ) (v : Layout) (t : Termination) (held fewer : ℕ) (d : List ℕ) → subset fewer held ≡ true → slots_ok σ v t held d ≡ true
    → slots_ok σ v t fewer d ≡ true
unfolding slots_ok
slots_fewer σ v t held fewer d s h =
    all_of 32 (λ n. not (has fewer n) || slot_ok σ v t d n)
    (λ n l. one n (all_at 32 (λ k. not (has held k) || slot_ok σ v t d k) h n l) (either (has fewer n)))
  where
    one : (n : ℕ) → (not (has held n) || slot_ok σ v t d n) ≡ true → (has fewer n ≡ true) ⊎ (has fewer n ≡ false) → (not (has fewer n) || slot_ok σ v t d n) ≡ true
    one n p (inl e) = let a : has held n ≡ true = subset_has fewer held s n e in rw e (rw a at p)
    one n p (inr e) = rw e

pub fewer_given : (σ : List ℕ) (v : Layout) (t : Termination) (all held fewer : ℕ) (d ms : List ℕ) → subset fewer held ≡ true
    → Given σ v t all held d ms → Given σ v t all fewer d ms
fewer_given σ v t all held fewer d ms s g =
    record {
      whole = g.whole;
      sound = slots_fewer σ v t held fewer d s g.sound;
      among = subset_through fewer held all s g.among;
      counting = g.counting;
    }

-- ---- a shard has a holder just where a held node counts for it

module _ (σ : List ℕ) (v : Layout) (t : Termination) (held : ℕ) (d : List ℕ) (right : Settings σ) (whole : length d ≡ 16384)
    (sound : slots_ok σ v t held d ≡ true) (s : ℕ) (l : s < shards σ) where
  abbrev pub f : ℕ → Bool
  f = held_for v t held d s

  few : s < 16
  few = omega (arith, right.sizes.shards_to)

  -- the holder is the best of those that count, or 32
  pub holder_best : holder v t held d s ≡ best_so_far f (end_at d s) 32 32
  holder_best = sym (holder_last σ v t held d right whole sound hs ts far s l) ∙ get_d_tabulate 16 g s 0 few
    where
      g : ℕ → ℕ
      g i = best_so_far (held_for v t held d i) (end_at d i) 32 32

      hs : List ℕ
      hs = tabulate 16 g

      ts : List ℕ
      ts = tabulate 16 (λ i. as_number (end_at d i (g i)))

      far : SoFar v t held d (shards σ) 32 hs ts
      far =
          record {
            holders = λ i m. get_d_tabulate 16 g i 0 (omega (arith, right.sizes.shards_to));
            tops = λ i m.
                let k : i < 16 = omega (arith, right.sizes.shards_to) in
                get_d_tabulate 16 (λ j. as_number (end_at d j (g j))) i 0 k ∙ ap (λ (x : ℕ). as_number (end_at d i x)) (sym (get_d_tabulate 16 g i 0 k));
          }

  -- some held node counts
  pub holder_some : (n : ℕ) → n < 32 → f n ≡ true → (holder v t held d s < 32) × (f (holder v t held d s) ≡ true)
  unfolding best_so_far
  holder_some n m p =
      let any = any_at 32 f n m p in
      let e : holder v t held d s ≡ best f (end_at d s) 32 = holder_best ∙ rw any in
      let b = best_found f (end_at d s) 32 n m p in
      (subst (λ (x : ℕ). x < 32) (sym e) b.below, subst (λ (x : ℕ). f x ≡ true) (sym e) b.picked)

  -- none does
  pub holder_none : any_below 32 f ≡ false → holder v t held d s ≡ 32
  unfolding best_so_far
  holder_none none = holder_best ∙ rw none

-- ---- one node alone

pub alone : (n : ℕ) → with 0 n ≡ 2 ^ n
alone n = ext_all (with 0 n) (2 ^ n) (λ k. has_with 0 n k ∙ ap (λ (b : Bool). b || eqb n k) (has_zero k) ∙ sym (has_single n k))

module _ (σ : List ℕ) (v : Layout) (t : Termination) (d : List ℕ) (n : ℕ) (below : n < 32) where
  -- the slots are sound just where its own is
  pub single_sound : slots_ok σ v t (2 ^ n) d ≡ slot_ok σ v t d n
  unfolding slots_ok
  single_sound =
      same (all_below 32 (λ k. not (has (2 ^ n) k) || slot_ok σ v t d k)) (slot_ok σ v t d n)
      (λ h. ⊎_elim (λ e. clash (has_single n n ∙ eq-eqb n n refl) (of_not_true (has (2 ^ n) n) e)) (λ e. e)
      (or-holds (not (has (2 ^ n) n)) (slot_ok σ v t d n) (all_at 32 _ h n below)))
      (λ h. all_of 32 (λ k. not (has (2 ^ n) k) || slot_ok σ v t d k) (λ k m. one h k (either (has (2 ^ n) k))))
    where
      one : slot_ok σ v t d n ≡ true → (k : ℕ) → (has (2 ^ n) k ≡ true) ⊎ (has (2 ^ n) k ≡ false) → (not (has (2 ^ n) k) || slot_ok σ v t d k) ≡ true
      one h k (inl e) =
          let q : n ≡ k = eqb-true n k (sym (has_single n k) ∙ e) in
          rw e (subst (λ (x : ℕ). slot_ok σ v t d x ≡ true) q h)
      one h k (inr e) = rw e

  -- and it is a shard's holder just where it counts for it
  pub single_holder : Settings σ → length d ≡ 16384 → slots_ok σ v t (2 ^ n) d ≡ true → (s : ℕ) → s < shards σ
      → eqb (holder v t (2 ^ n) d s) n ≡ eligible v t d s n
  single_holder right whole sound s l = ⊎_elim counts not_counts (either (eligible v t d s n))
    where
      own : has (2 ^ n) n ≡ true
      own = has_single n n ∙ eq-eqb n n refl

      counts : eligible v t d s n ≡ true → eqb (holder v t (2 ^ n) d s) n ≡ eligible v t d s n
      counts e =
          let p = holder_some σ v t (2 ^ n) d right whole sound s l n below (and_both own e) in
          let h : has (2 ^ n) (holder v t (2 ^ n) d s) ≡ true = and_left _ (eligible v t d s (holder v t (2 ^ n) d s)) p.1 in
          let q : n ≡ holder v t (2 ^ n) d s = eqb-true n _ (sym (has_single n (holder v t (2 ^ n) d s)) ∙ h) in
          eq-eqb _ n (sym q) ∙ sym e

      not_counts : eligible v t d s n ≡ false → eqb (holder v t (2 ^ n) d s) n ≡ eligible v t d s n
      not_counts e =
          let none = any_none_of 32 (held_for v t (2 ^ n) d s) (λ k m. one k (either (has (2 ^ n) k))) in
          let z = holder_none σ v t (2 ^ n) d right whole sound s l none in
          ne_eqb (holder v t (2 ^ n) d s) n (λ q. omega arith) ∙ sym e
        where
          one : (k : ℕ) → (has (2 ^ n) k ≡ true) ⊎ (has (2 ^ n) k ≡ false) → held_for v t (2 ^ n) d s k ≡ false
          one k (inl h) =
              let q : n ≡ k = eqb-true n k (sym (has_single n k) ∙ h) in
              and_fails_right (has (2 ^ n) k) (subst (λ (x : ℕ). eligible v t d s x ≡ false) q e)
          one k (inr h) = and_fails_left (eligible v t d s k) h

-- ---- any held nodes among them

module _ (σ : List ℕ) (v : Layout) (t : Termination) (all : ℕ) (d ms : List ℕ) (right : Settings σ) (whole : length d ≡ 16384)
    (counting : MasksCount σ v t all d ms) (held : ℕ) (small : held < 2 ^ 32) (among : subset held all ≡ true) (sound : slots_ok σ v t held d ≡ true) where
  -- a shard has no holder just where none of its nodes is held
  pub unheld_mask : (s : ℕ) → s < shards σ → disjoint held (get_or ms s 0) ≡ unheld v t held d s
  unheld_mask s l = same (disjoint held (get_or ms s 0)) (unheld v t held d s) to from
    where
      to : disjoint held (get_or ms s 0) ≡ true → unheld v t held d s ≡ true
      to h = eq-eqb _ 32 (holder_none σ v t held d right whole sound s l (any_none_of 32 (held_for v t held d s) (λ k m. one k m (either (has held k)))))
        where
          one : (k : ℕ) → k < 32 → (has held k ≡ true) ⊎ (has held k ≡ false) → held_for v t held d s k ≡ false
          one k m (inl p) =
              let a : has all k ≡ true = subset_has held all among k p in
              let e : (ltb k 32 && held_for v t all d s k) ≡ false = sym (counting.each s l k) ∙ disjoint_has held (get_or ms s 0) h k p in
              let z : eligible v t d s k ≡ false = rw (lt-ltb k 32 m, a) at e in
              and_fails_right (has held k) z
          one k m (inr p) = and_fails_left (eligible v t d s k) p

      from : unheld v t held d s ≡ true → disjoint held (get_or ms s 0) ≡ true
      from h = disjoint_of 32 held (get_or ms s 0) small (λ k m p.
          no_true (has (get_or ms s 0) k) (λ q.
          let e : (ltb k 32 && held_for v t all d s k) ≡ true = sym (counting.each s l k) ∙ q in
          let z : eligible v t d s k ≡ true = and_right (has all k) (eligible v t d s k) (and_right (ltb k 32) (held_for v t all d s k) e) in
          let b = (holder_some σ v t held d right whole sound s l k m (and_both p z)).0 in
          let u : holder v t held d s ≡ 32 = eqb-true _ 32 h in
          omega arith))

  -- so waits 1 to 4 follow from the masks alone
  pub quorum_masks : quorum_in σ v held ms ≡ quorum_of σ v t held d
  unfolding quorum_in quorum_of first_unheld_in first_unheld
  quorum_masks = rw same_lowest
    where
      same_lowest : lowest (shards σ) (unheld_in held ms) ≡ lowest (shards σ) (unheld v t held d)
      same_lowest = lowest_cong (shards σ) (unheld_in held ms) (unheld v t held d) unheld_mask

-- for whatever is held among the nodes counted
pub quorum_given : (σ : List ℕ) (v : Layout) (t : Termination) (all held : ℕ) (d ms : List ℕ) → Settings σ → held < 2 ^ nodes σ
    → Given σ v t all held d ms → quorum_in σ v held ms ≡ quorum_of σ v t held d
quorum_given σ v t all held d ms right small g =
    quorum_masks σ v t all d ms right g.whole g.counting held (lt_of_lt_of_le small (pow_mono right.sizes.nodes_to)) g.among g.sound
