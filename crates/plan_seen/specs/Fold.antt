-- The walk over the held nodes: for each shard the best so far and its end. After the last node they are the holders and the
-- targets.
use Prim.Native.Nat.{ℕ, ◌+◌, ◌<◌, ◌≤◌}
use Rattle.std.proofs.Math.Bool.{Bool, true, false, cond}
use Rattle.std.specs.Prelude.{not, ◌&&◌, ◌||◌, List, ◌⊎◌, ◌≡◌, ltb, length, replicate}
use Rattle.std.proofs.Common.{inl, inr, ◌∙◌, add-one, arith, lt-ltb, le-ltb}
use Rattle.std.proofs.Math.Logic.{⊎_elim}
use Rattle.std.proofs.Math.Path.{refl, sym, ap}
use Rattle.std.proofs.Math.Dec.{eqb}
use Rattle.std.proofs.Math.ListN.{get_or}
use Rattle.std.proofs.lemmas.List.{get_or-replicate}
use Rattle.base_laws.specs.Bools.{either, and_both, lt_or_le}
use Rattle.base_laws.specs.Definitions.{has, tabulate}
use Rattle.base_laws.specs.Tables.{tabulate_cong}
use Rattle.base_ids.specs.declared.Node.{Node}
use Rattle.base_ids.specs.declared.Position.{Position}
use Rattle.base_ids.specs.Definitions.{not_after}
use Rattle.settings_values.specs.Definitions.{shards, Settings}
use Rattle.report_desk.specs.Ends.{desk_past}
use Rattle.report_views.specs.declared.Layout.{Layout}
use Rattle.report_views.specs.declared.Termination.{Termination}
use Rattle.report_views.specs.Best.{GreatestEnd, best_so_far, best_with, with_miss, best_start, best_step, best_all, best_le, best_given, best_found, best_lowest, best_unique, best_cong, best_so_far_le}
use Rattle.report_views.specs.Definitions.{start, candidate, best, target, able, holder, end_at, mask_at, position_at, slot_ok, slots_ok, holders_of, targets_of}
use Rattle.report_views.specs.Shorthands.{has_at, view_of}
use Rattle.report_views.specs.Meets.{slot_given, candidate_given, able_candidate}
use Rattle.report_views.specs.Numbers.{as_number, from_number, number_start, number_back, number_before}
use Rattle.report_walk.specs.Pairs.{FitWords}
use Rattle.plan_seen.specs.Nodes.{eligible, takes_over, RenewedBelow, end_small, end_has}

-- node n is held and counts for shard s
abbrev pub held_for : Layout → Termination → ℕ → List ℕ → ℕ → ℕ → Bool
held_for v t held d s n = has held n && eligible v t d s n

-- of the nodes below n, the best for each shard (32: none) and its end
pub record SoFar (v : Layout) (t : Termination) (held : ℕ) (d : List ℕ) (count n : ℕ) (hs ts : List ℕ) : Type 0 where
  pub holders : (s : ℕ) → s < count → get_or hs s 0 ≡ best_so_far (held_for v t held d s) (end_at d s) 32 n
  pub tops : (s : ℕ) → s < count → get_or ts s 0 ≡ as_number (end_at d s (get_or hs s 0))

-- what a step over node n's slot gives: whether it is sound, and if so the bests with this node
pub record Stepped (σ : List ℕ) (v : Layout) (t : Termination) (d : List ℕ) (n : ℕ) (r : Bool) (hs ts hs' ts' : List ℕ) : Type 0 where
  pub sound : r ≡ slot_ok σ v t d n
  pub renewed : r ≡ true → RenewedBelow v t d n (shards σ) hs ts hs' ts'

-- the holders of the first count shards by a list of numbers, then zeros
unfoldable pub holders_from : List ℕ → ℕ → List Node
holders_from hs count = tabulate 16 (λ s. cond (ltb s count) (record { 0 = get_or hs s 0 }) (record { 0 = 0 }))

-- a target: the kept position if a termination is made, or else the position with the number
unfoldable pub target_from : Bool → Position → ℕ → Position
target_from made kept x = cond made kept (from_number x)

-- the targets of the first count shards, then (0, 0)
unfoldable pub targets_from : Termination → List ℕ → ℕ → List Position
targets_from t ts count = tabulate 16 (λ s. cond (ltb s count) (target_from t.made (position_at t s) (get_or ts s 0)) start)

pub from_kept : (made : Bool) (kept : Position) (x : ℕ) → made ≡ true → kept ≡ target_from made kept x
unfolding target_from
from_kept made kept x e = rw e

pub from_top : (made : Bool) (kept : Position) (x : ℕ) → made ≡ false → from_number x ≡ target_from made kept x
unfolding target_from
from_top made kept x e = rw e

-- ---- one node after another

module _ (v : Layout) (t : Termination) (held : ℕ) (d : List ℕ) (whole : length d ≡ 16384) (count : ℕ) where
  pub so_far_none : count ≤ 16 → SoFar v t held d count 0 (replicate 16 32) (replicate 16 0)
  so_far_none l =
      record {
        holders = λ s m. get_or-replicate 16 s 32 0 (omega arith) ∙ sym (best_start (held_for v t held d s) (end_at d s) 32);
        tops = λ s m.
            get_or-replicate 16 s 0 0 (omega arith)
            ∙ sym (ap (λ (x : ℕ). as_number (end_at d s x)) (get_or-replicate 16 s 32 0 (omega arith)) ∙ ap as_number (desk_past d whole s) ∙ number_start);
      }

  -- a turn of the walk, shard by shard
  turn : (n s h : ℕ) → n ≤ 32 → h ≡ best_so_far (held_for v t held d s) (end_at d s) 32 n
      → best_with (held_for v t held d s) (end_at d s) 32 n h ≡ best_so_far (held_for v t held d s) (end_at d s) 32 (n + 1)
  turn n s h l e =
      ap (best_with (held_for v t held d s) (end_at d s) 32 n) e ∙ best_step (held_for v t held d s) (end_at d s) 32 n l
      ∙ ap (best_so_far (held_for v t held d s) (end_at d s) 32) (sym (add-one n))

  pub so_far_unheld : (n : ℕ) (hs ts : List ℕ) → n < 32 → has held n ≡ false → SoFar v t held d count n hs ts → SoFar v t held d count (n + 1) hs ts
  so_far_unheld n hs ts l h f =
      record {
        holders = λ s m.
            let none : held_for v t held d s n ≡ false = rw h in
            sym (with_miss (held_for v t held d s) (end_at d s) 32 n (get_or hs s 0) none) ∙ turn n s (get_or hs s 0) (omega arith) (f.holders s m);
        tops = f.tops;
      }

  -- the end of a node, or of none, is below 2^32 in k
  small_at : FitWords d → (s h : ℕ) → h ≤ 32 → (end_at d s h).k < 4294967296
  small_at words s h l =
      ⊎_elim (λ m. end_small d h whole m words s)
      (λ m.
      let e : h ≡ 32 = omega arith in
      let z : end_at d s h ≡ start = ap (end_at d s) e ∙ desk_past d whole s in
      let k : (end_at d s h).k ≡ 0 = ap (λ (p : Position). p.k) z in omega arith)
      (lt_or_le h 32)

  pub so_far_held : FitWords d → (n : ℕ) (hs ts hs' ts' : List ℕ) → n < 32 → has held n ≡ true → RenewedBelow v t d n count hs ts hs' ts'
      → SoFar v t held d count n hs ts → SoFar v t held d count (n + 1) hs' ts'
  unfolding best_with
  so_far_held words n hs ts hs' ts' l h r f =
      record {
        holders = λ s m. (r.each s m).holder ∙ chosen s m ∙ turn n s (get_or hs s 0) (omega arith) (f.holders s m);
        tops = λ s m. (r.each s m).top ∙ end_of s m (takes_over (eligible v t d s n) (as_number (end_at d s n)) (get_or hs s 0) (get_or ts s 0)) ∙ ap (λ (x : ℕ). as_number (end_at d s x)) (sym (r.each s m).holder);
      }
    where
      few : (s : ℕ) → s < count → get_or hs s 0 ≤ 32
      few s m =
          let k = best_so_far_le (held_for v t held d s) (end_at d s) 32 n (omega arith) in
          omega (arith, f.holders s m, k)

      later : (s : ℕ) (m : s < count) → ltb (get_or ts s 0) (as_number (end_at d s n)) ≡ not (not_after (end_at d s n) (end_at d s (get_or hs s 0)))
      later s m =
          ap (λ (x : ℕ). ltb x (as_number (end_at d s n))) (f.tops s m)
          ∙ number_before (end_at d s n) (end_at d s (get_or hs s 0)) (end_small d n whole l words s) (small_at words s (get_or hs s 0) (few s m))

      chosen : (s : ℕ) → s < count → cond (takes_over (eligible v t d s n) (as_number (end_at d s n)) (get_or hs s 0) (get_or ts s 0)) n (get_or hs s 0)
          ≡ cond (held_for v t held d s n && (eqb (get_or hs s 0) 32 || not (not_after (end_at d s n) (end_at d s (get_or hs s 0))))) n (get_or hs s 0)
      chosen s m = rw (h, later s m)

      end_of : (s : ℕ) (m : s < count) (b : Bool) → cond b (as_number (end_at d s n)) (get_or ts s 0) ≡ as_number (end_at d s (cond b n (get_or hs s 0)))
      end_of s m true = refl
      end_of s m false = f.tops s m

-- ---- after the last node

module _ (σ : List ℕ) (v : Layout) (t : Termination) (held : ℕ) (d : List ℕ) (right : Settings σ) (whole : length d ≡ 16384) (sound : slots_ok σ v t held d ≡ true) where
  with_termination : t.made ≡ true → (s n : ℕ) → held_for v t held d s n ≡ able v t held d s n
  unfolding eligible able candidate target
  with_termination e s n = rw e (go (has held n) (has (mask_at v s) n && eqb (view_of d n) v.number.0) (has (mask_at v s) n) (eqb (view_of d n) v.number.0) (has_at d s (position_at t s) n) refl)
    where
      go : (a x b c p : Bool) → x ≡ (b && c) → (a && (x && p)) ≡ (a && b && c && p)
      go true x b c p q = rw q
      go false x b c p q = refl

  without_termination : t.made ≡ false → (s n : ℕ) → held_for v t held d s n ≡ candidate v held d s n
  unfolding eligible candidate
  without_termination e s n = rw e (go (has held n) (has (mask_at v s) n) (eqb (view_of d n) v.number.0))
    where
      go : (a b c : Bool) → (a && (b && c && true)) ≡ (a && b && c)
      go true true true = refl
      go true true false = refl
      go true false c = refl
      go false b c = refl

  -- where no termination is made, the best candidate has the target: its own end
  best_able : t.made ≡ false → (s : ℕ) → s < shards σ → best (candidate v held d s) (end_at d s) 32 ≡ best (able v t held d s) (end_at d s) 32
  unfolding able target
  best_able e s l =
      ⊎_elim (λ m. sym (best_unique (able v t held d s) (end_at d s) 32 b (top m) (λ k i q. best_lowest f (end_at d s) 32 k m i (able_candidate v t held d s k q))))
      (λ m.
      let z : b ≡ 32 = omega (arith, best_le f (end_at d s) 32) in
      z ∙ sym (none z (lt_or_le (best (able v t held d s) (end_at d s) 32) 32)))
      (lt_or_le b 32)
    where
      f : ℕ → Bool
      f = candidate v held d s

      b : ℕ
      b = best f (end_at d s) 32

      own : b < 32 → able v t held d s b ≡ true
      own m =
          let c = (best_given f (end_at d s) 32 m).picked in
          let held-b = (candidate_given v held d s b c).is_held in
          let few : s < 256 = omega (arith, right.sizes.shards_to) in
          rw e (and_both c (end_has σ v t d b (slot_given σ v t held d sound b m held-b) s few))

      top : b < 32 → GreatestEnd (able v t held d s) (end_at d s) 32 b
      top m =
          record {
            below = m;
            picked = own m;
            top = λ k i q. (best_given f (end_at d s) 32 m).top k i (able_candidate v t held d s k q);
          }

      none : b ≡ 32 → (best (able v t held d s) (end_at d s) 32 < 32) ⊎ (32 ≤ best (able v t held d s) (end_at d s) 32)
          → best (able v t held d s) (end_at d s) 32 ≡ 32
      none z (inl m) =
          let g = best_given (able v t held d s) (end_at d s) 32 m in
          let c = able_candidate v t held d s (best (able v t held d s) (end_at d s) 32) g.picked in
          absurd (let k = (best_found f (end_at d s) 32 (best (able v t held d s) (end_at d s) 32) m c).below in omega arith)
      none z (inr m) = omega (arith, best_le (able v t held d s) (end_at d s) 32)

  module _ (hs ts : List ℕ) (f : SoFar v t held d (shards σ) 32 hs ts) where
    last : (s : ℕ) → s < shards σ → get_or hs s 0 ≡ best (held_for v t held d s) (end_at d s) 32
    last s l = f.holders s l ∙ best_all (held_for v t held d s) (end_at d s) 32

    pub holder_last : (s : ℕ) → s < shards σ → get_or hs s 0 ≡ holder v t held d s
    unfolding holder
    holder_last s l =
        last s l
        ∙ ⊎_elim
        (λ e. best_cong (held_for v t held d s) (able v t held d s) (end_at d s) (end_at d s) 32 (λ n m. with_termination e s n) (λ n m h. refl))
        (λ e. best_cong (held_for v t held d s) (candidate v held d s) (end_at d s) (end_at d s) 32 (λ n m. without_termination e s n) (λ n m h. refl) ∙ best_able e s l)
        (either t.made)

    pub target_last : FitWords d → t.made ≡ false → (s : ℕ) → s < shards σ → from_number (get_or ts s 0) ≡ target v t held d s
    unfolding target
    target_last words e s l =
        let b = best (candidate v held d s) (end_at d s) 32 in
        let same : get_or hs s 0 ≡ b =
        last s l ∙ best_cong (held_for v t held d s) (candidate v held d s) (end_at d s) (end_at d s) 32 (λ n m. without_termination e s n) (λ n m h. refl) in
        rw e
        (ap from_number (f.tops s l ∙ ap (λ (x : ℕ). as_number (end_at d s x)) same)
        ∙ number_back (end_at d s b) (small_at v t held d whole (shards σ) words s b (best_le (candidate v held d s) (end_at d s) 32)))

    pub target_kept : t.made ≡ true → (s : ℕ) → position_at t s ≡ target v t held d s
    unfolding target
    target_kept e s = rw e

    pub holders_last : holders_from hs (shards σ) ≡ holders_of σ v t held d
    unfolding holders_from holders_of
    holders_last =
        let g : ℕ → Node = λ s. record { 0 = cond (ltb s (shards σ)) (holder v t held d s) 0 } in
        tabulate_cong 16 (λ s. cond (ltb s (shards σ)) (record { 0 = get_or hs s 0 }) (record { 0 = 0 })) g
        (λ s m.
        ⊎_elim (λ l. rw (lt-ltb s (shards σ) l) (ap (λ (x : ℕ). record { 0 = x }) (holder_last s l))) (λ l. rw (le-ltb s (shards σ) l))
        (lt_or_le s (shards σ)))

    pub targets_last : FitWords d → targets_from t ts (shards σ) ≡ targets_of σ v t held d
    unfolding targets_from targets_of
    targets_last words =
        tabulate_cong 16 (λ s. cond (ltb s (shards σ)) (target_from t.made (position_at t s) (get_or ts s 0)) start)
        (λ s. cond (ltb s (shards σ)) (target v t held d s) start)
        (λ s m. ⊎_elim (λ l. rw (lt-ltb s (shards σ) l) (one s l)) (λ l. rw (le-ltb s (shards σ) l)) (lt_or_le s (shards σ)))
      where
        one : (s : ℕ) → s < shards σ → target_from t.made (position_at t s) (get_or ts s 0) ≡ target v t held d s
        one s l =
            ⊎_elim (λ e. sym (from_kept t.made (position_at t s) (get_or ts s 0) e) ∙ target_kept e s)
            (λ e. sym (from_top t.made (position_at t s) (get_or ts s 0) e) ∙ target_last words e s l) (either t.made)
