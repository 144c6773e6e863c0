-- Caps change no wait and no total: with every cap at its shard's need a valid placement of a subgroup exists just where one exists with
-- the caps as they are, and the least moves are as many.
use Rattle.std.specs.Prelude.{◌≡◌, Bool, true, ◌&&◌, List, ℕ, ◌+◌, ◌/◌, ◌%◌, ◌^◌, ◌≤◌, ◌<◌, length}
use Rattle.std.proofs.Math.Path.{sym, ap, ap₂}
use Rattle.std.proofs.Common.{◌∙◌, subst, inl, inr, arith, lt-ltb, le-ltb}
use Rattle.std.proofs.Math.Bool.{cond}
use Rattle.std.proofs.Math.Logic.{⊎_elim}
use Rattle.std.specs.Int.Bits.{bit_and}
use Rattle.std.proofs.Math.Dec.{eqb, ltb}
use Rattle.std.proofs.Math.ListN.{get_or, get_or-eq_default}
use Rattle.base_laws.specs.Bools.{cond_of, lt_or_le}
use Rattle.base_laws.specs.Definitions.{any_below, has, count, minus}
use Rattle.base_laws.specs.Below.{any_cong, count_cong}
use Rattle.base_sum_laws.specs.Definitions.{sum_below}
use Rattle.base_sum_laws.specs.Picked.{mask_lt, mask-at}
use Rattle.base_laws.specs.Tables.{length_tabulate, get_d_tabulate, get_or_tabulate_past}
use Rattle.base_sum_laws.specs.Sums.{sum_cong}
use Rattle.settings_values.specs.Definitions.{nodes, sets, least, shards, set_of, shard_word, subgroup, need, cap, Settings}
use Rattle.place_groups.specs.Definitions.{meets_set, sets_in, group_valid, group_moves_at, group_moves, group_stays_at, group_stays, Impossible, LowestUnplaced, LeastMoves, of_group, NotLater, Chosen}
use Rattle.search_laws.specs.Case.{Case, Valid}
use Rattle.search_laws.specs.Lesser.{Exact, kept_only, narrow, narrow_moves}
use Rattle.search_laws.proofs.Lesser.{widen}
use Rattle.place_laws.specs.Cases.{set_in, need_in, price_in, CaseFor, group_shard, set_small}
use Rattle.place_laws.proofs.Cases.{need_cap}
use Rattle.place_laws.specs.Shards.{group_valid_of, shard_placed}
use Rattle.place_laws.specs.Owners.{Masked, owner}
use Rattle.place_laws.proofs.Owners.{masks_valid, moves_same, from_masks, from_moves}
use Rattle.place_laws.specs.Tables.{group_case}
use Rattle.place_laws.proofs.Tables.{case_for}
use Rattle.place_laws.specs.Exactly.{CapsAtNeeds}
use Rattle.place_laws.specs.Uncapped.{uncapped_word, uncapped, narrower}

-- ---- the words

module _ (σ : List ℕ) where
  word-at : (k : ℕ) → get_or (uncapped σ) k 0 ≡ uncapped_word σ k
  unfolding uncapped uncapped_word
  word-at k =
      ⊎_elim (λ l. get_d_tabulate (length σ) (uncapped_word σ) k 0 l)
      (λ l.
      let e : get_or σ k 0 ≡ 0 = get_or-eq_default σ 0 {n = k} l in
      get_or_tabulate_past (length σ) (uncapped_word σ) k 0 l ∙ sym (cond_of (λ (w : ℕ). w ≡ 0) (ltb k (4 + nodes σ)) (λ b. e) (λ b. omega arith)))
      (lt_or_le k (length σ))

  word_kept : (k : ℕ) → k < 4 + nodes σ → get_or (uncapped σ) k 0 ≡ get_or σ k 0
  unfolding uncapped_word
  word_kept k l = word-at k ∙ simp (lt-ltb k (4 + nodes σ) l)

  pub uncapped_nodes : nodes (uncapped σ) ≡ nodes σ
  uncapped_nodes = word_kept 0 (omega arith)

  pub uncapped_sets : sets (uncapped σ) ≡ sets σ
  uncapped_sets = word_kept 1 (omega arith)

  pub uncapped_least : least (uncapped σ) ≡ least σ
  uncapped_least = word_kept 2 (omega arith)

  pub uncapped_shards : shards (uncapped σ) ≡ shards σ
  uncapped_shards = word_kept 3 (omega arith)

  pub uncapped_set : (n : ℕ) → n < nodes σ → set_of (uncapped σ) n ≡ set_of σ n
  uncapped_set n l = word_kept (4 + n) (omega arith)

  shard-at : (s : ℕ) → shard_word (uncapped σ) s ≡ shard_word σ s % 65536
  unfolding uncapped_word
  shard-at s =
      ap (λ (m : ℕ). get_or (uncapped σ) (4 + m + s) 0) uncapped_nodes
      ∙ (word-at (4 + nodes σ + s)
      ∙ ap (λ (b : Bool). cond b (shard_word σ s) (shard_word σ s % 65536)) (le-ltb (4 + nodes σ + s) (4 + nodes σ) (omega arith)))

  pub uncapped_subgroup : (s : ℕ) → subgroup (uncapped σ) s ≡ subgroup σ s
  uncapped_subgroup s = omega (arith, shard-at s)

  pub uncapped_need : (s : ℕ) → need (uncapped σ) s ≡ need σ s
  uncapped_need s = omega (arith, shard-at s)

  -- a cap is the need
  pub uncapped_cap : (s : ℕ) → cap (uncapped σ) s ≡ need σ s
  unfolding cap
  uncapped_cap s =
      let none : shard_word (uncapped σ) s / 65536 ≡ 0 = omega (arith, shard-at s) in
      ap (λ (c : ℕ). cond (eqb c 0) (need (uncapped σ) s) c) none ∙ uncapped_need s

  pub uncapped_caps : (g : ℕ) → CapsAtNeeds (uncapped σ) g
  uncapped_caps g = record { at = λ s o. uncapped_cap s ∙ sym (uncapped_need s) }

  uncapped_length : length (uncapped σ) ≡ length σ
  unfolding uncapped
  uncapped_length = length_tabulate (length σ) (uncapped_word σ)

  pub uncapped_right : Settings σ → Settings (uncapped σ)
  uncapped_right right =
      let z = right.sizes in
      let count : nodes (uncapped σ) ≡ nodes σ = uncapped_nodes in
      let many : shards (uncapped σ) ≡ shards σ = uncapped_shards in
      record {
        sizes =
            record {
              nodes_from = omega (arith, z.nodes_from);
              nodes_to = omega (arith, z.nodes_to);
              sets_from = omega (arith, uncapped_sets, z.sets_from);
              sets_to = omega (arith, uncapped_sets, z.sets_to);
              least_from = omega (arith, uncapped_least, z.least_from);
              least_to = omega (arith, uncapped_least, z.least_to);
              shards_from = omega (arith, z.shards_from);
              shards_to = omega (arith, z.shards_to);
              words = omega (arith, uncapped_length, z.words);
            };
        set_below = λ n l. omega (arith, uncapped_sets, uncapped_set n (omega arith), right.set_below n (omega arith));
        subgroup_to = λ s l. omega (arith, uncapped_subgroup s, right.subgroup_to s (omega arith));
        need_from = λ s l. omega (arith, uncapped_need s, right.need_from s (omega arith));
        need_to = λ s l. omega (arith, uncapped_sets, uncapped_need s, right.need_to s (omega arith));
        cap_from = λ s l. omega (arith, uncapped_need s, uncapped_cap s);
        cap_to = λ s l. omega (arith, uncapped_cap s, right.need_to s (omega arith), z.sets_to);
      }

  -- ---- shards, sets and moves are as before

  uncapped_group : (g s : ℕ) → of_group (uncapped σ) g s ≡ of_group σ g s
  unfolding of_group
  uncapped_group g s = ap₂ (λ (n h : ℕ). ltb s n && eqb h g) uncapped_shards (uncapped_subgroup s)

  sets-in : (mask : ℕ) → sets_in (uncapped σ) mask ≡ sets_in σ mask
  unfolding sets_in meets_set
  sets-in mask =
      count_cong 16 (meets_set (uncapped σ) mask) (meets_set σ mask)
      (λ f q.
      ap (λ (n : ℕ). any_below n (λ m. has mask m && eqb (set_of (uncapped σ) m) f)) uncapped_nodes
      ∙ any_cong (nodes σ) (λ m. has mask m && eqb (set_of (uncapped σ) m) f) (λ m. has mask m && eqb (set_of σ m) f)
      (λ m l. ap (λ (i : ℕ). has mask m && eqb i f) (uncapped_set m l)))

  pub uncapped_moves : (old masks : ℕ → ℕ) (g : ℕ) → group_moves (uncapped σ) old masks g ≡ group_moves σ old masks g
  unfolding group_moves group_moves_at
  uncapped_moves old masks g =
      ap (λ (n : ℕ). sum_below n (group_moves_at (uncapped σ) old masks g)) uncapped_shards
      ∙ sum_cong (shards σ) (group_moves_at (uncapped σ) old masks g) (group_moves_at σ old masks g)
      (λ s l. ap (λ (h : ℕ). cond (eqb h g) (count (minus (masks s) (old s))) 0) (uncapped_subgroup s))

  pub uncapped_stays : (old masks : ℕ → ℕ) (g : ℕ) → group_stays (uncapped σ) old masks g ≡ group_stays σ old masks g
  unfolding group_stays group_stays_at
  uncapped_stays old masks g =
      ap (λ (n : ℕ). sum_below n (group_stays_at (uncapped σ) old masks g)) uncapped_shards
      ∙ sum_cong (shards σ) (group_stays_at (uncapped σ) old masks g) (group_stays_at σ old masks g)
      (λ s l. ap (λ (h : ℕ). cond (eqb h g) (count (bit_and (masks s) (old s))) 0) (uncapped_subgroup s))

  set_same : (n : ℕ) → set_in (uncapped σ) n ≡ set_in σ n
  unfolding set_in
  set_same n =
      ⊎_elim
      (λ l. ap₂ (λ (m f : ℕ). cond (ltb n m) f 0) uncapped_nodes (uncapped_set n l))
      (λ l. ap (λ (b : Bool). cond b (set_of (uncapped σ) n) 0) (le-ltb n (nodes (uncapped σ)) (omega (arith, uncapped_nodes))) ∙ sym (ap (λ (b : Bool). cond b (set_of σ n) 0) (le-ltb n (nodes σ) l)))
      (lt_or_le n (nodes σ))

  need_same : (g s : ℕ) → need_in (uncapped σ) g s ≡ need_in σ g s
  unfolding need_in
  need_same g s = ap₂ (λ (b : Bool) (m : ℕ). cond b m 0) (uncapped_group g s) (uncapped_need s)

  -- ---- both ways

  module _ (right : Settings σ) where
    -- what is valid with every cap at its need is valid
    pub widened : (held : ℕ) (masks : ℕ → ℕ) (g : ℕ) → group_valid (uncapped σ) held masks g ≡ true → group_valid σ held masks g ≡ true
    widened held masks g v =
        group_valid_of σ held masks g
        (λ s o.
        let w = shard_placed (uncapped σ) held masks g v s (uncapped_group g s ∙ o) in
        record {
          inside = w.inside;
          sized = omega (arith, w.sized, uncapped_cap s, right.cap_from s (group_shard σ g s o));
          spreads = omega (arith, w.spreads, uncapped_need s, sets-in (masks s));
          shares = λ t l e. w.shares t l (uncapped_subgroup t ∙ (e ∙ sym (uncapped_subgroup s)));
        })

    module _ (held : ℕ) (inside : held < 2 ^ nodes σ) (old : ℕ → ℕ) (g : ℕ) (masks : ℕ → ℕ) (v : group_valid σ held masks g ≡ true) where
      -- the subgroup's case with the caps as they are, and with every cap at its need
      abbrev with_caps : Case
      with_caps = group_case σ held old g

      abbrev with_needs : Case
      with_needs = group_case (uncapped σ) held old g

      wide_for : CaseFor σ held g with_caps
      wide_for = case_for σ held old g right

      low_for : CaseFor (uncapped σ) held g with_needs
      low_for = case_for (uncapped σ) held old g (uncapped_right right)

      within : held < 2 ^ nodes (uncapped σ)
      within = subst (λ (n : ℕ). held < 2 ^ n) (sym uncapped_nodes) inside

      -- the owners that are kept
      abbrev less_owners : ℕ → ℕ
      less_owners = kept_only with_caps (owner σ g masks)

      -- sets below 16, in both cases alike
      small : (n : ℕ) → n < 32 → with_caps.set_of n < 16
      small n l = subst (λ (i : ℕ). i < 16) (sym (wide_for.sets n l)) (set_small σ n right)

      sets_alike : (n : ℕ) → n < 32 → with_needs.set_of n ≡ with_caps.set_of n
      sets_alike n l = low_for.sets n l ∙ (set_same n ∙ sym (wide_for.sets n l))

      exact : Exact with_caps less_owners
      exact = narrow with_caps (owner σ g masks) small (from_masks right inside wide_for masks v)

      -- exactly as needed is exactly so by either
      exact_low : Exact with_needs less_owners
      exact_low =
          record {
            allowed = λ n l p. low_for.allows (less_owners n) n p l (ap (λ (b : Bool). b && has held n) (uncapped_group g (less_owners n)) ∙ wide_for.allowed (less_owners n) n p l (exact.allowed n l p));
            sized = λ s l. exact.sized s l ∙ (wide_for.needs s l ∙ (sym (need_same g s) ∙ sym (low_for.needs s l)));
            apart = λ n m l j p e d. exact.apart n m l j p e (sym (sets_alike n l) ∙ (d ∙ sets_alike m j));
          }

      low_valid : Valid with_needs less_owners
      low_valid =
          widen with_needs less_owners (λ n l. omega (arith, small n l, sets_alike n l))
          (λ s l. omega (arith, low_for.needs s l, low_for.caps s l, need_cap (uncapped σ) g s (uncapped_right right))) exact_low

      low_masked : Masked (uncapped σ) g less_owners (narrower σ held old g masks)
      unfolding narrower
      low_masked =
          record {
            bits = λ s o n l. mask-at 32 (λ m. eqb (less_owners m) s) n l;
            small = λ s o. mask_lt 32 32 (λ m. eqb (less_owners m) s) (omega arith);
          }

      -- a valid placement has within it one with every cap at its need
      pub narrower_valid : group_valid (uncapped σ) held (narrower σ held old g masks) g ≡ true
      narrower_valid = masks_valid (uncapped_right right) within low_for low_masked low_valid

      -- that moves no more nodes
      pub narrower_moves : group_moves σ old (narrower σ held old g masks) g ≤ group_moves σ old masks g
      narrower_moves =
          omega (
            arith,
            moves_same (uncapped_right right) within low_for low_masked low_valid old,
            uncapped_moves old (narrower σ held old g masks) g,
            narrow_moves with_caps (owner σ g masks) (price_in old),
            from_moves right inside wide_for old masks v,
          )

    -- ---- so caps change neither what is possible nor the least moves

    module _ {held : ℕ} (inside : held < 2 ^ nodes σ) where
      pub impossible_low : {g : ℕ} → Impossible σ held g → Impossible (uncapped σ) held g
      impossible_low {g} w = record { none = λ masks v. w.none masks (widened held masks g v) }

      pub impossible_wide : {g : ℕ} → Impossible (uncapped σ) held g → Impossible σ held g
      impossible_wide {g} w = record { none = λ masks v. w.none (narrower σ held (λ s. 0) g masks) (narrower_valid held inside (λ s. 0) g masks v) }

      pub lowest_low : {g : ℕ} → LowestUnplaced σ held g → LowestUnplaced (uncapped σ) held g
      lowest_low {g} w =
          record {
            below = w.below;
            none = impossible_low w.none;
            lower = λ h l. let v = w.lower h l in (narrower σ held (λ s. 0) h v.0, narrower_valid held inside (λ s. 0) h v.0 v.1);
          }

      pub lowest_wide : {g : ℕ} → LowestUnplaced (uncapped σ) held g → LowestUnplaced σ held g
      lowest_wide {g} w =
          record {
            below = w.below;
            none = impossible_wide w.none;
            lower = λ h l. let v = w.lower h l in (v.0, widened held v.0 h v.1);
          }

      pub least_alike : {old a b : ℕ → ℕ} {g : ℕ} → LeastMoves σ held old a g → LeastMoves (uncapped σ) held old b g → group_moves σ old a g ≡ group_moves σ old b g
      least_alike {old} {a} {b} {g} p q =
          omega (
            arith,
            p.least b (widened held b g q.valid),
            q.least (narrower σ held old g a) (narrower_valid held inside old g a p.valid),
            narrower_moves held inside old g a p.valid,
            uncapped_moves old b g,
            uncapped_moves old (narrower σ held old g a) g,
          )

    -- ---- where every cap is its need, nothing changes at all

    module _ (held g : ℕ) (caps : CapsAtNeeds σ g) where
      valid_low : (masks : ℕ → ℕ) → group_valid σ held masks g ≡ true → group_valid (uncapped σ) held masks g ≡ true
      valid_low masks v =
          group_valid_of (uncapped σ) held masks g
          (λ s o.
          let p : of_group σ g s ≡ true = sym (uncapped_group g s) ∙ o in
          let w = shard_placed σ held masks g v s p in
          record {
            inside = w.inside;
            sized = omega (arith, w.sized, uncapped_cap s, caps.at s p);
            spreads = omega (arith, w.spreads, uncapped_need s, sets-in (masks s));
            shares = λ t l e. w.shares t l (sym (uncapped_subgroup t) ∙ (e ∙ uncapped_subgroup s));
          })

      least_low : {old masks : ℕ → ℕ} → LeastMoves σ held old masks g → LeastMoves (uncapped σ) held old masks g
      least_low {old} {masks} w =
          record {
            valid = valid_low masks w.valid;
            least = λ other v. omega (arith, w.least other (widened held other g v), uncapped_moves old masks g, uncapped_moves old other g);
          }

      -- the choice with every cap at its need is the choice
      pub chosen_wide : {old masks : ℕ → ℕ} → Chosen (uncapped σ) held old masks g → Chosen σ held old masks g
      chosen_wide {old} {masks} c =
          record {
            least =
                record {
                  valid = widened held masks g c.least.valid;
                  least = λ other v. omega (arith, c.least.least other (valid_low other v), uncapped_moves old masks g, uncapped_moves old other g);
                };
            most = λ other l. omega (arith, c.most other (least_low l), uncapped_stays old masks g, uncapped_stays old other g);
            first = λ other l e. same-shards other (c.first other (least_low l) (uncapped_stays old other g ∙ (e ∙ sym (uncapped_stays old masks g))));
          }
        where
          -- the subgroup's shards are the same
          same-shards : (other : ℕ → ℕ) → NotLater (of_group (uncapped σ) g) masks other → NotLater (of_group σ g) masks other
          same-shards other (inl e) = inl (record { alike = λ s o. e.alike s (uncapped_group g s ∙ o) })
          same-shards other (inr f) =
              inr (record {
                shard = f.shard;
                picked = sym (uncapped_group g f.shard) ∙ f.picked;
                alike = λ s l o. f.alike s l (uncapped_group g s ∙ o);
                smaller = f.smaller;
              })
