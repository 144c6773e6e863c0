-- What right settings give, as records, and that the records give right settings.
use Rattle.std.specs.Prelude.{◌≡◌, true, ◌&&◌, List, ℕ, ◌+◌, ◌<◌, ◌≤◌, eqb, leb, ltb, length}
use Rattle.std.proofs.Common.{arith, leb-true, ltb-true, eqb-true, le-leb, lt-ltb, eq-eqb}
use Rattle.base_laws.specs.Bools.{and_both, and_left, and_right}
use Rattle.base_laws.specs.Below.{all_at, all_of}
use Rattle.settings_values.specs.Definitions.{nodes, sets, least, shards, set_of, subgroup, need, cap, from_to, ranges_ok, sizes_ok, nodes_ok, shard_ok, shards_ok, settings_ok, Sizes, Settings}

-- ---- low ≤ x ≤ high

pub range_low : (low high x : ℕ) → from_to low high x ≡ true → low ≤ x
range_low low high x h = leb-true low x (and_left (leb low x) (leb x high) h)

pub range_high : (low high x : ℕ) → from_to low high x ≡ true → x ≤ high
range_high low high x h = leb-true x high (and_right (leb low x) (leb x high) h)

pub range_of : (low high x : ℕ) → low ≤ x → x ≤ high → from_to low high x ≡ true
range_of low high x l h = and_both (le-leb low x l) (le-leb x high h)

-- ---- right settings

-- the four parts of rangesOk
pub record Ranges (σ : List ℕ) : Type 0 where
  pub nodes_range : from_to 1 32 (nodes σ) ≡ true
  pub sets_range : from_to 1 16 (sets σ) ≡ true
  pub least_range : from_to 1 (nodes σ) (least σ) ≡ true
  pub shards_range : from_to 1 16 (shards σ) ≡ true

pub ranges_give : (σ : List ℕ) → ranges_ok σ ≡ true → Ranges σ
ranges_give σ h =
    let n = from_to 1 32 (nodes σ) in
    let f = from_to 1 16 (sets σ) in
    let l = from_to 1 (nodes σ) (least σ) in
    let s = from_to 1 16 (shards σ) in
    let nfl : (n && f && l) ≡ true = and_left (n && f && l) s h in
    let nf : (n && f) ≡ true = and_left (n && f) l nfl in
    record {
      nodes_range = and_left n f nf;
      sets_range = and_right n f nf;
      least_range = and_right (n && f) l nfl;
      shards_range = and_right (n && f && l) s h;
    }

pub sizes_give : (σ : List ℕ) → sizes_ok σ ≡ true → Sizes σ
unfolding sizes_ok
sizes_give σ h =
    let four = leb 4 (length σ) in
    let words = eqb (length σ) (4 + nodes σ + shards σ) in
    let r = ranges_give σ (and_right four (ranges_ok σ) (and_left (four && ranges_ok σ) words h)) in
    record {
      nodes_from = range_low 1 32 (nodes σ) r.nodes_range;
      nodes_to = range_high 1 32 (nodes σ) r.nodes_range;
      sets_from = range_low 1 16 (sets σ) r.sets_range;
      sets_to = range_high 1 16 (sets σ) r.sets_range;
      least_from = range_low 1 (nodes σ) (least σ) r.least_range;
      least_to = range_high 1 (nodes σ) (least σ) r.least_range;
      shards_from = range_low 1 16 (shards σ) r.shards_range;
      shards_to = range_high 1 16 (shards σ) r.shards_range;
      words = eqb-true (length σ) (4 + nodes σ + shards σ) (and_right (four && ranges_ok σ) words h);
    }

pub settings_give : (σ : List ℕ) → settings_ok σ ≡ true → Settings σ
unfolding settings_ok nodes_ok shards_ok shard_ok
settings_give σ h =
    let both : (sizes_ok σ && nodes_ok σ) ≡ true = and_left (sizes_ok σ && nodes_ok σ) (shards_ok σ) h in
    let each : (s : ℕ) → s < shards σ → shard_ok σ s ≡ true =
    all_at (shards σ) (shard_ok σ) (and_right (sizes_ok σ && nodes_ok σ) (shards_ok σ) h) in
    let first : (s : ℕ) → s < shards σ → (leb (subgroup σ s) 3 && from_to 1 (sets σ) (need σ s)) ≡ true =
    λ s l. and_left (leb (subgroup σ s) 3 && from_to 1 (sets σ) (need σ s)) (from_to (need σ s) 16 (cap σ s)) (each s l) in
    let needed : (s : ℕ) → s < shards σ → from_to 1 (sets σ) (need σ s) ≡ true =
    λ s l. and_right (leb (subgroup σ s) 3) (from_to 1 (sets σ) (need σ s)) (first s l) in
    let capped : (s : ℕ) → s < shards σ → from_to (need σ s) 16 (cap σ s) ≡ true =
    λ s l. and_right (leb (subgroup σ s) 3 && from_to 1 (sets σ) (need σ s)) (from_to (need σ s) 16 (cap σ s)) (each s l) in
    record {
      sizes = sizes_give σ (and_left (sizes_ok σ) (nodes_ok σ) both);
      set_below = λ n l. ltb-true (set_of σ n) (sets σ) (all_at (nodes σ) (λ k. ltb (set_of σ k) (sets σ)) (and_right (sizes_ok σ) (nodes_ok σ) both) n l);
      subgroup_to = λ s l. leb-true (subgroup σ s) 3 (and_left (leb (subgroup σ s) 3) (from_to 1 (sets σ) (need σ s)) (first s l));
      need_from = λ s l. range_low 1 (sets σ) (need σ s) (needed s l);
      need_to = λ s l. range_high 1 (sets σ) (need σ s) (needed s l);
      cap_from = λ s l. range_low (need σ s) 16 (cap σ s) (capped s l);
      cap_to = λ s l. range_high (need σ s) 16 (cap σ s) (capped s l);
    }

-- the other way

pub sizes_of : (σ : List ℕ) → Sizes σ → sizes_ok σ ≡ true
unfolding sizes_ok
sizes_of σ z =
    and_both
    (and_both (le-leb 4 (length σ) (omega (arith, z.words)))
    (and_both
    (and_both
    (and_both (range_of 1 32 (nodes σ) z.nodes_from z.nodes_to) (range_of 1 16 (sets σ) z.sets_from z.sets_to))
    (range_of 1 (nodes σ) (least σ) z.least_from z.least_to))
    (range_of 1 16 (shards σ) z.shards_from z.shards_to)))
    (eq-eqb (length σ) (4 + nodes σ + shards σ) z.words)

pub settings_of : (σ : List ℕ) → Settings σ → settings_ok σ ≡ true
unfolding settings_ok nodes_ok shards_ok shard_ok
settings_of σ g =
    and_both
    (and_both (sizes_of σ g.sizes) (all_of (nodes σ) (λ n. ltb (set_of σ n) (sets σ)) (λ n l. lt-ltb (set_of σ n) (sets σ) (g.set_below n l))))
    (all_of (shards σ) (shard_ok σ)
    (λ s l.
    and_both
    (and_both (le-leb (subgroup σ s) 3 (g.subgroup_to s l)) (range_of 1 (sets σ) (need σ s) (g.need_from s l) (g.need_to s l)))
    (range_of (need σ s) 16 (cap σ s) (g.cap_from s l) (g.cap_to s l))))
