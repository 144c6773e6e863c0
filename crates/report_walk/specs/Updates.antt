-- Whether the log of a shard has an update, by the pairs b of a report's records: record j of its body is record j + 1 of the pairs.
use Rattle.std.specs.Prelude.{◌≡◌, ℕ, ◌+◌, ◌*◌, ◌/◌, ◌%◌, ◌<◌, ◌≤◌, Bool, true, false, ◌&&◌, ◌||◌, List, get_or, ◌==◌, ◌≢◌, nat_le, slice_index, slice_index_or}
use Rattle.std.proofs.Common.{arith, ap, ap₂}
use Rattle.std.proofs.Math.Path.{sym}
use borrow.Author.Tests.{eqb-true, eq-eqb, ne_eqb, le-leb, lt-leb}
use Rattle.base_laws.specs.Definitions.{any_below}
use Rattle.base_laws.specs.Below.{any_cong}
use Rattle.base_laws.specs.Bools.{same, and_both, and_left, and_right}
use Rattle.base_ids.specs.declared.Position.{Position}
use Rattle.message_format.specs.Definitions.{tag, word1, word2}
use Rattle.report_views.specs.Definitions.{start, reaches, holds, is_start, has_update}
use Rattle.report_views.specs.Numbers.{as_number, from_number}
use Rattle.report_walk.specs.Seen.{PositionRecords}

-- the pairs have the records of a body, n in number
pub record RecordsAre (b body : List ℕ) (n : ℕ) : Type 0 where
  pub tags : (j : ℕ) → j < n → tag body j ≡ slice_index b (2 * j + 2) % 4294967296
  pub firsts : (j : ℕ) → j < n → word1 body j ≡ slice_index b (2 * j + 2) / 4294967296
  pub seconds : (j : ℕ) → j < n → word2 body j ≡ slice_index b (2 * j + 3) % 4294967296

-- record j + 1 is a run with this front, its tag and its view, and reaches k
unfoldable pub run_has : List ℕ → ℕ → ℕ → ℕ → Bool
run_has b front k j = slice_index b (2 * j + 2) == front && nat_le k (slice_index b (2 * j + 3) % 4294967296)

-- the log of shard s has the update with this number
unfoldable pub update_seen : List ℕ → ℕ → ℕ → ℕ → Bool
update_seen b n s goal =
    (goal == 0)
    || (nat_le 1 (goal % 4294967296) && any_below n (run_has b (768 + s + 4294967296 * (goal / 4294967296)) (goal % 4294967296)))

-- the number of shard s's position, by the pairs of its record
unfoldable pub goal_at : List ℕ → ℕ → ℕ
goal_at positions s = 4294967296 * (slice_index positions (2 * s) / 4294967296) + slice_index positions (2 * s + 1) % 4294967296

pub goal_is : (positions : List Position) (count : ℕ) (r : List ℕ) → PositionRecords positions count r → (s : ℕ) → s < 16
    → goal_at r s ≡ as_number (slice_index_or positions s start)
unfolding goal_at as_number
goal_is positions count r e s l = number (slice_index r (2 * s)) (slice_index r (2 * s + 1)) (get_or positions s start).view.0 (get_or positions s start).k (e.fronts s l) (e.backs s l) (e.fit s l)
  where
    number : (x y v k : ℕ) → x ≡ 512 + s + 4294967296 * v → y ≡ k + 4294967296 * (count + s + 2) → k < 4294967296
        → 4294967296 * (x / 4294967296) + y % 4294967296 ≡ 4294967296 * v + k
    number x y v k p q h = omega arith

-- the tests one after another
module _ (b : List ℕ) (n s goal : ℕ) where
  pub update_start : goal ≡ 0 → true ≡ update_seen b n s goal
  unfolding update_seen
  update_start e = rw (eq-eqb goal 0 e)

  pub update_no_place : (goal ≢ 0) → goal % 4294967296 < 1 → false ≡ update_seen b n s goal
  unfolding update_seen
  update_no_place e l = rw (ne_eqb goal 0 e, lt-leb 1 (goal % 4294967296) l)

  pub update_found : (goal ≢ 0) → 1 ≤ goal % 4294967296 → (front : ℕ) → front ≡ 768 + s + 4294967296 * (goal / 4294967296) → (r : Bool)
      → any_below n (run_has b front (goal % 4294967296)) ≡ r → r ≡ update_seen b n s goal
  unfolding update_seen
  update_found e l front f r h = rw (ne_eqb goal 0 e, le-leb 1 (goal % 4294967296) l, sym f, h)

-- a front by its halves
front_halves : (x a c : ℕ) → a < 4294967296 → (x == a + 4294967296 * c) ≡ (x % 4294967296 == a && x / 4294967296 == c)
front_halves x a c l =
    same (x == a + 4294967296 * c) (x % 4294967296 == a && x / 4294967296 == c)
    (λ h. let e = eqb-true x (a + 4294967296 * c) h in and_both (eq-eqb (x % 4294967296) a (omega arith)) (eq-eqb (x / 4294967296) c (omega arith)))
    (λ h.
    let p = eqb-true (x % 4294967296) a (and_left (x % 4294967296 == a) (x / 4294967296 == c) h) in
    let q = eqb-true (x / 4294967296) c (and_right (x % 4294967296 == a) (x / 4294967296 == c) h) in
    eq-eqb x (a + 4294967296 * c) (omega arith))

-- the number 0 is that of (0, 0)
start_number : (x : ℕ) → (x == 0) ≡ is_start (from_number x)
unfolding from_number
start_number x =
    same (x == 0) (x / 4294967296 == 0 && x % 4294967296 == 0)
    (λ h. let e = eqb-true x 0 h in and_both (eq-eqb (x / 4294967296) 0 (omega arith)) (eq-eqb (x % 4294967296) 0 (omega arith)))
    (λ h.
    let p = eqb-true (x / 4294967296) 0 (and_left (x / 4294967296 == 0) (x % 4294967296 == 0) h) in
    let q = eqb-true (x % 4294967296) 0 (and_right (x / 4294967296 == 0) (x % 4294967296 == 0) h) in
    eq-eqb x 0 (omega arith))

-- one record, by the pairs and by the body
pairs_reach : (b body : List ℕ) (s goal j : ℕ) → s < 16 → tag body j ≡ slice_index b (2 * j + 2) % 4294967296 → word1 body j ≡ slice_index b (2 * j + 2) / 4294967296
    → word2 body j ≡ slice_index b (2 * j + 3) % 4294967296
    → run_has b (768 + s + 4294967296 * (goal / 4294967296)) (goal % 4294967296) j ≡ reaches body s (from_number goal) j
unfolding run_has reaches from_number
pairs_reach b body s goal j l e f g =
    rw (e, f, g)
    (ap (λ (x : Bool). x && nat_le (goal % 4294967296) (slice_index b (2 * j + 3) % 4294967296))
    (front_halves (slice_index b (2 * j + 2)) (768 + s) (goal / 4294967296) (omega arith)))

-- by the pairs and by the body
pub update-seen : (b body : List ℕ) (n s goal : ℕ) → s < 16 → RecordsAre b body n → update_seen b n s goal ≡ has_update body n s (from_number goal)
unfolding update_seen has_update holds from_number
update-seen b body n s goal l are =
    ap₂ ◌||◌ (start_number goal)
    (ap (λ (x : Bool). nat_le 1 (goal % 4294967296) && x)
    (any_cong n (run_has b (768 + s + 4294967296 * (goal / 4294967296)) (goal % 4294967296)) (reaches body s (from_number goal)) one))
  where
    one : (j : ℕ) → j < n → run_has b (768 + s + 4294967296 * (goal / 4294967296)) (goal % 4294967296) j ≡ reaches body s (from_number goal) j
    one j m = pairs_reach b body s goal j l (are.tags j m) (are.firsts j m) (are.seconds j m)
