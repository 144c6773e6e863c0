-- What the search by hints knows at pair t: the owners so far, and masks of open pairs: every placement that is still sought takes open
-- pairs only. After them stands the mask of nodes without an owner that each of those placements places.
use Rattle.std.specs.Prelude.{◌≡◌, true, false, not, ◌&&◌, List, ◌⊎◌, ℕ, ◌+◌, ◌*◌, ◌/◌, ◌%◌, ◌^◌, ◌≤◌, ◌<◌, eqb, ltb, length, get_or, set}
use Rattle.std.proofs.Common.{sym, ap, ◌∙◌, subst, inl, inr, ⊎_elim, arith, length-set, get_or-set_same, get_or-set_other, eqb-true, eq-eqb, lt-ltb, le-ltb}
use Rattle.std.proofs.lemmas.Bool.{eqb-false}
use Rattle.std.specs.Int.Bits.{bit_or}
use Rattle.base_laws.specs.Bools.{lt_or_le, eq_or_ne, clash, and_both, and_left, and_right, and_fails_right, of_not_true, no_true, or_left, or_right}
use Rattle.base_laws.specs.Below.{count_mono, count_past, count_le}
use Rattle.base_laws.specs.Definitions.{has, without, minus}
use Rattle.base_laws.specs.Masks.{has_without, has_minus, has_or, some_bit}
use Rattle.base_sum_laws.specs.Definitions.{mask_below}
use Rattle.base_sum_laws.specs.Picked.{mask-at}
use Rattle.search_laws.specs.Case.{Case, WeighsWithin, size}
use Rattle.search_laws.specs.Tables.{owners_of}
use Rattle.search_laws.specs.Order.{takes, shard_end, Begun, First, HasNone, From, TakesPair, from_left, from_closed, from_taken, begun_close, pair_takes, first_leave, first_close, first_take}
use Rattle.search_laws.specs.Cut.{keeps, decided}
use Rattle.search_bounds.specs.Post.{OpenFor, SoundBound}
use Rattle.search_total.specs.Post.{ReadyFrom}
use Rattle.search_total.specs.Steps.{ready_leave, ready_stored, taken}

pub record Narrowed (K : Case) (k : ℕ) (o : List ℕ) (t : ℕ) (rows : List ℕ) : Type 0 where
  pub ready : ReadyFrom o t
  pub long : length rows ≡ 17
  pub uses : (y : ℕ → ℕ) → From (WeighsWithin K k) (owners_of o) t y → OpenFor rows y
  pub bare : (n : ℕ) → n < 32 → has (get_or rows 16 0) n ≡ true → 16 ≤ owners_of o n
  pub placed : (n : ℕ) → n < 32 → has (get_or rows 16 0) n ≡ true → (y : ℕ → ℕ) → From (WeighsWithin K k) (owners_of o) t y → y n < 16

-- from pair t to the next one: what is first from there is first from here
pub record Advanced (K : Case) (k : ℕ) (o : List ℕ) (t : ℕ) (after rows : List ℕ) : Type 0 where
  pub stage : Narrowed K k after (t + 1) rows
  pub first : (z : ℕ → ℕ) → First (From (WeighsWithin K k) (owners_of after) (t + 1)) z → First (From (WeighsWithin K k) (owners_of o) t) z

-- none that takes open pairs only is within k
pub record Exceeded (K : Case) (k : ℕ) (o : ℕ → ℕ) (t : ℕ) (rows : List ℕ) : Type 0 where
  pub none : (y : ℕ → ℕ) → From (WeighsWithin K k) o t y → OpenFor rows y → ⊥

-- m has each node that is open for a shard past i and below k
pub record Later (rows : List ℕ) (i k m : ℕ) : Type 0 where
  pub has_all : (j n : ℕ) → i < j → j < k → has (get_or rows j 0) n ≡ true → has m n ≡ true

-- a node that must be placed, and is open for no shard past i
pub record OnlyHere (rows : List ℕ) (i : ℕ) : Type 0 where
  pub node : ℕ
  pub below : node < 32
  pub must : has (get_or rows 16 0) node ≡ true
  pub last : (j : ℕ) → i < j → j < 16 → has (get_or rows j 0) node ≡ false

-- m has each pair of shard i that is allowed, if the shard may have nodes
pub record AllowedRow (caps prices : List ℕ) (i m : ℕ) : Type 0 where
  pub bit : (n : ℕ) → n < 32 → 0 < get_or caps i 0 → get_or prices (i * 32 + n) 0 < 255 → has m n ≡ true

-- so have the rows of the first k shards, and no node must be placed
pub record OpenBelow (caps prices : List ℕ) (k : ℕ) (rows : List ℕ) : Type 0 where
  pub long : length rows ≡ 17
  pub bit : (i n : ℕ) → i < k → n < 32 → 0 < get_or caps i 0 → get_or prices (i * 32 + n) 0 < 255 → has (get_or rows i 0) n ≡ true
  pub none : get_or rows 16 0 ≡ 0

-- before pair t a shard has no more nodes than were looked at
pub few_nodes : {o : ℕ → ℕ} (t : ℕ) → t < 512 → Begun o t → size o (t / 32) ≤ t % 32
few_nodes {o} t l b =
    omega (
      arith,
      count_mono 32 (λ n. eqb (o n) (t / 32)) (λ n. eqb (o n) (t / 32) && ltb n (t % 32)) (λ n q p. and_both p (lt-ltb n (t % 32) (past n q p))),
      count_past (t % 32) 32 (λ n. eqb (o n) (t / 32) && ltb n (t % 32)) (omega arith) (λ n h. and_fails_right (eqb (o n) (t / 32)) (le-ltb n (t % 32) h)),
      count_le (t % 32) (λ n. eqb (o n) (t / 32) && ltb n (t % 32)),
    )
  where
    past : (n : ℕ) → n < 32 → eqb (o n) (t / 32) ≡ true → n < t % 32
    past n q p =
        ⊎_elim (λ h. h)
        (λ h. clash (pair_takes o n (t / 32) q (eqb-true (o n) (t / 32) p)) (b.rest (t / 32 * 32 + n) (omega arith) (omega arith)))
        (lt_or_le n (t % 32))

-- ---- the masks

pub later_none : (rows : List ℕ) (i : ℕ) → Later rows i (i + 1) 0
later_none rows i = record { has_all = λ j n l h p. absurd (omega arith) }

pub later_more : {rows : List ℕ} {i k m : ℕ} → Later rows i k m → Later rows i (k + 1) (bit_or m (get_or rows k 0))
later_more {rows} {i} {k} {m} s =
    record {
      has_all = λ j n l h p. has_or m (get_or rows k 0) n
          ∙ ⊎_elim (λ e. or_right (has m n) (subst (λ (x : ℕ). has (get_or rows x 0) n ≡ true) e p)) (λ e. or_left (has (get_or rows k 0) n) (s.has_all j n l (omega arith) p)) (eq_or_ne j k);
    }

pub only_here_by : {rows : List ℕ} {i m r : ℕ} → Later rows i 16 m → r ≡ minus (get_or rows 16 0) m → r < 2 ^ 32 → (r ≡ 0 → ⊥) → OnlyHere rows i
only_here_by {rows} {i} {m} {r} s e l h =
    let (n, q, p) = some_bit 32 r l h in
    let both = sym (has_minus (get_or rows 16 0) m n) ∙ (ap (λ (x : ℕ). has x n) (sym e) ∙ p) in
    record {
      node = n;
      below = q;
      must = and_left (has (get_or rows 16 0) n) (not (has m n)) both;
      last = λ j a b. no_true (has (get_or rows j 0) n) (λ d. clash (s.has_all j n a b d) (of_not_true (has m n) (and_right (has (get_or rows 16 0) n) (not (has m n)) both)));
    }

pub allowed_none : {caps prices : List ℕ} {i : ℕ} → get_or caps i 0 ≡ 0 → AllowedRow caps prices i 0
allowed_none e = record { bit = λ n l h. absurd (omega arith) }

pub allowed_all : {caps prices : List ℕ} {i m : ℕ} → m ≡ mask_below 32 (λ n. ltb (get_or prices (i * 32 + n) 0) 255) → AllowedRow caps prices i m
allowed_all {caps} {prices} {i} {m} e =
    record {
      bit = λ n q h p. ap (λ (x : ℕ). has x n) e ∙ (mask-at 32 (λ j. ltb (get_or prices (i * 32 + j) 0) 255) n q ∙ lt-ltb (get_or prices (i * 32 + n) 0) 255 p);
    }

pub open_none : {caps prices rows : List ℕ} → length rows ≡ 17 → get_or rows 16 0 ≡ 0 → OpenBelow caps prices 0 rows
open_none l e = record { long = l; bit = λ i n h. absurd (omega arith); none = e }

pub open_more : {caps prices rows : List ℕ} {k m : ℕ} → k < 16 → OpenBelow caps prices k rows → AllowedRow caps prices k m →
    OpenBelow caps prices (k + 1) (set rows k m)
open_more {caps} {prices} {rows} {k} {m} l s e =
    record {
      long = length-set rows k m ∙ s.long;
      bit = λ i n h q u p. ⊎_elim
          (λ d. ap (λ (x : ℕ). has (get_or (set rows k m) x 0) n) d
          ∙ (ap (λ (x : ℕ). has x n) (get_or-set_same rows k m 0 (omega (arith, s.long)))
          ∙ e.bit n q (subst (λ (x : ℕ). 0 < get_or caps x 0) d u) (subst (λ (x : ℕ). get_or prices (x * 32 + n) 0 < 255) d p)))
          (λ d. ap (λ (x : ℕ). has x n) (get_or-set_other rows k i m 0 d) ∙ s.bit i n (omega arith) q u p)
          (eq_or_ne i k);
      none = get_or-set_other rows k 16 m 0 (λ d. omega arith) ∙ s.none;
    }

-- ---- the stage

module _ {K : Case} {k t : ℕ} {o rows : List ℕ} (s : Narrowed K k o t rows) where
  -- a cut keeps the stage
  pub stage_cut : {floor : ℕ} {after : List ℕ} → SoundBound K k floor (owners_of o) t rows after → Narrowed K k o t after
  stage_cut {floor} {after} c =
      record {
        ready = s.ready;
        long = c.long;
        uses = λ y f. c.uses y f.has.valid f.agree (s.uses y f) f.has.cheap;
        bare = λ n l h. ⊎_elim (λ e. s.bare n l e) (λ e. e.0) (c.marks n l h);
        placed = λ n l h y f. ⊎_elim (λ e. s.placed n l e y f) (λ e. e.1 y f.has.valid f.agree (s.uses y f) f.has.cheap) (c.marks n l h);
      }

  -- a pair that is not open is taken by none
  pub stage_shut : t < 512 → has (get_or rows (t / 32) 0) (t % 32) ≡ false → (y : ℕ → ℕ) → From (WeighsWithin K k) (owners_of o) t y → takes y t ≡ true → ⊥
  stage_shut l h y f e =
      let here : y (t % 32) ≡ t / 32 = eqb-true (y (t % 32)) (t / 32) e in
      clash (ap (λ (i : ℕ). has (get_or rows i 0) (t % 32)) (sym here) ∙ (s.uses y f).bit (t % 32) (omega arith) (omega arith)) h

  -- a pair whose node has an owner is taken by none
  pub stage_owned : t < 512 → owners_of o (t % 32) < 16 → (y : ℕ → ℕ) → From (WeighsWithin K k) (owners_of o) t y → takes y t ≡ true → ⊥
  stage_owned l h y f e =
      clash
      (eq-eqb (owners_of o (t % 32)) (t / 32) (sym (keeps s.ready.begun f.agree (t % 32) (omega arith) h) ∙ eqb-true (y (t % 32)) (t / 32) e))
      (s.ready.begun.rest t (omega arith) l)

  -- the pair is left
  pub advance_leave : t < 512 → ((y : ℕ → ℕ) → From (WeighsWithin K k) (owners_of o) t y → takes y t ≡ true → ⊥) → Advanced K k o t o rows
  advance_leave l h =
      record {
        stage = record {
          ready = ready_leave l s.ready;
          long = s.long;
          uses = λ y f. s.uses y (from_left l s.ready.begun y f);
          bare = s.bare;
          placed = λ n q p y f. s.placed n q p y (from_left l s.ready.begun y f);
        };
        first = λ z f. first_leave l s.ready.begun h f;
      }

  -- the pair is taken; v is its shard, and its node need not be placed any more
  pub advance_take : {v : ℕ} → t < 512 → HasNone (From (WeighsWithin K k) (owners_of o) (shard_end t)) → v ≡ t / 32 → 16 ≤ owners_of o (t % 32) →
      Advanced K k o t (set o (t % 32) v) (set rows 16 (without (get_or rows 16 0) (t % 32)))
  advance_take {v} l on e h =
      record {
        stage = record {
          ready = ready_stored l s.ready e h;
          long = length-set rows 16 (without (get_or rows 16 0) (t % 32)) ∙ s.long;
          uses = λ y f. record { bit = λ n q p. ap (λ (x : ℕ). has x n) (same (y n) p) ∙ (s.uses y (back y f)).bit n q p };
          bare = λ n q p. subst (λ (x : ℕ). 16 ≤ x) (sym (get_or-set_other o (t % 32) n v 0 (λ d. eqb-false (t % 32) n (other n p) (sym d)))) (s.bare n q (was n p));
          placed = λ n q p y f. s.placed n q (was n p) y (back y f);
        };
        first = λ z f. first_take l s.ready.begun h kept on f;
      }
    where
      kept : TakesPair (owners_of o) t (owners_of (set o (t % 32) v))
      kept = subst (λ (a : ℕ). TakesPair (owners_of o) t (owners_of (set o (t % 32) a))) (sym e) (taken s.ready.owners)

      back : (y : ℕ → ℕ) → From (WeighsWithin K k) (owners_of (set o (t % 32) v)) (t + 1) y → From (WeighsWithin K k) (owners_of o) t y
      back y f = from_taken l s.ready.begun h kept y f

      same : (j : ℕ) → j < 16 → get_or (set rows 16 (without (get_or rows 16 0) (t % 32))) j 0 ≡ get_or rows j 0
      same j q = get_or-set_other rows 16 j (without (get_or rows 16 0) (t % 32)) 0 (λ d. omega arith)

      both : (n : ℕ) → has (get_or (set rows 16 (without (get_or rows 16 0) (t % 32))) 16 0) n ≡ true → (has (get_or rows 16 0) n && not (eqb (t % 32) n)) ≡ true
      both n p =
          sym (has_without (get_or rows 16 0) (t % 32) n)
          ∙ (ap (λ (x : ℕ). has x n) (sym (get_or-set_same rows 16 (without (get_or rows 16 0) (t % 32)) 0 (omega (arith, s.long)))) ∙ p)

      was : (n : ℕ) → has (get_or (set rows 16 (without (get_or rows 16 0) (t % 32))) 16 0) n ≡ true → has (get_or rows 16 0) n ≡ true
      was n p = and_left (has (get_or rows 16 0) n) (not (eqb (t % 32) n)) (both n p)

      other : (n : ℕ) → has (get_or (set rows 16 (without (get_or rows 16 0) (t % 32))) 16 0) n ≡ true → eqb (t % 32) n ≡ false
      other n p = of_not_true (eqb (t % 32) n) (and_right (has (get_or rows 16 0) n) (not (eqb (t % 32) n)) (both n p))

  -- the list ended
  pub stage_close : t < 512 → Narrowed K k o (shard_end t) rows
  stage_close l =
      record {
        ready = record { owners = s.ready.owners; begun = begun_close l s.ready.begun };
        long = s.long;
        uses = λ y f. s.uses y (from_closed l s.ready.begun y f);
        bare = s.bare;
        placed = λ n q p y f. s.placed n q p y (from_closed l s.ready.begun y f);
      }

  -- none that takes open pairs only: none
  pub stage_none : Exceeded K k (owners_of o) t rows → HasNone (From (WeighsWithin K k) (owners_of o) t)
  stage_none n = record { none = λ y f. n.none y f (s.uses y f) }

  -- a node that must be placed can't be placed once the list is ended
  pub stage_only_here : t < 512 → OnlyHere rows (t / 32) → HasNone (From (WeighsWithin K k) (owners_of o) (shard_end t))
  stage_only_here l u =
      record {
        none = λ y f.
            let n = u.node in
            let g = from_closed l s.ready.begun y f in
            let there : y n < 16 = s.placed n u.below u.must y g in
            ⊎_elim
            (λ p. omega (arith, s.bare n u.below u.must, decided (begun_close l s.ready.begun) f.agree n u.below there (omega (arith, u.below))))
            (λ p. clash ((s.uses y g).bit n u.below there) (u.last (y n) (omega arith) there))
            (lt_or_le (y n) (t / 32 + 1));
      }

-- where the search stands: at pair p / 2, and, where p is odd, with none that ends the list there
pub record At (K : Case) (k : ℕ) (o : List ℕ) (p : ℕ) (rows : List ℕ) : Type 0 where
  pub stage : Narrowed K k o (p / 2) rows
  pub on : p % 2 ≡ 1 → HasNone (From (WeighsWithin K k) (owners_of o) (shard_end (p / 2)))

-- from p to r: what is first from there is first from here
pub record Moved (K : Case) (k : ℕ) (o : List ℕ) (p : ℕ) (after rows : List ℕ) (r : ℕ) : Type 0 where
  pub more : p < r
  pub most : r ≤ 1024
  pub at : At K k after r rows
  pub first : (z : ℕ → ℕ) → First (From (WeighsWithin K k) (owners_of after) (r / 2)) z → First (From (WeighsWithin K k) (owners_of o) (p / 2)) z

-- the next pair of the same shard is a pair
inside : (t : ℕ) → t < 512 → shard_end (t + 1) ≡ shard_end t → t + 1 < 512
inside t l e = omega arith

module _ {K : Case} {k p : ℕ} {o rows : List ℕ} (a : At K k o p rows) (l : p < 1024) where
  -- the list ended; j is the next shard's first pair
  pub moved_close : {j : ℕ} → j ≡ shard_end (p / 2) → Moved K k o p o rows (2 * j)
  moved_close {j} e =
      record {
        more = omega arith;
        most = omega arith;
        at = record {
          stage = subst (λ (t : ℕ). Narrowed K k o t rows) half (stage_close a.stage (omega arith));
          on = λ d. absurd (omega arith);
        };
        first = λ z f. first_close (omega arith) a.stage.ready.begun (subst (λ (t : ℕ). First (From (WeighsWithin K k) (owners_of o) t) z) (sym half) f);
      }
    where
      half : shard_end (p / 2) ≡ 2 * j / 2
      half = omega arith

  -- the list goes on
  pub moved_on : p % 2 ≡ 0 → HasNone (From (WeighsWithin K k) (owners_of o) (shard_end (p / 2))) → Moved K k o p o rows (p + 1)
  moved_on e n =
      record {
        more = omega arith;
        most = omega arith;
        at = record {
          stage = subst (λ (t : ℕ). Narrowed K k o t rows) half a.stage;
          on = λ d. subst (λ (t : ℕ). HasNone (From (WeighsWithin K k) (owners_of o) (shard_end t))) half n;
        };
        first = λ z f. subst (λ (t : ℕ). First (From (WeighsWithin K k) (owners_of o) t) z) (sym half) f;
      }
    where
      half : p / 2 ≡ (p + 1) / 2
      half = omega arith

  -- a pair taken, or the shard's last one left
  pub moved_next : {q after : List ℕ} → p % 2 ≡ 1 → Advanced K k o (p / 2) q after → Moved K k o p q after (p + 1)
  moved_next {q} {after} e v =
      record {
        more = omega arith;
        most = omega arith;
        at = record { stage = subst (λ (t : ℕ). Narrowed K k q t after) half v.stage; on = λ d. absurd (omega arith) };
        first = λ z f. v.first z (subst (λ (t : ℕ). First (From (WeighsWithin K k) (owners_of q) t) z) (sym half) f);
      }
    where
      half : p / 2 + 1 ≡ (p + 1) / 2
      half = omega arith

  -- a pair left within the shard
  pub moved_left : {after : List ℕ} → p % 2 ≡ 1 → shard_end (p / 2 + 1) ≡ shard_end (p / 2) → Advanced K k o (p / 2) o after → Moved K k o p o after (p + 2)
  moved_left {after} e d v =
      record {
        more = omega arith;
        most = omega (arith, inside (p / 2) (omega arith) d);
        at = record {
          stage = subst (λ (t : ℕ). Narrowed K k o t after) half v.stage;
          on = λ h. subst (λ (t : ℕ). HasNone (From (WeighsWithin K k) (owners_of o) t)) (sym d ∙ ap shard_end half) (a.on e);
        };
        first = λ z f. v.first z (subst (λ (t : ℕ). First (From (WeighsWithin K k) (owners_of o) t) z) (sym half) f);
      }
    where
      half : p / 2 + 1 ≡ (p + 2) / 2
      half = omega arith

  -- a pair left, by the place that the code goes to
  pub moved_passed : {after : List ℕ} (r : ℕ) → p % 2 ≡ 1 → (r ≡ p + 1) ⊎ ((r ≡ p + 2) × (shard_end (p / 2 + 1) ≡ shard_end (p / 2))) → Advanced K k o (p / 2) o after → Moved K k o p o after r
  moved_passed {after} r e (inl d) v = subst (λ (x : ℕ). Moved K k o p o after x) (sym d) (moved_next e v)
  moved_passed {after} r e (inr d) v = subst (λ (x : ℕ). Moved K k o p o after x) (sym d.0) (moved_left e d.1 v)

-- the owners at the next shard, as the code has it
pub begun_at : {o : ℕ → ℕ} (t : ℕ) {j : ℕ} → t < 512 → Begun o t → j ≡ shard_end t → Begun o j
begun_at {o} t l b e = subst (Begun o) (sym e) (begun_close l b)
