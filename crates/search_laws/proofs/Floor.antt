-- A sheet of the case: by shard and failure set, 2 where no node of the set is allowed, 1 where each that is allowed moves. It tells
-- of every valid placement how many moves it has at least, and where there is none.
use Rattle.std.specs.Prelude.{◌≡◌, refl, Bool, ◌&&◌, List}
use Rattle.std.proofs.Math.Path.{subst}
use Rattle.std.proofs.Math.Bool.{true, false, cond}
use Rattle.std.proofs.Common.{⊎_elim}
use Prim.Native.Nat.{ℕ, zero, suc, ◌+◌, ◌*◌, ◌≤◌, ◌<◌}
use native.Mathlib.Omega.{arith}
use Rattle.std.proofs.Math.Dec.{eqb, ltb}
use borrow.Author.Tests.{eqb-true, ltb-true, lt-ltb}
use Rattle.base_laws.specs.Bools.{and_left, and_right, lt_or_le}
use Rattle.base_laws.specs.Below.{any_witness, count_mono}
use Rattle.base_sum_laws.specs.Definitions.{sum_below}
use Rattle.base_sum_laws.specs.Sums.{sum_mono, sum_add, count_sum}
use Rattle.search_laws.specs.Case.{Case, Valid, meets, spread, moves}
use Rattle.search_laws.specs.Order.{HasNone}
use Rattle.search_laws.specs.Shards.{by_shard}
use Rattle.search_laws.specs.Duality.{shard_cover}
use Rattle.search_laws.specs.Ranks.{Priced}
use Rattle.search_laws.specs.Floor.{entry_of, SheetFor, entries_below, lack_at, floor_of, short_at, too_few}

module _ {K : Case} {sheet : List (List ℕ)} {z : ℕ → ℕ} (s : SheetFor K sheet) (v : Valid K z) where
  -- a set that a shard meets has an entry below 2
  enough : (i : ℕ) → i < 16 → K.need i ≤ entries_below sheet i 2
  unfolding entries_below spread meets
  enough i l = omega (arith, v.sets i l, count_mono 16 (meets K z i) (λ f. ltb (entry_of sheet i f) 2) (λ f q. low f))
    where
      low : (f : ℕ) → meets K z i f ≡ true → ltb (entry_of sheet i f) 2 ≡ true
      low f e =
          let (n, q, d) = any_witness 32 (λ n. eqb (z n) i && eqb (K.set_of n) f) e in
          let here : z n ≡ i = eqb-true (z n) i (and_left (eqb (z n) i) (eqb (K.set_of n) f) d) in
          let set : K.set_of n ≡ f = eqb-true (K.set_of n) f (and_right (eqb (z n) i) (eqb (K.set_of n) f) d) in
          let permitted : K.cost i n < 255 = subst (λ (j : ℕ). K.cost j n < 255) here (v.allowed n q (omega arith)) in
          subst (λ (g : ℕ). ltb (entry_of sheet i g) 2 ≡ true) set
          (⊎_elim (λ h. lt-ltb (entry_of sheet i (K.set_of n)) 2 h) (λ h. absurd (omega (arith, s.shut i n l q h))) (lt_or_le (entry_of sheet i (K.set_of n)) 2))

  never_short : too_few K sheet ≡ true → ⊥
  unfolding too_few short_at
  never_short h =
      let (i, l, d) = any_witness 16 (short_at K sheet) h in
      omega (arith, enough i l, ltb-true (entries_below sheet i 2) (K.need i) d)

-- where a shard needs nodes of more sets than have one for it, there is no valid placement
pub sheet_none : {K : Case} {sheet : List (List ℕ)} → SheetFor K sheet → too_few K sheet ≡ true → HasNone (Valid K)
sheet_none s h = record { none = λ y v. never_short s v h }

module _ {K : Case} {sheet : List (List ℕ)} {price : ℕ → ℕ → ℕ} {z : ℕ → ℕ} (small : (n : ℕ) → n < 32 → K.set_of n < 16) (s : SheetFor K sheet)
    (priced : (i n : ℕ) → i < 16 → n < 32 → 1 ≤ K.cost i n → K.cost i n < 255 → 1 ≤ price i n) (v : Valid K z) where
  -- the moves to shard i
  moves_of : ℕ → ℕ
  moves_of i = sum_below 32 (λ n. cond (eqb (z n) i) (price i n) 0)

  -- 1 for a set of which a node stays in shard i
  stay : ℕ → ℕ → ℕ
  stay i f = cond (ltb (entry_of sheet i f) 1) 1 0

  -- each node of shard i moves, or its set is one of which a node stays
  either_way : (i n : ℕ) → i < 16 → n < 32 → (b : Bool) → eqb (z n) i ≡ b →
      cond (eqb (z n) i) 1 0 ≤ cond (eqb (z n) i) (price i n) 0 + cond (eqb (z n) i) (stay i (K.set_of n)) 0
  unfolding stay
  either_way i n l q true e =
      let here : z n ≡ i = eqb-true (z n) i e in
      let permitted : K.cost i n < 255 = subst (λ (j : ℕ). K.cost j n < 255) here (v.allowed n q (omega arith)) in
      simp e
      (⊎_elim
      (λ h. simp (lt-ltb (entry_of sheet i (K.set_of n)) 1 h) (omega arith))
      (λ h. omega (arith, priced i n l q (s.moved i n l q h) permitted))
      (lt_or_le (entry_of sheet i (K.set_of n)) 1))
  either_way i n l q false e = simp e (omega arith)

  lack_moves : (i : ℕ) → i < 16 → lack_at K sheet i ≤ moves_of i
  unfolding lack_at moves_of stay entries_below
  lack_moves i l =
      omega (
        arith,
        v.sets i l,
        shard_cover K z i 1 (stay i) (λ n q e. small n q) (λ f q. one (ltb (entry_of sheet i f) 1)),
        count_sum 16 (λ f. ltb (entry_of sheet i f) 1),
        count_sum 32 (λ n. eqb (z n) i),
        sum_add 32 (λ n. cond (eqb (z n) i) (price i n) 0) (λ n. cond (eqb (z n) i) (stay i (K.set_of n)) 0),
        sum_mono 32 (λ n. cond (eqb (z n) i) 1 0) (λ n. cond (eqb (z n) i) (price i n) 0 + cond (eqb (z n) i) (stay i (K.set_of n)) 0)
            (λ n q. either_way i n l q (eqb (z n) i) refl),
      )
    where
      one : (b : Bool) → ◌≤◌ (cond b 1 0) 1
      one true = omega arith
      one false = omega arith

  -- no valid placement has fewer moves than the sheet's floor
  pub sheet_floor : floor_of K sheet ≤ moves price z
  unfolding floor_of moves moves_of
  sheet_floor = omega (arith, by_shard z price, sum_mono 16 (lack_at K sheet) moves_of lack_moves)

-- the same for a case whose costs are the prices times w
pub priced_floor : {K : Case} {sheet : List (List ℕ)} {w : ℕ} {price : ℕ → ℕ → ℕ} → ((n : ℕ) → n < 32 → K.set_of n < 16) → SheetFor K sheet →
    Priced K w price → (z : ℕ → ℕ) → Valid K z → floor_of K sheet ≤ moves price z
priced_floor {K} {sheet} {w} {price} small s p z v = sheet_floor small s (λ i n l q h g. at (price i n) (p.cost i n l q g) h) v
  where
    at : (a : ℕ) {c : ℕ} → c ≡ a * w → 1 ≤ c → 1 ≤ a
    at zero e h = absurd (omega arith)
    at (suc a) e h = omega arith
