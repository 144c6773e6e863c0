-- A valid placement has within it one of exactly the need of each shard, each node of another set, at no more moves. So there is a
-- valid placement exactly where there is an exact one, and the least moves are the same.
use Rattle.std.specs.Prelude.{◌≡◌, not, ◌&&◌, ltb}
use Rattle.std.proofs.Math.Path.{refl, sym, ap, subst}
use Rattle.std.proofs.Common.{◌∙◌}
use Rattle.std.proofs.Math.Bool.{Bool, true, false, cond}
use Rattle.std.proofs.Math.Logic.{⊎_elim}
use Prim.Native.Nat.{ℕ, zero, suc, ◌+◌, ◌≤◌, ◌<◌, min}
use native.Mathlib.Omega.{arith}
use Rattle.std.proofs.Math.Dec.{eqb}
use borrow.Author.Tests.{eqb-true, eq-eqb, ltb-true, ltb-false, lt-ltb, le-ltb}
use Rattle.base_laws.specs.Bools.{clash, no_true, and_both, and_left, and_right, of_not_true, not_of_false, lt_or_le}
use Rattle.base_laws.specs.Definitions.{count_below, any_below, lowest}
use Rattle.base_laws.specs.Below.{any_at, any_none_of, any_fails, lowest-holds, lowest_below, lowest_first, count_pos, count_none}
use Rattle.base_sum_laws.specs.Sums.{sum_cong, sum_mono, count_sum, count_once}
use Rattle.search_laws.specs.Case.{Case, Valid, has_owner, size, meets, spread, moves}
use Rattle.search_laws.specs.Shards.{size_in, size_by_set}

-- each placed node is allowed, each shard has exactly its need, and no two nodes of a shard are of one failure set
pub record Exact (K : Case) (z : ℕ → ℕ) : Type 0 where
  pub allowed : (n : ℕ) → n < 32 → z n < 16 → K.cost (z n) n < 255
  pub sized : (i : ℕ) → i < 16 → size z i ≡ K.need i
  pub apart : (n m : ℕ) → n < 32 → m < 32 → z n < 16 → z n ≡ z m → K.set_of n ≡ K.set_of m → n ≡ m

-- node n is kept: no lower node of its shard is of its set, and its set is among the first that the shard needs
unfoldable pub kept_there : Case → (ℕ → ℕ) → ℕ → Bool
kept_there K z n =
    not (any_below n (λ m. eqb (z m) (z n) && eqb (K.set_of m) (K.set_of n))) && ltb (count_below (K.set_of n) (meets K z (z n))) (K.need (z n))

-- the nodes that are kept where they are, and no other
unfoldable pub kept_only : Case → (ℕ → ℕ) → ℕ → ℕ
kept_only K z n = cond (has_owner z n && kept_there K z n) (z n) 16

-- the first k numbers of which f holds
first_few : (n k : ℕ) (f : ℕ → Bool) → count_below n (λ j. f j && ltb (count_below j f) k) ≡ min k (count_below n f)
unfolding count_below
first_few zero k f = omega arith
first_few (suc n) k f = go (first_few n k f) (f n) (ltb (count_below n f) k) refl
  where
    go : count_below n (λ j. f j && ltb (count_below j f) k) ≡ min k (count_below n f) → (a b : Bool) → ltb (count_below n f) k ≡ b →
        count_below n (λ j. f j && ltb (count_below j f) k) + cond (a && b) 1 0 ≡ min k (count_below n f + cond a 1 0)
    go h true true e = omega (arith, ltb-true (count_below n f) k e)
    go h true false e = omega (arith, ltb-false (count_below n f) k e)
    go h false b e = omega arith

module _ (K : Case) (z : ℕ → ℕ) where
  narrow_is : (n : ℕ) → kept_only K z n < 16 → (has_owner z n && kept_there K z n) ≡ true
  unfolding kept_only
  narrow_is n l = go (has_owner z n && kept_there K z n) refl
    where
      go : (b : Bool) → (has_owner z n && kept_there K z n) ≡ b → (has_owner z n && kept_there K z n) ≡ true
      go true e = e
      go false e = absurd (omega (arith, ap (λ (b : Bool). cond b (z n) 16) e))

  narrow_of : (n : ℕ) → (has_owner z n && kept_there K z n) ≡ true → kept_only K z n ≡ z n
  unfolding kept_only
  narrow_of n e = ap (λ (b : Bool). cond b (z n) 16) e

  narrow_same : (n : ℕ) → kept_only K z n < 16 → kept_only K z n ≡ z n
  narrow_same n l = narrow_of n (narrow_is n l)

  -- at no more moves, whatever the prices
  pub narrow_moves : (price : ℕ → ℕ → ℕ) → moves price (kept_only K z) ≤ moves price z
  unfolding moves
  narrow_moves price = sum_mono 32 (λ n. cond (has_owner (kept_only K z) n) (price (kept_only K z n) n) 0) (λ n. cond (has_owner z n) (price (z n) n) 0) (λ n l. at n)
    where
      at : (n : ℕ) → cond (has_owner (kept_only K z) n) (price (kept_only K z n) n) 0 ≤ cond (has_owner z n) (price (z n) n) 0
      at n =
          ⊎_elim
          (λ h. subst (λ (i : ℕ). cond (ltb i 16) (price i n) 0 ≤ cond (has_owner z n) (price (z n) n) 0) (sym (narrow_same n h)) (omega arith))
          (λ h. simp (le-ltb (kept_only K z n) 16 h) (omega arith))
          (lt_or_le (kept_only K z n) 16)

  module _ (small : (n : ℕ) → n < 32 → K.set_of n < 16) where
    -- set f is among the first that shard i meets and needs
    among : ℕ → ℕ → Bool
    among i f = meets K z i f && ltb (count_below f (meets K z i)) (K.need i)

    -- a node that is kept has no lower one of its shard and set
    alone : (n m : ℕ) → kept_only K z n < 16 → m < n → z m ≡ z n → K.set_of m ≡ K.set_of n → ⊥
    unfolding kept_there
    alone n m l h e d =
        let k : kept_there K z n ≡ true = and_right (has_owner z n) (kept_there K z n) (narrow_is n l) in
        let none : any_below n (λ j. eqb (z j) (z n) && eqb (K.set_of j) (K.set_of n)) ≡ false = of_not_true (any_below n (λ j. eqb (z j) (z n) && eqb (K.set_of j) (K.set_of n)))
        (and_left (not (any_below n (λ j. eqb (z j) (z n) && eqb (K.set_of j) (K.set_of n)))) (ltb (count_below (K.set_of n) (meets K z (z n))) (K.need (z n))) k) in
        clash (and_both (eq-eqb (z m) (z n) e) (eq-eqb (K.set_of m) (K.set_of n) d)) (any_fails n (λ j. eqb (z j) (z n) && eqb (K.set_of j) (K.set_of n)) none m h)

    pub apart : (n m : ℕ) → n < 32 → m < 32 → kept_only K z n < 16 → kept_only K z n ≡ kept_only K z m → K.set_of n ≡ K.set_of m → n ≡ m
    apart n m l q p e d =
        let a : kept_only K z n ≡ z n = narrow_same n p in
        let b : kept_only K z m ≡ z m = narrow_same m (omega arith) in
        ⊎_elim (λ h. absurd (alone m n (omega arith) h (sym a ∙ (e ∙ b)) d))
        (λ h. ⊎_elim (λ g. absurd (alone n m p g (sym b ∙ (sym e ∙ a)) (sym d))) (λ g. omega arith) (lt_or_le m n)) (lt_or_le n m)

    -- shard i keeps one node of each set among the first that it needs, and none of another
    keeps_one : (i f : ℕ) → i < 16 → size_in K (kept_only K z) i f ≡ cond (among i f) 1 0
    unfolding among kept_there meets size_in
    keeps_one i f p = go (among i f) refl
      where
        test : ℕ → Bool
        test n = eqb (kept_only K z n) i && eqb (K.set_of n) f

        here : (n : ℕ) → test n ≡ true → kept_only K z n ≡ i
        here n e = eqb-true (kept_only K z n) i (and_left (eqb (kept_only K z n) i) (eqb (K.set_of n) f) e)

        set : (n : ℕ) → test n ≡ true → K.set_of n ≡ f
        set n e = eqb-true (K.set_of n) f (and_right (eqb (kept_only K z n) i) (eqb (K.set_of n) f) e)

        once : count_below 32 test ≤ 1
        once = count_once 32 test (λ j k a b c d. apart j k a b (omega (arith, here j c)) (here j c ∙ sym (here k d)) (set j c ∙ sym (set k d)))

        some : among i f ≡ true → 1 ≤ count_below 32 test
        some e =
            let was : ℕ → Bool = λ m. eqb (z m) i && eqb (K.set_of m) f in
            let any : any_below 32 was ≡ true = and_left (meets K z i f) (ltb (count_below f (meets K z i)) (K.need i)) e in
            let n : ℕ = lowest 32 was in
            let at : was n ≡ true = lowest-holds 32 was any in
            let there : z n ≡ i = eqb-true (z n) i (and_left (eqb (z n) i) (eqb (K.set_of n) f) at) in
            let with-set : K.set_of n ≡ f = eqb-true (K.set_of n) f (and_right (eqb (z n) i) (eqb (K.set_of n) f) at) in
            let lone : any_below n (λ m. eqb (z m) (z n) && eqb (K.set_of m) (K.set_of n)) ≡ false
            = any_none_of n (λ m. eqb (z m) (z n) && eqb (K.set_of m) (K.set_of n)) (λ m h. subst (λ (j : ℕ). (eqb (z m) j && eqb (K.set_of m) (K.set_of n)) ≡ false) (sym there)
            (subst (λ (j : ℕ). (eqb (z m) i && eqb (K.set_of m) j) ≡ false) (sym with-set) (lowest_first 32 was m h))) in
            let rank : ltb (count_below (K.set_of n) (meets K z (z n))) (K.need (z n)) ≡ true
            = subst (λ (j : ℕ). ltb (count_below (K.set_of n) (meets K z j)) (K.need j) ≡ true) (sym there)
            (subst (λ (j : ℕ). ltb (count_below j (meets K z i)) (K.need i) ≡ true) (sym with-set) (and_right (meets K z i f) (ltb (count_below f (meets K z i)) (K.need i)) e)) in
            let own : kept_only K z n ≡ i = narrow_of n (and_both (lt-ltb (z n) 16 (omega arith)) (and_both (not_of_false lone) rank)) ∙ there in
            count_pos 32 test n (lowest_below 32 was any) (and_both (eq-eqb (kept_only K z n) i own) (eq-eqb (K.set_of n) f with-set))

        none : among i f ≡ false → count_below 32 test ≡ 0
        none e = count_none 32 test (any_none_of 32 test (λ n q. no_true (test n) (λ c. clash (has n q c) e)))
          where
            has : (n : ℕ) → n < 32 → test n ≡ true → among i f ≡ true
            has n q c =
                let l : kept_only K z n < 16 = omega (arith, here n c) in
                let there : z n ≡ i = sym (narrow_same n l) ∙ here n c in
                let k : kept_there K z n ≡ true = and_right (has_owner z n) (kept_there K z n) (narrow_is n l) in
                let rank : ltb (count_below (K.set_of n) (meets K z (z n))) (K.need (z n)) ≡ true
                = and_right (not (any_below n (λ m. eqb (z m) (z n) && eqb (K.set_of m) (K.set_of n)))) (ltb (count_below (K.set_of n) (meets K z (z n))) (K.need (z n))) k in
                and_both (any_at 32 (λ m. eqb (z m) i && eqb (K.set_of m) f) n q (and_both (eq-eqb (z n) i there) (eq-eqb (K.set_of n) f (set n c))))
                (subst (λ (j : ℕ). ltb (count_below j (meets K z i)) (K.need i) ≡ true) (set n c)
                (subst (λ (j : ℕ). ltb (count_below (K.set_of n) (meets K z j)) (K.need j) ≡ true) there rank))

        go : (b : Bool) → among i f ≡ b → count_below 32 test ≡ cond (among i f) 1 0
        go true e = simp e (omega (arith, once, some e))
        go false e = simp e (none e)

    narrow_size : (i : ℕ) → i < 16 → size (kept_only K z) i ≡ min (K.need i) (spread K z i)
    unfolding among spread
    narrow_size i p =
        omega (
          arith,
          first_few 16 (K.need i) (meets K z i),
          count_sum 16 (among i),
          size_by_set K (kept_only K z) i (λ n l e. small n l),
          sum_cong 16 (size_in K (kept_only K z) i) (λ f. cond (among i f) 1 0) (λ f l. keeps_one i f p),
        )

    pub narrow : Valid K z → Exact K (kept_only K z)
    narrow v =
        record {
          allowed = λ n l p. subst (λ (i : ℕ). K.cost i n < 255) (sym (narrow_same n p)) (v.allowed n l (omega (arith, narrow_same n p)));
          sized = λ i p. omega (arith, narrow_size i p, v.sets i p);
          apart = apart;
        }
