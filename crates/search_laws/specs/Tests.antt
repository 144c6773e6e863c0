-- Validity by tests that a program can make, and what the owners given so far rule out.
use Rattle.std.specs.Prelude.{◌≡◌, refl, Bool, true, false, ◌&&◌, ℕ, ◌+◌, ◌*◌, ◌≤◌, ◌<◌, ltb, leb}
use Rattle.std.proofs.Common.{sym, ◌∙◌, subst, arith}
use Rattle.std.proofs.Math.Path.{ap}
use Rattle.std.proofs.Math.Bool.{cond}
use Rattle.std.proofs.Math.Logic.{⊎_elim}
use Rattle.std.proofs.Math.Dec.{eqb}
use borrow.Author.Tests.{eqb-true, eq-eqb, ltb-true, lt-ltb, le-ltb, leb-true, le-leb, lt-leb}
use Rattle.base_laws.specs.Bools.{clash, same, lt_or_le, and_left, and_right, and_both}
use Rattle.base_laws.specs.Definitions.{all_below}
use Rattle.base_laws.specs.Below.{all_at, all_of, count_cong, any_cong}
use Rattle.base_sum_laws.specs.Sums.{sum_mono, sum_cong}
use Rattle.search_laws.specs.Case.{Case, Valid, WeighsWithin, has_owner, size, meets, spread, moves, weight}
use Rattle.search_laws.specs.Order.{takes_at, Agree, From, Begun, HasNone, Same}
use Rattle.search_laws.specs.Cut.{keeps}

-- node n is placed nowhere, or where it is allowed
abbrev pub stands : Case → (ℕ → ℕ) → ℕ → Bool
stands K z n = cond (has_owner z n) (ltb (K.cost (z n) n) 255) true

-- shard i has no more nodes than its cap, and no fewer sets than its need
abbrev pub needs_met : Case → (ℕ → ℕ) → ℕ → Bool
needs_met K z i = leb (size z i) (K.cap i) && leb (K.need i) (spread K z i)

pub valid_of : {K : Case} {z : ℕ → ℕ} → all_below 32 (stands K z) ≡ true → all_below 16 (needs_met K z) ≡ true → Valid K z
valid_of {K} {z} s f =
    record {
      allowed = λ n q p. ltb-true (K.cost (z n) n) 255 (taken (has_owner z n) (ltb (K.cost (z n) n) 255) (lt-ltb (z n) 16 p) (all_at 32 (stands K z) s n q));
      most = λ i q. leb-true (size z i) (K.cap i) (and_left (leb (size z i) (K.cap i)) (leb (K.need i) (spread K z i)) (all_at 16 (needs_met K z) f i q));
      sets = λ i q. leb-true (K.need i) (spread K z i) (and_right (leb (size z i) (K.cap i)) (leb (K.need i) (spread K z i)) (all_at 16 (needs_met K z) f i q));
    }
  where
    taken : (a b : Bool) → a ≡ true → cond a b true ≡ true → b ≡ true
    taken true b p h = h
    taken false b p h = clash p refl

pub valid_stands : {K : Case} {z : ℕ → ℕ} → Valid K z → all_below 32 (stands K z) ≡ true
valid_stands {K} {z} v = all_of 32 (stands K z) (λ n l. ⊎_elim (λ h. simp (lt-ltb (z n) 16 h, lt-ltb (K.cost (z n) n) 255 (v.allowed n l h))) (λ h. simp (le-ltb (z n) 16 h)) (lt_or_le (z n) 16))

pub valid_met : {K : Case} {z : ℕ → ℕ} → Valid K z → all_below 16 (needs_met K z) ≡ true
valid_met {K} {z} v = all_of 16 (needs_met K z) (λ i l. and_both (le-leb (size z i) (K.cap i) (v.most i l)) (le-leb (K.need i) (spread K z i) (v.sets i l)))

-- ---- owners that place the same nodes in the same shards

module _ {y o : ℕ → ℕ} (s : Same y o) where
  same_at : (i n : ℕ) → i < 16 → n < 32 → eqb (y n) i ≡ eqb (o n) i
  same_at i n l q =
      same (eqb (y n) i) (eqb (o n) i) (λ e. eq-eqb (o n) i (omega (arith, s.owner n q, eqb-true (y n) i e)))
      (λ e. eq-eqb (y n) i (omega (arith, s.owner n q, eqb-true (o n) i e)))

  pub size_same : (i : ℕ) → i < 16 → size y i ≡ size o i
  size_same i l = count_cong 32 (λ n. eqb (y n) i) (λ n. eqb (o n) i) (λ n q. same_at i n l q)

  pub spread_same : (K : Case) (i : ℕ) → i < 16 → spread K y i ≡ spread K o i
  unfolding spread meets
  spread_same K i l =
      count_cong 16 (meets K y i) (meets K o i)
      (λ f p. any_cong 32 (λ n. eqb (y n) i && eqb (K.set_of n) f) (λ n. eqb (o n) i && eqb (K.set_of n) f) (λ n q. ap (λ (b : Bool). b && eqb (K.set_of n) f) (same_at i n l q)))

  pub valid_same : {K : Case} → Valid K y → Valid K o
  valid_same {K} v =
      record {
        allowed = λ n l q. let e : y n ≡ o n = omega (arith, s.owner n l) in subst (λ (i : ℕ). K.cost i n < 255) e (v.allowed n l (omega arith));
        most = λ i l. omega (arith, v.most i l, size_same i l);
        sets = λ i l. omega (arith, v.sets i l, spread_same K i l);
      }

  pub weight_same : (K : Case) → weight K y ≡ weight K o
  unfolding weight
  weight_same K =
      sum_cong 32 (λ n. cond (has_owner y n) (K.cost (y n) n) K.idle) (λ n. cond (has_owner o n) (K.cost (o n) n) K.idle)
      (λ n l. ⊎_elim
      (λ q. let e : y n ≡ o n = omega (arith, s.owner n l) in ap (λ (i : ℕ). cond (ltb i 16) (K.cost i n) K.idle) e)
      (λ q. simp (le-ltb (y n) 16 q, le-ltb (o n) 16 (omega (arith, s.owner n l))))
      (lt_or_le (y n) 16))

-- a shard whose pairs are all decided
decided_at : {o y : ℕ → ℕ} {t : ℕ} → Agree y o t → (i n : ℕ) → i * 32 + 32 ≤ t → n < 32 → eqb (y n) i ≡ eqb (o n) i
decided_at {o} {y} a i n l q = sym (takes_at y n i q) ∙ (a.same (i * 32 + n) (omega arith) ∙ takes_at o n i q)

pub decided_spread : {K : Case} {o y : ℕ → ℕ} {t : ℕ} → Agree y o t → Valid K y → (i : ℕ) → i < 16 → i * 32 + 32 ≤ t → K.need i ≤ spread K o i
unfolding spread meets
decided_spread {K} {o} {y} a v i l q =
    omega (
      arith,
      v.sets i l,
      count_cong 16 (meets K y i) (meets K o i)
          (λ f p. any_cong 32 (λ n. eqb (y n) i && eqb (K.set_of n) f) (λ n. eqb (o n) i && eqb (K.set_of n) f) (λ n r. ap (λ (c : Bool). c && eqb (K.set_of n) f) (decided_at a i n q r))),
    )

pub none_dear : {K : Case} {k : ℕ} {o : ℕ → ℕ} {t : ℕ} → Begun o t → k < moves K.cost o → HasNone (From (WeighsWithin K k) o t)
unfolding weight moves
none_dear {K} {k} {o} {t} b h =
    record { none = λ y f. omega (arith, f.has.cheap, sum_mono 32 (λ n. cond (has_owner o n) (K.cost (o n) n) 0) (λ n. cond (has_owner y n) (K.cost (y n) n) K.idle) (λ n l. at y f n l)) }
  where
    at : (y : ℕ → ℕ) → From (WeighsWithin K k) o t y → (n : ℕ) → n < 32 → cond (has_owner o n) (K.cost (o n) n) 0 ≤ cond (has_owner y n) (K.cost (y n) n) K.idle
    at y f n l =
        ⊎_elim
        (λ p. subst (λ (i : ℕ). cond (has_owner o n) (K.cost (o n) n) 0 ≤ cond (ltb i 16) (K.cost i n) K.idle) (sym (keeps b f.agree n l p)) (simp (lt-ltb (o n) 16 p) (omega arith)))
        (λ p. simp (le-ltb (o n) 16 p) (omega arith))
        (lt_or_le (o n) 16)

-- both tests of a shard, by the numbers that a program has
pub met_yes : {a a' b b' x x' y y' : ℕ} → a ≡ a' → b ≡ b' → x ≡ x' → y ≡ y' → a ≤ b → leb x y ≡ (leb a' b' && leb x' y')
met_yes {a} {a'} {b} {b'} {x} {x'} {y} {y'} p q r s h =
    ap (λ (u : ℕ). leb u y) r ∙ (ap (λ (u : ℕ). leb x' u) s ∙ sym (ap (λ (c : Bool). c && leb x' y') (le-leb a' b' (omega arith))))

pub met_no : {a a' b b' : ℕ} (x y : ℕ) → a ≡ a' → b ≡ b' → b < a → false ≡ (leb a' b' && leb x y)
met_no {a} {a'} {b} {b'} x y p q h = sym (ap (λ (c : Bool). c && leb x y) (lt-leb a' b' (omega arith)))
