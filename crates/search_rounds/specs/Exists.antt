-- Of the valid placements within a weight there is a first, or there is none: as a search finds it, pair by pair. So rounds can be made until
-- none is lighter, and the end is the first of least weight.
use Rattle.std.specs.Prelude.{◌≡◌, refl, Bool, ◌&&◌, ◌⊎◌, ℕ, zero, suc, ◌+◌, ◌-◌, ◌/◌, ◌%◌, ◌≤◌, ◌<◌, eqb, leb}
use Rattle.std.proofs.Math.Path.{ap}
use Rattle.std.proofs.Common.{subst, arith}
use Rattle.std.proofs.Math.Bool.{true, cond}
use Rattle.std.proofs.Math.Logic.{inl, inr, ⊎_elim}
use borrow.Author.Tests.{eq-eqb, ne_eqb, leb-true, le-leb}
use Rattle.base_laws.specs.Bools.{either, clash, and_both, and_left, and_right, lt_or_le}
use Rattle.base_laws.specs.Definitions.{all_below}
use Rattle.search_laws.specs.Case.{Case, WeighsWithin, weight}
use Rattle.search_laws.specs.Order.{takes, shard_end, First, HasNone, From, Begun, TakesPair, begun_leave, first_leave, none_leave, begun_close, first_close, begun_take, first_take, none_take, first_end, none_end, first_start, none_start, begun_start}
use Rattle.search_laws.specs.Tests.{stands, needs_met, valid_of, valid_stands, valid_met}
use Rattle.search_laws.proofs.Tests.{within_same, owned}
use Rattle.search_rounds.specs.Post.{Fewer, within_fewer, within_none, Steps, start, more}

module _ (K : Case) (k : ℕ) where
  -- whether owners are valid and within the weight
  within : (ℕ → ℕ) → Bool
  within o = (all_below 32 (stands K o) && all_below 16 (needs_met K o)) && leb (weight K o) k

  judged : (o : ℕ → ℕ) → WeighsWithin K k o ⊎ (WeighsWithin K k o → ⊥)
  unfolding within
  judged o =
      ⊎_elim
      (λ e.
      let v : (all_below 32 (stands K o) && all_below 16 (needs_met K o)) ≡ true = and_left (all_below 32 (stands K o) && all_below 16 (needs_met K o)) (leb (weight K o) k) e in
      inl (record {
        valid = valid_of (and_left (all_below 32 (stands K o)) (all_below 16 (needs_met K o)) v) (and_right (all_below 32 (stands K o)) (all_below 16 (needs_met K o)) v);
        cheap = leb-true (weight K o) k (and_right (all_below 32 (stands K o) && all_below 16 (needs_met K o)) (leb (weight K o) k) e);
      }))
      (λ e. inr (λ w. clash (and_both (and_both (valid_stands w.valid) (valid_met w.valid)) (le-leb (weight K o) k w.cheap)) e))
      (either (within o))

  -- from the owners o before pair t there is a first, or none
  abbrev FoundFrom : (ℕ → ℕ) → ℕ → Type 0
  FoundFrom o t = ((z : ℕ → ℕ) × First (From (WeighsWithin K k) o t) z) ⊎ HasNone (From (WeighsWithin K k) o t)

  at_end : (o : ℕ → ℕ) (t : ℕ) → 512 ≡ t → FoundFrom o t
  at_end o t e =
      subst (FoundFrom o) e (⊎_elim (λ w. inl (o, first_end w)) (λ n. inr (none_end (λ y s w. within_same o y s w) n)) (judged o))

  module _ (o : ℕ → ℕ) (t : ℕ) (l : t < 512) (b : Begun o t) where
    -- o with pair t taken
    with_pair : ℕ → ℕ
    with_pair j = cond (eqb j (t % 32)) (t / 32) (o j)

    takes_pair_t : TakesPair o t with_pair
    unfolding with_pair
    takes_pair_t =
        record {
          there = ap (λ (c : Bool). cond c (t / 32) (o (t % 32))) (eq-eqb (t % 32) (t % 32) refl);
          else = λ j q d. ap (λ (c : Bool). cond c (t / 32) (o j)) (ne_eqb j (t % 32) d);
        }

    -- the three ways on
    step : FoundFrom o (shard_end t) → FoundFrom o (t + 1) → (16 ≤ o (t % 32) → FoundFrom with_pair (t + 1)) → FoundFrom o t
    step (inl (z, f)) on pair = inl (z, first_close l b f)
    step (inr n) on pair =
        ⊎_elim (λ h. leave on (λ y g e. owned l b g.agree g.has.valid e h))
        (λ h. ⊎_elim (λ x. inl (x.0, first_take l b h takes_pair_t n x.1)) (λ q. leave on (none_take l b h takes_pair_t q)) (pair h))
        (lt_or_le (o (t % 32)) 16)
      where
        leave : FoundFrom o (t + 1) → ((y : ℕ → ℕ) → From (WeighsWithin K k) o t y → takes y t ≡ true → ⊥) → FoundFrom o t
        leave (inl (z, f)) not = inl (z, first_leave l b not f)
        leave (inr q) not = inr (none_leave l b not q)

  seek : (fuel : ℕ) (o : ℕ → ℕ) (t : ℕ) → t ≤ 512 → 512 ≤ t + fuel → Begun o t → FoundFrom o t
  seek zero o t u f b = at_end o t (omega arith)
  seek (suc m) o t u f b =
      ⊎_elim
      (λ l.
      step o t l b (seek m o (shard_end t) (omega arith) (omega arith) (begun_close l b)) (seek m o (t + 1) (omega arith) (omega arith) (begun_leave l b))
      (λ h. seek m (with_pair o t l b) (t + 1) (omega arith) (omega arith) (begun_take l b h (takes_pair_t o t l b))))
      (λ l. at_end o t (omega arith)) (lt_or_le t 512)

  pub first_or_none : ((z : ℕ → ℕ) × First (WeighsWithin K k) z) ⊎ HasNone (WeighsWithin K k)
  first_or_none =
      ⊎_elim (λ x. inl (x.0, first_start x.1)) (λ n. inr (none_start n))
      (seek 512 (λ n. 16) 0 (omega arith) (omega arith) (begun_start (λ n l. omega arith)))

-- the end of all rounds from y: first within its weight, and none is lighter; at most c of n are used
pub record AllRounds (K : Case) (n c : ℕ) (y : ℕ → ℕ) : Type 0 where
  pub end : ℕ → ℕ
  pub left : ℕ
  pub steps : Steps K n y left end
  pub used : n ≤ left + c
  pub first : First (WeighsWithin K (weight K end)) end
  pub none : HasNone (Fewer K end)

-- what is first within a weight is first within its own
pub first_own : {K : Case} {k : ℕ} {z : ℕ → ℕ} → First (WeighsWithin K k) z → First (WeighsWithin K (weight K z)) z
first_own f =
    record {
      is = record { valid = f.is.valid; cheap = omega arith };
      first = λ y w. f.first y (record { valid = w.valid; cheap = omega (arith, w.cheap, f.is.cheap) });
    }

-- as many rounds as the weight are enough
all_rounds : {K : Case} (fuel d : ℕ) {n m c : ℕ} {y z : ℕ → ℕ} → weight K z ≤ fuel → fuel ≤ m → n ≤ m + d → d + fuel ≤ c → Steps K n y m z
    → First (WeighsWithin K (weight K z)) z → AllRounds K n c y
all_rounds zero d {m = m} {z = z} w l u v s f =
    record { end = z; left = m; steps = s; used = omega arith; first = f; none = record { none = λ x g. omega (arith, g.less) } }
all_rounds {K} (suc fuel) d {n} {m} {c} {y} {z} w l u v s f =
    ⊎_elim
    (λ e. record { end = z; left = m; steps = s; used = omega arith; first = f; none = record { none = λ x g. omega (arith, g.less) } })
    (λ e.
    ⊎_elim
    (λ x. all_rounds fuel (d + 1) {m = m - 1} {z = x.0} (omega (arith, x.1.is.cheap)) (omega arith) (omega arith) (omega arith)
    (more (subst (λ (j : ℕ). Steps K n y j z) back s) (within_fewer e x.1)) (first_own x.1))
    (λ n. record { end = z; left = m; steps = s; used = omega arith; first = f; none = within_none n })
    (first_or_none K (weight K z - 1)))
    (lt_or_le (weight K z) 1)
  where
    back : m ≡ m - 1 + 1
    back = omega arith

pub rounds_to_the_end : {K : Case} {n c : ℕ} {y : ℕ → ℕ} → weight K y ≤ c → c ≤ n → First (WeighsWithin K (weight K y)) y → AllRounds K n c y
rounds_to_the_end {n = n} {c = c} h l f = all_rounds c 0 {m = n} h l (omega arith) (omega arith) start f
