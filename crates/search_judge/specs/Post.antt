-- What the tests promise: whether a placement is valid within a weight, whether a pair is barred, and whether owners leave any hope.
use Rattle.std.specs.Prelude.{◌≡◌, Bool, true, false, ◌||◌, ℕ, ◌/◌, ◌%◌, ◌≤◌, ◌<◌, ltb}
use Rattle.std.proofs.Math.Path.{sym}
use Rattle.std.proofs.Common.{◌∙◌, true≢false, arith, le-leb, leb-true, lt-ltb, le-ltb, ltb-true}
use Rattle.std.proofs.lemmas.Bool.{false≢true, lt-leb}
use Rattle.std.proofs.Math.Logic.{⊎_elim}
use Rattle.std.proofs.Math.Dec.{leb}
use Rattle.base_laws.specs.Bools.{lt_or_le, or-holds, or_left, or_right, or_neither}
use Rattle.base_laws.specs.Definitions.{any_below}
use Rattle.base_laws.specs.Below.{any_witness}
use Rattle.search_laws.specs.Case.{Case, Valid, WeighsWithin, size, spread, moves}
use Rattle.search_laws.specs.Order.{takes, Agree, Begun, From, HasNone}
use Rattle.search_laws.specs.Tests.{none_dear}
use Rattle.search_laws.proofs.Tests.{none_thin, owned, dearest, full}

-- r tells whether z is valid with a weight of at most k
pub record WeightJudged (K : Case) (k : ℕ) (z : ℕ → ℕ) (r : Bool) : Type 0 where
  pub yes : r ≡ true → WeighsWithin K k z
  pub no : r ≡ false → WeighsWithin K k z → ⊥

-- pair t's node has an owner or is not allowed in its shard, or the shard is full
unfoldable pub is_barred : Case → (ℕ → ℕ) → ℕ → Bool
is_barred K o t = ltb (o (t % 32)) 16 || (leb 255 (K.cost (t / 32) (t % 32)) || leb (K.cap (t / 32)) (size o (t / 32)))

-- the placed nodes cost more than k, or a shard before pair t has nodes of fewer sets than it needs
unfoldable pub hopeless_from : Case → ℕ → (ℕ → ℕ) → ℕ → Bool
hopeless_from K k o t = ltb k (moves K.cost o) || any_below (t / 32) (λ i. ltb (spread K o i) (K.need i))

-- then no valid placement of a weight of at most k agrees with the owners
pub hopeless_none : {K : Case} {k : ℕ} {o : ℕ → ℕ} {t : ℕ} → t ≤ 512 → Begun o t → hopeless_from K k o t ≡ true → HasNone (From (WeighsWithin K k) o t)
unfolding hopeless_from
hopeless_none {K} {k} {o} {t} l b h =
    ⊎_elim (λ e. none_dear b (ltb-true k (moves K.cost o) e))
    (λ e.
    let (i, q, d) = any_witness (t / 32) (λ i. ltb (spread K o i) (K.need i)) e in
    none_thin i (omega arith) (omega arith) (ltb-true (spread K o i) (K.need i) d))
    (or-holds (ltb k (moves K.cost o)) (any_below (t / 32) (λ i. ltb (spread K o i) (K.need i))) h)

pub judged : {K : Case} {k : ℕ} {z : ℕ → ℕ} → WeighsWithin K k z → WeightJudged K k z true
judged w = record { yes = λ e. w; no = λ e. absurd (true≢false e) }

pub rejected : {K : Case} {k : ℕ} {z : ℕ → ℕ} → (WeighsWithin K k z → ⊥) → WeightJudged K k z false
rejected w = record { yes = λ e. absurd (false≢true e); no = λ e. w }

-- whether a pair is barred, test by test
module _ (K : Case) (o : ℕ → ℕ) (t : ℕ) where
  pub barred_owned : o (t % 32) < 16 → true ≡ is_barred K o t
  unfolding is_barred
  barred_owned h = sym (or_left (leb 255 (K.cost (t / 32) (t % 32)) || leb (K.cap (t / 32)) (size o (t / 32))) (lt-ltb (o (t % 32)) 16 h))

  pub barred_dear : 255 ≤ K.cost (t / 32) (t % 32) → true ≡ is_barred K o t
  unfolding is_barred
  barred_dear h = sym (or_right (ltb (o (t % 32)) 16) (or_left (leb (K.cap (t / 32)) (size o (t / 32))) (le-leb 255 (K.cost (t / 32) (t % 32)) h)))

  pub barred_full : K.cap (t / 32) ≤ size o (t / 32) → true ≡ is_barred K o t
  unfolding is_barred
  barred_full h =
      sym (or_right (ltb (o (t % 32)) 16) (or_right (leb 255 (K.cost (t / 32) (t % 32))) (le-leb (K.cap (t / 32)) (size o (t / 32)) h)))

  pub unbarred : 16 ≤ o (t % 32) → K.cost (t / 32) (t % 32) < 255 → size o (t / 32) < K.cap (t / 32) → false ≡ is_barred K o t
  unfolding is_barred
  unbarred f c s =
      sym (or_neither (le-ltb (o (t % 32)) 16 f) (or_neither (lt-leb 255 (K.cost (t / 32) (t % 32)) c) (lt-leb (K.cap (t / 32)) (size o (t / 32)) s)))

  -- no valid placement that agrees with the owners takes a pair that is barred
  pub barred_never : {b : Bool} → b ≡ is_barred K o t → b ≡ true → t < 512 → Begun o t → (y : ℕ → ℕ) → Valid K y → Agree y o t → takes y t ≡ true → ⊥
  unfolding is_barred
  barred_never e h l n y v a k =
      ⊎_elim (λ p. owned l n a v k (ltb-true (o (t % 32)) 16 p))
      (λ p.
      ⊎_elim (λ q. dearest l n a v k (leb-true 255 (K.cost (t / 32) (t % 32)) q))
      (λ q. ⊎_elim (λ f. owned l n a v k f) (λ f. full l n a v k f (leb-true (K.cap (t / 32)) (size o (t / 32)) q)) (lt_or_le (o (t % 32)) 16))
      (or-holds (leb 255 (K.cost (t / 32) (t % 32))) (leb (K.cap (t / 32)) (size o (t / 32))) p))
      (or-holds (ltb (o (t % 32)) 16) (leb 255 (K.cost (t / 32) (t % 32)) || leb (K.cap (t / 32)) (size o (t / 32))) (sym e ∙ h))

  -- and the node of one that is not barred is free
  pub unbarred_free : {b : Bool} → b ≡ is_barred K o t → b ≡ false → 16 ≤ o (t % 32)
  unbarred_free e h = ⊎_elim (λ l. absurd (true≢false (barred_owned l ∙ (sym e ∙ h)))) (λ l. l) (lt_or_le (o (t % 32)) 16)
