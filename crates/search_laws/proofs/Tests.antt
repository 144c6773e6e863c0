-- Validity by tests that a program can make, and what the owners given so far rule out.
use Rattle.std.specs.Prelude.{◌≡◌, true, ◌||◌, ℕ, ◌+◌, ◌*◌, ◌/◌, ◌%◌, ◌≤◌, ◌<◌}
use Rattle.std.proofs.Common.{sym, ◌∙◌, subst, arith}
use Rattle.std.proofs.Math.Path.{ap}
use Rattle.std.proofs.Math.Logic.{⊎_elim}
use Rattle.std.proofs.Math.Dec.{eqb}
use borrow.Author.Tests.{eqb-true, eq-eqb, ne_eqb}
use Rattle.base_laws.specs.Bools.{clash, or-holds}
use Rattle.base_laws.specs.Below.{count_mono, count_with}
use Rattle.search_laws.specs.Case.{Case, Valid, WeighsWithin, size, spread}
use Rattle.search_laws.specs.Order.{takes, Agree, From, Begun, HasNone, Same}
use Rattle.search_laws.specs.Cut.{keeps}
use Rattle.search_laws.specs.Tests.{valid_same, weight_same, decided_spread}

pub within_same : {K : Case} {k : ℕ} (o y : ℕ → ℕ) → Same y o → WeighsWithin K k y → WeighsWithin K k o
within_same {K} o y s w = record { valid = valid_same s w.valid; cheap = omega (arith, weight_same s K, w.cheap) }

-- ---- what the owners given so far rule out

-- pair t can't be taken: its node has an owner, is not allowed there, or the shard is full
module _ {K : Case} {o y : ℕ → ℕ} {t : ℕ} (l : t < 512) (b : Begun o t) (a : Agree y o t) (v : Valid K y) (e : takes y t ≡ true) where
  here : y (t % 32) ≡ t / 32
  here = eqb-true (y (t % 32)) (t / 32) e

  pub owned : o (t % 32) < 16 → ⊥
  owned h = clash (eq-eqb (o (t % 32)) (t / 32) (sym (keeps b a (t % 32) (omega arith) h) ∙ here)) (b.rest t (omega arith) l)

  pub dearest : 255 ≤ K.cost (t / 32) (t % 32) → ⊥
  dearest h = omega (arith, subst (λ (i : ℕ). K.cost i (t % 32) < 255) here (v.allowed (t % 32) (omega arith) (omega (arith, here))))

  pub full : 16 ≤ o (t % 32) → K.cap (t / 32) ≤ size o (t / 32) → ⊥
  full h w =
      omega (
        arith,
        v.most (t / 32) (omega arith),
        count_mono 32 (λ j. eqb (o j) (t / 32) || eqb (t % 32) j) (λ j. eqb (y j) (t / 32)) more,
        count_with 32 (λ j. eqb (o j) (t / 32)) (t % 32) (omega arith) (ne_eqb (o (t % 32)) (t / 32) (λ d. omega arith)),
      )
    where
      more : (j : ℕ) → j < 32 → (eqb (o j) (t / 32) || eqb (t % 32) j) ≡ true → eqb (y j) (t / 32) ≡ true
      more j q d =
          ⊎_elim
          (λ r. let there : o j ≡ t / 32 = eqb-true (o j) (t / 32) r in eq-eqb (y j) (t / 32) (keeps b a j q (omega arith) ∙ there))
          (λ r. eq-eqb (y j) (t / 32) (ap y (sym (eqb-true (t % 32) j r)) ∙ here))
          (or-holds (eqb (o j) (t / 32)) (eqb (t % 32) j) d)

-- no placement from here: a shard that is decided has too few sets, or the owners cost too much already
pub none_thin : {K : Case} {k : ℕ} {o : ℕ → ℕ} {t : ℕ} (i : ℕ) → i < 16 → i * 32 + 32 ≤ t → spread K o i < K.need i → HasNone (From (WeighsWithin K k) o t)
none_thin i l q h = record { none = λ y f. omega (arith, decided_spread f.agree f.has.valid i l q) }
