-- In contents that pass row 17's pass every record precedes all later ones, so tags never fall and the runs of a shard
-- rise by view.
use Prim.Native.Nat.{ℕ, zero, suc, ◌-◌, ◌<◌}
use Rattle.std.specs.Prelude.{true, not, ◌&&◌, ◌||◌, List, ◌⊎◌, ◌≡◌, eqb, ltb}
use Rattle.std.proofs.Common.{inl, inr, sym, ◌∙◌}
use Rattle.std.proofs.Math.Logic.{⊎_elim}
use Rattle.std.proofs.Math.Path.{subst}
use native.Mathlib.Omega.{arith}
use borrow.Author.Tests.{ltb-true, eqb-true, lt-ltb, eq-eqb}
use Rattle.base_laws.specs.Bools.{and_both, and_left, and_right, or_left, or_right, or-holds, eq_or_ne}
use Rattle.base_laws.specs.Definitions.{all_below}
use Rattle.base_laws.specs.Below.{all_at}
use Rattle.message_format.specs.Definitions.{tag, word1, kind, precedes, surplus, sequence_at}

-- what it means that record i precedes record j
pub precedes_cases : (b : List ℕ) (i j : ℕ) → precedes b i j ≡ true
    → (tag b i < tag b j) ⊎ ((tag b i ≡ tag b j) × (kind b j ≡ 3) × (word1 b i < word1 b j))
unfolding precedes
precedes_cases b i j h =
    ⊎_elim (λ e. inl (ltb-true (tag b i) (tag b j) e))
    (λ e.
    let rest = and_right (eqb (tag b i) (tag b j)) (eqb (kind b j) 3 && ltb (word1 b i) (word1 b j)) e in
    inr (
      eqb-true (tag b i) (tag b j) (and_left (eqb (tag b i) (tag b j)) (eqb (kind b j) 3 && ltb (word1 b i) (word1 b j)) e),
      eqb-true (kind b j) 3 (and_left (eqb (kind b j) 3) (ltb (word1 b i) (word1 b j)) rest),
      ltb-true (word1 b i) (word1 b j) (and_right (eqb (kind b j) 3) (ltb (word1 b i) (word1 b j)) rest),
    ))
    (or-holds (ltb (tag b i) (tag b j)) (eqb (tag b i) (tag b j) && (eqb (kind b j) 3 && ltb (word1 b i) (word1 b j))) h)

pub precedes_tag : (b : List ℕ) (i j : ℕ) → tag b i < tag b j → precedes b i j ≡ true
unfolding precedes
precedes_tag b i j l =
    or_left (eqb (tag b i) (tag b j) && (eqb (kind b j) 3 && ltb (word1 b i) (word1 b j))) (lt-ltb (tag b i) (tag b j) l)

pub precedes_view : (b : List ℕ) (i j : ℕ) → tag b i ≡ tag b j → kind b j ≡ 3 → word1 b i < word1 b j → precedes b i j ≡ true
unfolding precedes
precedes_view b i j e k l =
    or_right (ltb (tag b i) (tag b j))
    (and_both (eq-eqb (tag b i) (tag b j) e) (and_both (eq-eqb (kind b j) 3 k) (lt-ltb (word1 b i) (word1 b j) l)))

pub precedes_trans : (b : List ℕ) (i j k : ℕ) → precedes b i j ≡ true → precedes b j k ≡ true → precedes b i k ≡ true
precedes_trans b i j k p q =
    ⊎_elim (λ l. ⊎_elim (λ m. precedes_tag b i k (omega arith)) (λ m. precedes_tag b i k (omega (arith, m.0))) (precedes_cases b j k q))
    (λ l.
    ⊎_elim (λ m. precedes_tag b i k (omega (arith, l.0)))
    (λ m. precedes_view b i k (l.0 ∙ m.0) m.1 (omega (arith, l.2, m.2)))
    (precedes_cases b j k q))
    (precedes_cases b i j p)

module _ (node : ℕ) (b : List ℕ) (len : ℕ) (h : all_below len (sequence_at node b) ≡ true) where
  -- the record before
  pub follows : (j : ℕ) → suc j < len → precedes b j (suc j) ≡ true
  unfolding sequence_at
  follows j l =
      let at = and_left (eqb (suc j) 0 || precedes b (suc j - 1) (suc j)) (not (surplus node b (suc j))) (all_at len (sequence_at node b) h (suc j) l) in
      let e : suc j - 1 ≡ j = omega arith in
      ⊎_elim (λ z. let y = eqb-true (suc j) 0 z in absurd (omega arith)) (λ p. subst (λ (x : ℕ). precedes b x (suc j) ≡ true) e p)
      (or-holds (eqb (suc j) 0) (precedes b (suc j - 1) (suc j)) at)

  -- every record precedes all later ones
  pub rising : (i j : ℕ) → i < j → j < len → precedes b i j ≡ true
  rising i zero l m = absurd (omega arith)
  rising i (suc j) l m =
      ⊎_elim (λ e. subst (λ (x : ℕ). precedes b x (suc j) ≡ true) (sym e) (follows j m))
      (λ e. precedes_trans b i j (suc j) (rising i j (omega arith) (omega arith)) (follows j m))
      (eq_or_ne i j)

  -- two runs of a shard, or any two records of one tag: the later one has the greater view
  pub views_rise : (i j : ℕ) → i < j → j < len → tag b i ≡ tag b j → word1 b i < word1 b j
  views_rise i j l m e = ⊎_elim (λ p. absurd (omega arith)) (λ p. p.2) (precedes_cases b i j (rising i j l m))
