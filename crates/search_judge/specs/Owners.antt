-- The owners of all nodes, as a mask.
use Rattle.std.specs.Prelude.{◌≡◌, true, false, ◌&&◌, List, ℕ, ◌+◌, ◌%◌, ◌≤◌, ◌<◌, eqb, leb, get_or}
use Rattle.std.proofs.Common.{sym, ap, ◌∙◌, subst, ⊎_elim, le_antisymm, arith, eq-eqb, eqb-true, le-leb}
use Rattle.base_laws.specs.Bools.{lt_or_le, eq_or_ne, clash, and_both, or_left, or_right}
use Rattle.base_laws.specs.Below.{count_some}
use Rattle.base_laws.specs.Definitions.{has, with}
use Rattle.base_laws.specs.Masks.{has_with}
use Rattle.search_laws.specs.Case.{size}
use Rattle.search_laws.specs.Tables.{owners_of}

-- m has the owner of each node below n
pub record OwnersHeld (owner : List ℕ) (n m : ℕ) : Type 0 where
  pub bit : (k : ℕ) → k < n → has m (get_or owner k 0 % 32) ≡ true

pub owners_none : (owner : List ℕ) → OwnersHeld owner 0 0
owners_none owner = record { bit = λ k l. absurd (omega arith) }

owners_next : {owner : List ℕ} {n m : ℕ} (o : ℕ) → OwnersHeld owner n m → o ≡ get_or owner n 0 → OwnersHeld owner (n + 1) (with m (o % 32))
owners_next {owner} {n} {m} o s e =
    record {
      bit = λ k l. has_with m (o % 32) (get_or owner k 0 % 32)
          ∙ ⊎_elim (λ d. or_right (has m (get_or owner k 0 % 32)) (eq-eqb (o % 32) (get_or owner k 0 % 32) (ap (λ (x : ℕ). x % 32) (e ∙ ap (λ (j : ℕ). get_or owner j 0) (sym d)))))
          (λ d. or_left (eqb (o % 32) (get_or owner k 0 % 32)) (s.bit k (omega arith)))
          (eq_or_ne k n);
    }

pub owners_turn : {owner : List ℕ} {n m : ℕ} (o r : ℕ) → OwnersHeld owner n m → o ≡ get_or owner n 0 → r ≡ with m (o % 32) → OwnersHeld owner (n + 1) r
owners_turn {owner} {n} {m} o r s e d = subst (λ (x : ℕ). OwnersHeld owner (n + 1) x) (sym d) (owners_next o s e)

pub owners_done : {owner : List ℕ} {n m : ℕ} → n ≤ 32 → 32 ≤ n → OwnersHeld owner n m → OwnersHeld owner 32 m
owners_done {owner} {n} {m} l g s = subst (λ (k : ℕ). OwnersHeld owner k m) (le_antisymm l g) s

-- a shard that is none of the owners has no node
pub no_nodes : {owner : List ℕ} {i m : ℕ} → i < 16 → OwnersHeld owner 32 m → has m i ≡ false → size (owners_of owner) i ≡ 0
no_nodes {owner} {i} {m} l s h =
    ⊎_elim
    (λ p.
    let (k, q, e) = count_some 32 (λ n. eqb (owners_of owner n) i) p in
    clash (subst (λ (x : ℕ). has m x ≡ true) (omega (arith, eqb-true (get_or owner k 0) i e)) (s.bit k q)) h)
    (λ p. omega arith)
    (lt_or_le 0 (size (owners_of owner) i))

pub met_bare : {a x : ℕ} (b y : ℕ) → a ≡ 0 → x ≡ 0 → true ≡ (leb a b && leb x y)
met_bare {a} {x} b y p q = sym (and_both (le-leb a b (omega arith)) (le-leb x y (omega arith)))
