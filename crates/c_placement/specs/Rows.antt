-- A sheet made from the tables: in each shard's row, of each failure set no more than the entry of any of its nodes.
use Rattle.std.specs.Prelude.{◌≡◌, cond, List, [], ℕ, ◌+◌, ◌*◌, ◌%◌, ◌≤◌, ◌<◌, min, ltb, length, get_or, set, replicate}
use Rattle.std.proofs.Common.{sym, ◌∙◌, subst, ⊎_elim, arith, length-set, get_or-set_same, get_or-set_other, lt-ltb, le-ltb}
use Rattle.std.proofs.lemmas.List.{length-replicate, get_or-replicate}
use Rattle.std.proofs.Math.ListN.{get_or-eq_default}
use Rattle.base_laws.specs.Bools.{lt_or_le, eq_or_ne}
use Rattle.search_laws.specs.Tables.{case_of}
use Rattle.search_laws.specs.Floor.{SheetFor}

-- the entry of a node of that cost: 0 where it stays, 1 where it moves, 2 where it is not allowed
unfoldable pub entry_for : ℕ → ℕ
entry_for c = cond (ltb c 1) 0 (cond (ltb c 255) 1 2)

-- the row of shard i has no more than the entries of the nodes below n
pub record RowBelow (sets costs : List ℕ) (i n : ℕ) (row : List ℕ) : Type 0 where
  pub long : length row ≡ 16
  pub least : (m : ℕ) → m < n → get_or row (get_or sets m 0) 0 ≤ entry_for (get_or costs (i * 32 + m) 0)

pub row_start : (sets costs : List ℕ) (i : ℕ) → RowBelow sets costs i 0 (replicate 16 2)
row_start sets costs i = record { long = length-replicate {A = ℕ} 16 2; least = λ m l. absurd (omega arith) }

-- entries of 0 are above no other
pub row_zeros : (sets costs : List ℕ) (i : ℕ) → RowBelow sets costs i 32 (replicate 16 0)
row_zeros sets costs i = record { long = length-replicate {A = ℕ} 16 0; least = λ m l. omega (arith, zero (get_or sets m 0)) }
  where
    zero : (k : ℕ) → ◌≡◌ {A = ℕ} (get_or (replicate 16 0) k 0) 0
    zero k = ⊎_elim (λ l. get_or-replicate 16 k 0 0 l) (λ l. get_or-eq_default (replicate 16 0) 0 {n = k} (omega (arith, length-replicate {A = ℕ} 16 0))) (lt_or_le k 16)

-- a lower entry leaves no entry higher
lowered : (row : List ℕ) (f v k : ℕ) → f < length row → v ≤ get_or row f 0 → get_or (set row f v) k 0 ≤ get_or row k 0
lowered row f v k l h =
    ⊎_elim (λ e. subst (λ (j : ℕ). get_or (set row f v) j 0 ≤ get_or row j 0) (sym e) (omega (arith, get_or-set_same row f v 0 l)))
    (λ e. omega (arith, get_or-set_other row f k v 0 e)) (eq_or_ne k f)

pub row_turn : {sets costs : List ℕ} {i n : ℕ} {row : List ℕ} (f e v : ℕ) → RowBelow sets costs i n row → f ≡ get_or sets n 0 % 16
    → e ≡ entry_for (get_or costs (i * 32 + n) 0) → v ≡ min (get_or row f 0) e → RowBelow sets costs i (n + 1) (set row f v)
row_turn {sets} {costs} {i} {n} {row} f e v w s q d =
    record { long = length-set row f v ∙ w.long; least = λ m l. ⊎_elim (λ o. here m o) (λ o. before m (omega arith)) (eq_or_ne m n) }
  where
    room : f < length row
    room = omega (arith, w.long)

    before : (m : ℕ) → m < n → get_or (set row f v) (get_or sets m 0) 0 ≤ entry_for (get_or costs (i * 32 + m) 0)
    before m l = omega (arith, lowered row f v (get_or sets m 0) room (omega arith), w.least m l)

    -- a set from 16 up has no entry
    at : get_or (set row f v) (get_or sets n 0) 0 ≤ entry_for (get_or costs (i * 32 + n) 0)
    at =
        ⊎_elim
        (λ l. let o : f ≡ get_or sets n 0 = omega arith in subst (λ (j : ℕ). get_or (set row f v) j 0 ≤ entry_for (get_or costs (i * 32 + n) 0)) o (omega (arith, get_or-set_same row f v 0 room)))
        (λ l. omega (arith, get_or-eq_default (set row f v) 0 {n = get_or sets n 0} (omega (arith, length-set row f v, w.long))))
        (lt_or_le (get_or sets n 0) 16)

    here : (m : ℕ) → m ≡ n → get_or (set row f v) (get_or sets m 0) 0 ≤ entry_for (get_or costs (i * 32 + m) 0)
    here m o = subst (λ (j : ℕ). get_or (set row f v) (get_or sets j 0) 0 ≤ entry_for (get_or costs (i * 32 + j) 0)) (sym o) at

-- the rows of the shards below i
pub record RowsBelow (sets costs : List ℕ) (i : ℕ) (rows : List (List ℕ)) : Type 0 where
  pub long : length rows ≡ 16
  pub at : (j : ℕ) → j < i → RowBelow sets costs j 32 (get_or rows j [])

pub rows_start : (sets costs : List ℕ) (row : List ℕ) → RowsBelow sets costs 0 (replicate 16 row)
rows_start sets costs row = record { long = length-replicate 16 row; at = λ j l. absurd (omega arith) }

pub rows_turn : {sets costs : List ℕ} {i : ℕ} {rows : List (List ℕ)} (row : List ℕ) → i < 16 → RowsBelow sets costs i rows
    → RowBelow sets costs i 32 row → RowsBelow sets costs (i + 1) (set rows i row)
rows_turn {sets} {costs} {i} {rows} row l w r =
    record {
      long = length-set rows i row ∙ w.long;
      at = λ j k.
          ⊎_elim
          (λ e. subst (λ (m : ℕ). RowBelow sets costs m 32 (get_or (set rows i row) m [])) (sym e) (subst (RowBelow sets costs i 32) (sym (get_or-set_same rows i row [] (omega (arith, w.long)))) r))
          (λ e. subst (RowBelow sets costs j 32) (sym (get_or-set_other rows i j row [] e)) (w.at j (omega arith)))
          (eq_or_ne j i);
    }

entry_shut : (c : ℕ) → 2 ≤ entry_for c → 255 ≤ c
unfolding entry_for
entry_shut c =
    ⊎_elim (λ l. simp (lt-ltb c 1 l) (λ h. absurd (omega arith)))
    (λ l. ⊎_elim (λ q. simp (le-ltb c 1 l, lt-ltb c 255 q) (λ h. absurd (omega arith))) (λ q h. q) (lt_or_le c 255)) (lt_or_le c 1)

entry_moved : (c : ℕ) → 1 ≤ entry_for c → 1 ≤ c
unfolding entry_for
entry_moved c = ⊎_elim (λ l. simp (lt-ltb c 1 l) (λ h. absurd (omega arith))) (λ l h. l) (lt_or_le c 1)

pub rows_end : {sets costs : List ℕ} {i : ℕ} {rows : List (List ℕ)} (needs caps : List ℕ) (idle : ℕ) → 16 ≤ i → RowsBelow sets costs i rows
    → SheetFor (case_of sets needs caps costs idle) rows
rows_end {sets} {costs} needs caps idle h w =
    record {
      shut = λ i n l k e. entry_shut (get_or costs (i * 32 + n) 0) (omega (arith, (w.at i (omega arith)).least n k));
      moved = λ i n l k e. entry_moved (get_or costs (i * 32 + n) 0) (omega (arith, (w.at i (omega arith)).least n k));
    }
