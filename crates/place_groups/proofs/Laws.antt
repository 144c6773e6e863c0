-- The sheet by masks of failure sets, and what its entries say.
use Rattle.std.specs.Prelude.{ℕ, ◌≤◌, ◌<◌, ◌≡◌, refl, Bool, true, false, ◌&&◌, ltb, get_or}
use Rattle.std.proofs.Common.{sym, ◌∙◌, ⊎_elim, arith, lt-ltb, le-ltb, ltb-true, eq-eqb, ne_eqb}
use Rattle.std.proofs.Math.Path.{ap}
use Rattle.std.proofs.Math.Bool.{cond}
use mathlib.Core.List.{List, []}
use Rattle.std.specs.Int.Bits.{bit_and}
use Rattle.std.proofs.Math.Dec.{eqb}
use Rattle.base_laws.specs.Bools.{and_both, and_left, and_right, and_fails_right, no_true, lt_or_le}
use Rattle.base_laws.specs.Below.{any_at, any_none_of, any_mono}
use Rattle.base_laws.specs.Definitions.{has}
use Rattle.base_laws.specs.Masks.{has_and}
use Rattle.base_laws.specs.Tables.{get_d_tabulate}
use Rattle.settings_values.specs.Definitions.{nodes, sets, shards, set_of, Settings}
use Rattle.place_groups.specs.Definitions.{meets_set}
use Rattle.place_groups.specs.Sheet.{sheet_at, sheet_of}
use Rattle.place_groups.specs.Laws.{sheet_row}

-- ---- reading the sheet

module _ (σ : List ℕ) (held : ℕ) (old : ℕ → ℕ) where
  pub sheet_entry : (s f : ℕ) → s < 16 → f < 16 → get_or (get_or (sheet_of σ held old) s []) f 0 ≡ sheet_at σ held old s f
  sheet_entry s f l k = ap (λ (r : List ℕ). get_or r f 0) ((sheet_row σ held old) s l) ∙ get_d_tabulate 16 (sheet_at σ held old s) f 0 k

  module _ (right : Settings σ) (s : ℕ) (l : s < shards σ) where
    -- no node is of a set from F up
    outside : (mask f : ℕ) → sets σ ≤ f → meets_set σ mask f ≡ false
    unfolding meets_set
    outside mask f k =
        any_none_of (nodes σ) (λ n. has mask n && eqb (set_of σ n) f)
        (λ n q. and_fails_right (has mask n) (ne_eqb (set_of σ n) f (λ e. omega (arith, right.set_below n q))))

    member_held : (f : ℕ) → meets_set σ (bit_and held (old s)) f ≡ true → meets_set σ held f ≡ true
    unfolding meets_set
    member_held f h =
        any_mono (nodes σ) (λ n. has (bit_and held (old s)) n && eqb (set_of σ n) f) (λ n. has held n && eqb (set_of σ n) f)
        (λ n q e.
        and_both (and_left (has held n) (has (old s) n) (sym (has_and held (old s) n) ∙ and_left (has (bit_and held (old s)) n) (eqb (set_of σ n) f) e))
        (and_right (has (bit_and held (old s)) n) (eqb (set_of σ n) f) e))
        h

    inside_at : (f : ℕ) → f < sets σ → sheet_at σ held old s f ≡ cond (meets_set σ (bit_and held (old s)) f) 0 (cond (meets_set σ held f) 1 2)
    unfolding sheet_at
    inside_at f k =
        ap (λ (b : Bool). cond b (cond (meets_set σ (bit_and held (old s)) f) 0 (cond (meets_set σ held f) 1 2)) 2)
        (and_both (lt-ltb s (shards σ) l) (lt-ltb f (sets σ) k))

    outside_at : (f : ℕ) → sets σ ≤ f → sheet_at σ held old s f ≡ 2
    unfolding sheet_at
    outside_at f k =
        ap (λ (b : Bool). cond b (cond (meets_set σ (bit_and held (old s)) f) 0 (cond (meets_set σ held f) 1 2)) 2)
        (and_fails_right (ltb s (shards σ)) (le-ltb f (sets σ) k))

    -- an entry below 1 stands just where a held old member of the shard is in the set
    pub entry_stays : (f : ℕ) → ltb (sheet_at σ held old s f) 1 ≡ meets_set σ (bit_and held (old s)) f
    entry_stays f =
        ⊎_elim (λ k. rw (inside_at f k) (low (meets_set σ (bit_and held (old s)) f) (meets_set σ held f)))
        (λ k. rw (outside_at f k) (sym (outside (bit_and held (old s)) f k))) (lt_or_le f (sets σ))
      where
        low : (a b : Bool) → ltb (cond a 0 (cond b 1 2)) 1 ≡ a
        low true b = refl
        low false true = refl
        low false false = refl

    -- an entry below 2 stands just where a held node is in the set
    pub entry_held : (f : ℕ) → ltb (sheet_at σ held old s f) 2 ≡ meets_set σ held f
    entry_held f =
        ⊎_elim (λ k. rw (inside_at f k) (low (meets_set σ (bit_and held (old s)) f) (meets_set σ held f) (member_held f)))
        (λ k. rw (outside_at f k) (sym (outside held f k))) (lt_or_le f (sets σ))
      where
        low : (a b : Bool) → (a ≡ true → b ≡ true) → ltb (cond a 0 (cond b 1 2)) 2 ≡ b
        low true b h = sym (h refl)
        low false true h = refl
        low false false h = refl

    -- a node of the mask is in its set
    met : (mask n : ℕ) → n < nodes σ → has mask n ≡ true → meets_set σ mask (set_of σ n) ≡ true
    unfolding meets_set
    met mask n k p = any_at (nodes σ) (λ m. has mask m && eqb (set_of σ m) (set_of σ n)) n k (and_both p (eq-eqb (set_of σ n) (set_of σ n) refl))

    module _ (n : ℕ) (k : n < nodes σ) where
      -- of the entry for a node's set: below 2 if the node is held, below 1 if it is an old member too
      pub held_entry : has held n ≡ true → sheet_at σ held old s (set_of σ n) < 2
      held_entry p = ltb-true (sheet_at σ held old s (set_of σ n)) 2 (entry_held (set_of σ n) ∙ met held n k p)

      pub member_entry : has held n ≡ true → has (old s) n ≡ true → sheet_at σ held old s (set_of σ n) < 1
      member_entry p q =
          ltb-true (sheet_at σ held old s (set_of σ n)) 1 (entry_stays (set_of σ n) ∙ met (bit_and held (old s)) n k (has_and held (old s) n ∙ and_both p q))

      -- so an entry of 2 says that the node is not held, and one of 1 that a held node is no old member
      pub entry_none : sheet_at σ held old s (set_of σ n) ≡ 2 → has held n ≡ false
      entry_none e = no_true (has held n) (λ p. omega (arith, held_entry p))

      pub entry_moves : sheet_at σ held old s (set_of σ n) ≡ 1 → has held n ≡ true → has (old s) n ≡ false
      entry_moves e p = no_true (has (old s) n) (λ q. omega (arith, member_entry p q))
