-- Where a refusal of the contents' records is told: the index of a record among the contents, in order, becomes its index in
-- a message. Only the index changes, and it is at most the number of records.
use Prim.Native.Nat.{ℕ, suc, ◌+◌, ◌*◌, ◌/◌, ◌%◌, ◌<◌, ◌≤◌}
use Rattle.std.specs.Prelude.{Bool, cond, List, ◌≡◌, refl}
use Rattle.std.proofs.Math.Bool.{true, false}
use Rattle.std.proofs.Common.{ap, ⊎_elim, ne_eqb}
use native.Mathlib.Omega.{arith}
use Rattle.base_laws.specs.Bools.{clash, lt_or_le}
use Rattle.base_laws.specs.Definitions.{all_below}
use Rattle.base_laws.specs.Loops.{first_bad}
use Rattle.base_laws.proofs.Loops.{bad-holds}
use Rattle.base_ids.specs.Definitions.{none, refused, refused_at, accepted, number_in, index_in, unless, unless_at}
use Rattle.base_ids.specs.Refusals.{number_at, index_at}
use Rattle.base_ids.specs.declared.Refusal.{Refusal}
use Rattle.message_format.specs.declared.Form.{Form}
use Rattle.message_format.specs.Definitions.{members_of, kind_at, shard_at, sequence_at, complete, row10, row11_at, in_order, records_refusal}

-- the refusal told at the index that `at` gives for its own
unfoldable pub placed_by : (ℕ → ℕ) → Refusal → Refusal
placed_by at r = cond (accepted r) none (refused_at (number_in r) (at (index_in r)))

module _ (at : ℕ → ℕ) where
  told : (k i : ℕ) → suc k < 256 → refused_at (suc k) (at i) ≡ placed_by at (refused_at (suc k) i)
  unfolding placed_by
  told k i l = rw (ne_eqb (suc k + 256 * i) 0 (λ e. omega arith), number_at (suc k) i l, index_at (suc k) i l)

  placed_at : (ok : Bool) (k i : ℕ) (a b : Refusal) → suc k < 256 → a ≡ placed_by at b
      → unless_at ok (suc k) (at i) a ≡ placed_by at (unless_at ok (suc k) i b)
  unfolding unless_at
  placed_at true k i a b l e = e
  placed_at false k i a b l e = told k i l

  placed_plain : at 0 ≡ 0 → (ok : Bool) (k : ℕ) (a b : Refusal) → suc k < 256 → a ≡ placed_by at b
      → unless ok (suc k) a ≡ placed_by at (unless ok (suc k) b)
  unfolding unless placed_by
  placed_plain z true k a b l e = e
  placed_plain z false k a b l e =
      let d : suc k % 256 ≡ suc k = omega arith in
      let q : suc k / 256 ≡ 0 = omega arith in
      rw (ne_eqb (suc k) 0 (λ h. omega arith), d, q, z) (ap refused (omega arith))

  -- what a message's records are refused by is what the same records in order are, told where they stand
  pub records_placed : at 0 ≡ 0 → (form : Form) (σ : List ℕ) (node view members : ℕ) (b : List ℕ) (len : ℕ)
      → records_refusal at form σ node view members b len ≡ placed_by at (records_refusal in_order form σ node view members b len)
  unfolding records_refusal placed_by
  records_placed z form σ node view members b len =
      placed_at (all_below len (kind_at form b)) 8 _ _ _ (omega arith)
      (placed_at (all_below len (shard_at σ b)) 15 _ _ _ (omega arith)
      (placed_at (all_below len (sequence_at node b)) 16 _ _ _ (omega arith)
      (placed_at (complete form σ node b len) 16 _ _ _ (omega arith)
      (placed_plain z (row10 σ members (members_of b)) 9 _ _ (omega arith)
      (placed_plain z (all_below len (row11_at form view members b)) 10 none none (omega arith) refl)))))

-- ---- the index is at most the number of records

pub bad_below : (n : ℕ) (f : ℕ → Bool) → all_below n f ≡ false → suc (first_bad n f) ≤ n
bad_below n f h =
    ⊎_elim (λ l. omega arith) (λ l. clash (bad-holds n f (first_bad n f) refl l) h) (lt_or_le (first_bad n f) n)

module _ (len : ℕ) where
  index-told : (ok : Bool) (k i : ℕ) (rest : Refusal) → k < 256 → (ok ≡ false → i ≤ len) → index_in rest ≤ len
      → index_in (unless_at ok k i rest) ≤ len
  unfolding unless_at
  index-told true k i rest l h g = g
  index-told false k i rest l h g = omega (arith, index_at k i l, h refl)

  index-plain : (ok : Bool) (k : ℕ) (rest : Refusal) → k < 256 → index_in rest ≤ len → index_in (unless ok k rest) ≤ len
  unfolding unless
  index-plain true k rest l g = g
  index-plain false k rest l g = omega arith

pub records_index : (form : Form) (σ : List ℕ) (node view members : ℕ) (b : List ℕ) (len : ℕ)
    → index_in (records_refusal in_order form σ node view members b len) ≤ len
unfolding records_refusal
records_index form σ node view members b len =
    index-told len (all_below len (kind_at form b)) 9 _ _ (omega arith) (bad_below len (kind_at form b))
    (index-told len (all_below len (shard_at σ b)) 16 _ _ (omega arith) (bad_below len (shard_at σ b))
    (index-told len (all_below len (sequence_at node b)) 17 _ _ (omega arith) (bad_below len (sequence_at node b))
    (index-told len (complete form σ node b len) 17 len _ (omega arith) (λ _. omega arith)
    (index-plain len (row10 σ members (members_of b)) 10 _ (omega arith)
    (index-plain len (all_below len (row11_at form view members b)) 11 none (omega arith) (omega arith))))))
