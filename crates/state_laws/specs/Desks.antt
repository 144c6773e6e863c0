-- The desk after a report: the node's slot is the message followed by zeros, the other slots and the length are as they were.
use Rattle.std.specs.Prelude.{ℕ, ◌+◌, ◌*◌, ◌-◌, ◌<◌, List, ◌≡◌, length, drop}
use native.Mathlib.Omega.{arith}
use Rattle.std.proofs.Common.{inl, inr, ⊎_elim, sym, ◌∙◌}
use Rattle.std.proofs.Math.Path.{ap}
use Rattle.std.proofs.Math.ListN.{take}
use Rattle.base_laws.specs.Bools.{lt_or_le}
use Rattle.base_laws.specs.Definitions.{padded}
use Rattle.base_laws.specs.Tables.{length_padded, length_replaced, part_replaced, part_apart}
use Rattle.report_views.specs.Definitions.{slot}
use Rattle.report_desk.specs.Definitions.{desk_with}
use Rattle.report_desk.specs.Desk.{desk_replaced}

module _ (d w : List ℕ) (n : ℕ) (words : length d ≡ 16384) (below : n < 32) where
  pub desk_length : length (desk_with d n w) ≡ 16384
  desk_length =
      ap length (desk_replaced d n w) ∙ length_replaced (512 * n) (padded 512 w) d (omega (arith, length_padded 512 w)) ∙ words

  -- a slot by its start and its length
  slot_part : (m : ℕ) (l : List ℕ) → slot l m ≡ take 512 (drop (512 * m) l)
  unfolding slot
  slot_part m l = let e : 512 * m + 512 - 512 * m ≡ 512 = omega arith in ap (λ (k : ℕ). take k (drop (512 * m) l)) e

  pub slot_own : slot (desk_with d n w) n ≡ padded 512 w
  slot_own =
      slot_part n (desk_with d n w)
      ∙ ap (λ (l : List ℕ). take 512 (drop (512 * n) l)) (desk_replaced d n w)
      ∙ part_replaced 0 (512 * n) 512 (padded 512 w) d (length_padded 512 w) (omega arith)

  pub slot_other : (m : ℕ) → m < 32 → (m ≡ n → ⊥) → slot (desk_with d n w) m ≡ slot d m
  slot_other m l other =
      slot_part m (desk_with d n w)
      ∙ ap (λ (x : List ℕ). take 512 (drop (512 * m) x)) (desk_replaced d n w)
      ∙ part_apart 0 (512 * n) (512 * m) 512 (padded 512 w) d (omega (arith, length_padded 512 w)) (omega arith)
      (⊎_elim (λ i. inl (omega arith)) (λ i. inr (omega (arith, length_padded 512 w))) (lt_or_le m n))
      ∙ sym (slot_part m d)
