-- `base_bytes::put` meets its contract: four bytes in the place of four are the definition's four stores. Assumes nothing.
use mathlib.Core.List.{List, [], ◌∷◌}
use mathlib.Core.Path.{◌≡◌, refl, ap, ◌∙◌}
use Prim.Native.Nat.{ℕ, zero, suc, ◌+◌, ◌-◌, ◌≤◌}
use native.Mathlib.Omega.{arith}
use lib.ListN.{length, set}
use borrow.Rule.Slice.PartMut.{put_mid}
use Rattle.base_bytes.proofs.put.Goals as goal

module _ (p q r s : ℕ) where
  four_set : (a : ℕ) (l : List ℕ) → a + 4 ≤ length l
      → put_mid a 4 l (p ∷ q ∷ r ∷ s ∷ []) ≡ set (set (set (set l a p) (a + 1) q) (a + 2) r) (a + 3) s
  four_set zero (x ∷ y ∷ z ∷ t ∷ l) h = refl
  four_set zero (x ∷ y ∷ z ∷ []) h = absurd (omega arith)
  four_set zero (x ∷ y ∷ []) h = absurd (omega arith)
  four_set zero (x ∷ []) h = absurd (omega arith)
  four_set zero [] h = absurd (omega arith)
  four_set (suc a) [] h = absurd (omega arith)
  four_set (suc a) (x ∷ l) h =
      let one : suc a + 1 ≡ suc (a + 1) = omega arith in
      let two : suc a + 2 ≡ suc (a + 2) = omega arith in
      let three : suc a + 3 ≡ suc (a + 3) = omega arith in
      rw (one, two, three) (ap (λ (m : List ℕ). x ∷ m) (four_set a l (omega arith)))

  four_stored : (a k : ℕ) (l bytes : List ℕ) → k ≡ 4 → bytes ≡ (p ∷ q ∷ r ∷ s ∷ []) → a + 4 ≤ length l
      → put_mid a k l bytes ≡ set (set (set (set l a p) (a + 1) q) (a + 2) r) (a + 3) s
  four_stored a k l bytes e f h = rw (e, f) (four_set a l h)

pub returns : goal.returns
returns c =
    let at = c.args.at in
    four_stored _ _ _ _ at (at + 4 - at) c.args.bytes.now _ (omega arith) (c.copy_from_slice.ensures.after ∙ c.to_le_bytes.ensures) (omega arith)
