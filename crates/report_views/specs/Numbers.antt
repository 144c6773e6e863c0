-- A position as one number, 2^32 times its view and its k: where k is below 2^32 the numbers stand in the order of the positions.
use Rattle.std.specs.Prelude.{ℕ, ◌+◌, ◌*◌, ◌/◌, ◌%◌, ◌<◌, ◌≤◌, true, not, ◌⊎◌, ◌≡◌, refl, ltb}
use Rattle.std.proofs.Common.{inl, inr, ap₂, ◌∙◌, arith, ltb-true, lt-ltb}
use Rattle.base_laws.specs.Bools.{same, lt_or_le}
use Rattle.base_laws.specs.Positions.{pair_before, before_cases, before_view, before_place}
use Rattle.base_laws.proofs.Positions.{before_not_after}
use Rattle.base_ids.specs.declared.Position.{Position}
use Rattle.base_ids.specs.Definitions.{not_after}
use Rattle.report_views.specs.Definitions.{pos, start}

unfoldable pub as_number : Position → ℕ
as_number p = 4294967296 * p.view.0 + p.k

-- the position that a number stands for
unfoldable pub from_number : ℕ → Position
from_number x = pos (x / 4294967296) (x % 4294967296)

pub number_start : as_number start ≡ 0
unfolding as_number
number_start = refl

pub number_back : (p : Position) → p.k < 4294967296 → from_number (as_number p) ≡ p
unfolding as_number from_number
number_back p l =
    let v : (4294967296 * p.view.0 + p.k) / 4294967296 ≡ p.view.0 = omega arith in
    let k : (4294967296 * p.view.0 + p.k) % 4294967296 ≡ p.k = omega arith in
    ap₂ (λ (x y : ℕ). pos x y) v k

-- q lies before p, as positions and as numbers
pub number_before : (p q : Position) → p.k < 4294967296 → q.k < 4294967296 → ltb (as_number q) (as_number p) ≡ not (not_after p q)
unfolding as_number
number_before p q l m =
    same (ltb (as_number q) (as_number p)) (pair_before q.view.0 q.k p.view.0 p.k)
    (λ h. up (ltb-true (as_number q) (as_number p) h) (lt_or_le q.view.0 p.view.0))
    (λ h. lt-ltb (as_number q) (as_number p) (down (before_cases q.view.0 q.k p.view.0 p.k h)))
    ∙ before_not_after q.view.0 q.k p.view.0 p.k
  where
    up : 4294967296 * q.view.0 + q.k < 4294967296 * p.view.0 + p.k → (q.view.0 < p.view.0) ⊎ (p.view.0 ≤ q.view.0)
        → pair_before q.view.0 q.k p.view.0 p.k ≡ true
    up h (inl v) = before_view q.view.0 q.k p.view.0 p.k v
    up h (inr v) =
        let e : q.view.0 ≡ p.view.0 = omega arith in
        rw e (before_place p.view.0 q.k p.k (omega arith))

    down : (q.view.0 < p.view.0) ⊎ ((q.view.0 ≡ p.view.0) × (q.k < p.k)) → 4294967296 * q.view.0 + q.k < 4294967296 * p.view.0 + p.k
    down (inl v) = omega arith
    down (inr e) = omega (arith, e.0, e.1)
