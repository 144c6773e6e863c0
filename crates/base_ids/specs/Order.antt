-- Laws of the order of positions.
use Rattle.std.specs.Prelude.{ℕ, ◌<◌, ◌≤◌, true, ◌⊎◌, ◌≡◌}
use Rattle.std.proofs.Common.{arith, inl, inr, ⊎_elim, ap₂, subst}
use Rattle.base_laws.specs.Definitions.{pair_not_after as not-after}
use Rattle.base_laws.specs.Positions.{not_after_antisym, not_after_trans, not_after_views, not_after_view, not_after_place, not_after_cases}
use Rattle.base_ids.specs.declared.Position.{Position}
use Rattle.base_ids.specs.Definitions.{not_after}

pub same-position : (p q : Position) → not_after p q ≡ true → not_after q p ≡ true → p ≡ q
same-position p q l m =
    let e = not_after_antisym p.view.0 p.k q.view.0 q.k l m in
    ap₂ (λ (v k : ℕ). record { view = record { 0 = v }; k = k }) e.0 e.1

pub order_trans : (p q r : Position) → not_after p q ≡ true → not_after q r ≡ true → not_after p r ≡ true
order_trans p q r = not_after_trans p.view.0 p.k q.view.0 q.k r.view.0 r.k

pub order_views : (p q : Position) → not_after p q ≡ true → p.view.0 ≤ q.view.0
order_views p q = not_after_views p.view.0 p.k q.view.0 q.k

pub order_places : (p q : Position) → p.view.0 ≡ q.view.0 → not_after p q ≡ true → p.k ≤ q.k
order_places p q e h =
    ⊎_elim (λ l. absurd (omega arith)) (λ d. d.1) (not_after_cases p.view.0 p.k q.view.0 q.k h)

pub order_of : (p q : Position) → (p.view.0 < q.view.0) ⊎ ((p.view.0 ≡ q.view.0) × (p.k ≤ q.k)) → not_after p q ≡ true
order_of p q (inl l) = not_after_view p.view.0 p.k q.view.0 q.k l
order_of p q (inr e) =
    subst (λ (x : ℕ). not-after p.view.0 p.k x q.k ≡ true) e.0 (not_after_place p.view.0 p.k q.k e.1)
