-- Reports that leave out what all members of a shard have in common from before the kept view, the base: holders are the same, and a target
-- of the base's end is (0, 0).
use Rattle.std.specs.Prelude.{ℕ, ◌<◌, Bool, cond, not, ◌&&◌, ◌||◌, List, ◌≡◌}
use Rattle.std.proofs.Math.Bool.{true, false}
use Rattle.std.proofs.Common.{inl, ap₂, ◌∙◌, subst, arith}
use Rattle.std.proofs.Math.Logic.{⊎_elim}
use Rattle.std.proofs.Math.Path.{refl, sym, ap, subst⁻¹}
use Rattle.base_laws.specs.Bools.{either, no_true, and_left, and_fails_left}
use Rattle.base_laws.specs.Definitions.{all_below}
use Rattle.base_laws.specs.Below.{lowest_cong, all_cong}
use Rattle.base_laws.specs.Positions.{not_after_refl}
use Rattle.base_ids.specs.declared.Position.{Position}
use Rattle.base_ids.specs.Definitions.{not_after}
use Rattle.base_ids.specs.Order.{order_of, order_views}
use Rattle.report_views.specs.declared.Layout.{Layout}
use Rattle.report_views.specs.declared.Termination.{Termination}
use Rattle.report_views.specs.Definitions.{start, has_update, end_at, position_at, candidate, able, target, holder, best, greatest}
use Rattle.report_views.specs.Shorthands.{has_at}
use Rattle.report_views.specs.Best.{best_found}
use Rattle.history_short_laws.specs.Short.{Shorter, Shortened, same_candidate}

-- the best of two orders that agree is one
best_order : (f g : ℕ → Bool) (a b : ℕ → Position) (n : ℕ) → ((k : ℕ) → k < n → f k ≡ g k)
    → ((i j : ℕ) → i < n → j < n → f i ≡ true → f j ≡ true → not_after (a i) (a j) ≡ not_after (b i) (b j)) → best f a n ≡ best g b n
unfolding best greatest
best_order f g a b n same order = lowest_cong n (greatest f a n) (greatest g b n) (λ k l. ⊎_elim (λ e. picked k l e) (λ e. left k l e) (either (f k)))
  where
    left : (k : ℕ) → k < n → f k ≡ false → greatest f a n k ≡ greatest g b n k
    left k l e =
        and_fails_left (all_below n (λ m. not (f m) || not_after (a m) (a k))) e
        ∙ sym (and_fails_left (all_below n (λ m. not (g m) || not_after (b m) (b k))) (sym (same k l) ∙ e))

    picked : (k : ℕ) → k < n → f k ≡ true → greatest f a n k ≡ greatest g b n k
    picked k l e =
        ap₂ ◌&&◌ (same k l)
        (all_cong n (λ m. not (f m) || not_after (a m) (a k)) (λ m. not (g m) || not_after (b m) (b k))
        (λ m h. ⊎_elim
        (λ p. ap₂ ◌||◌ (ap (λ (x : Bool). not x) (same m h)) (order m k h l p e))
        (λ p. ap (λ (x : Bool). not x || not_after (a m) (a k)) p ∙ sym (ap (λ (x : Bool). not x || not_after (b m) (b k)) (sym (same m h) ∙ p)))
        (either (f m))))

has_start : (d : List ℕ) (s n : ℕ) → has_at d s start n ≡ true
unfolding has_update
has_start d s n = refl

module _ (v : Layout) (base : Position) (older : base.view.0 < v.number.0) where
  -- the order is the same
  short_order : (p q r t : Position) → Shorter v base p q → Shorter v base r t → not_after p r ≡ not_after q t
  short_order p q r t x y = ⊎_elim (λ a. ⊎_elim (λ b. both a b) (λ b. first a b) y.told) (λ a. ⊎_elim (λ b. second a b) (λ b. none a b) y.told) x.told
    where
      both : ((p ≡ base) × (q ≡ start)) → ((r ≡ base) × (t ≡ start)) → not_after p r ≡ not_after q t
      both a b =
          ap₂ (λ (i j : Position). not_after i j) a.0 b.0 ∙ not_after_refl base.view.0 base.k
          ∙ sym (ap₂ (λ (i j : Position). not_after i j) a.1 b.1 ∙ not_after_refl 0 0)

      first : ((p ≡ base) × (q ≡ start)) → ((r.view.0 ≡ v.number.0) × (t ≡ r)) → not_after p r ≡ not_after q t
      first a b =
          let ev : p.view.0 ≡ base.view.0 = ap (λ (i : Position). i.view.0) a.0 in
          let ez : q.view.0 ≡ 0 = ap (λ (i : Position). i.view.0) a.1 in
          let et : t.view.0 ≡ r.view.0 = ap (λ (i : Position). i.view.0) b.1 in
          order_of p r (inl (omega (arith, b.0, older))) ∙ sym (order_of q t (inl (omega (arith, b.0, older))))

      second : ((p.view.0 ≡ v.number.0) × (q ≡ p)) → ((r ≡ base) × (t ≡ start)) → not_after p r ≡ not_after q t
      second a b =
          let ev : r.view.0 ≡ base.view.0 = ap (λ (i : Position). i.view.0) b.0 in
          let ez : t.view.0 ≡ 0 = ap (λ (i : Position). i.view.0) b.1 in
          let eq : q.view.0 ≡ p.view.0 = ap (λ (i : Position). i.view.0) a.1 in
          no_true (not_after p r) (λ h. absurd (omega (arith, order_views p r h, a.0, older)))
          ∙ sym (no_true (not_after q t) (λ h. absurd (omega (arith, order_views q t h, a.0, older))))

      none : ((p.view.0 ≡ v.number.0) × (q ≡ p)) → ((r.view.0 ≡ v.number.0) × (t ≡ r)) → not_after p r ≡ not_after q t
      none a b = sym (ap₂ (λ (i j : Position). not_after i j) a.1 b.1)

-- t is kept with the desk d, u with the short one
module _ (v : Layout) (t u : Termination) (held : ℕ) (d e : List ℕ) (s : ℕ) (base : Position) (h : Shortened v held d e s base)
    (made : u.made ≡ t.made) (ended : t.made ≡ true → Shorter v base (position_at t s) (position_at u s)) where
  same_best : best (candidate v held d s) (end_at d s) 32 ≡ best (candidate v held e s) (end_at e s) 32
  same_best =
      best_order (candidate v held d s) (candidate v held e s) (end_at d s) (end_at e s) 32 (same_candidate v t u held d e s base h made ended)
      (λ i j k l p q. short_order v base h.older (end_at d s i) (end_at e s i) (end_at d s j) (end_at e s j) (h.ends i k p) (h.ends j l q))

  -- the target is the same, or (0, 0) for the base's end
  pub short_target : (n : ℕ) → n < 32 → candidate v held d s n ≡ true → Shorter v base (target v t held d s) (target v u held e s)
  unfolding target
  short_target n l p = by t.made refl
    where
      by : (b : Bool) → t.made ≡ b → Shorter v base (target v t held d s) (target v u held e s)
      by true q =
          subst⁻¹ (λ (x : Bool). Shorter v base (cond x (position_at t s) (end_at d s (best (candidate v held d s) (end_at d s) 32))) (target v u held e s)) q
          (subst⁻¹ (λ (x : Bool). Shorter v base (position_at t s) (cond x (position_at u s) (end_at e s (best (candidate v held e s) (end_at e s) 32)))) (made ∙ q) (ended q))
      by false q =
          let g = best_found (candidate v held d s) (end_at d s) 32 n l p in
          subst⁻¹ (λ (x : Bool). Shorter v base (cond x (position_at t s) (end_at d s (best (candidate v held d s) (end_at d s) 32))) (target v u held e s)) q
          (subst⁻¹ (λ (x : Bool). Shorter v base (end_at d s (best (candidate v held d s) (end_at d s) 32)) (cond x (position_at u s) (end_at e s (best (candidate v held e s) (end_at e s) 32)))) (made ∙ q)
          (subst (λ (x : ℕ). Shorter v base (end_at d s (best (candidate v held d s) (end_at d s) 32)) (end_at e s x)) same_best
          (h.ends (best (candidate v held d s) (end_at d s) 32) g.below g.picked)))

  same_able : (n : ℕ) → n < 32 → able v t held d s n ≡ able v u held e s n
  unfolding able
  same_able n l = ⊎_elim yes no (either (candidate v held d s n))
    where
      has_it : candidate v held d s n ≡ true → has_at d s (target v t held d s) n ≡ has_at e s (target v u held e s) n
      has_it p =
          ⊎_elim
          (λ x. ap (λ (q : Position). has_at d s q n) x.0 ∙ h.common n l p ∙ sym (ap (λ (q : Position). has_at e s q n) x.1 ∙ has_start e s n))
          (λ x. sym (ap (λ (q : Position). has_at e s q n) x.1 ∙ h.updates n l p (target v t held d s) x.0))
          (short_target n l p).told

      yes : candidate v held d s n ≡ true → able v t held d s n ≡ able v u held e s n
      yes p = ap₂ ◌&&◌ ((same_candidate v t u held d e s base h made ended) n l) (has_it p)

      no : candidate v held d s n ≡ false → able v t held d s n ≡ able v u held e s n
      no p =
          and_fails_left (has_at d s (target v t held d s) n) p
          ∙ sym (and_fails_left (has_at e s (target v u held e s) n) (sym ((same_candidate v t u held d e s base h made ended) n l) ∙ p))

  -- the holder is the same, and there is one or there is none
  pub short_holder : holder v t held d s ≡ holder v u held e s
  unfolding holder able
  short_holder =
      best_order (able v t held d s) (able v u held e s) (end_at d s) (end_at e s) 32 same_able
      (λ i j k l p q. short_order v base h.older (end_at d s i) (end_at e s i) (end_at d s j) (end_at e s j)
      (h.ends i k (and_left (candidate v held d s i) (has_at d s (target v t held d s) i) p))
      (h.ends j l (and_left (candidate v held d s j) (has_at d s (target v t held d s) j) q)))
