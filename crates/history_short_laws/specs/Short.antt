-- Reports that leave out what all members of a shard have in common from before the kept view, the base: holders are the same, and a target
-- of the base's end is (0, 0).
use Rattle.std.specs.Prelude.{ℕ, ◌<◌, Bool, not, ◌&&◌, ◌||◌, List, ◌⊎◌, ◌≡◌}
use Rattle.std.proofs.Math.Bool.{true, false}
use Rattle.std.proofs.Math.Logic.{⊎_elim}
use Rattle.std.proofs.Math.Path.{refl, sym, ap}
use Rattle.std.proofs.Math.Dec.{eqb}
use Rattle.base_laws.specs.Bools.{either}
use Rattle.base_laws.specs.Definitions.{has}
use Rattle.base_ids.specs.declared.Position.{Position}
use Rattle.base_ids.specs.Definitions.{not_after}
use Rattle.base_ids.specs.Order.{order_trans}
use Rattle.report_views.specs.declared.Layout.{Layout}
use Rattle.report_views.specs.declared.Termination.{Termination}
use Rattle.report_views.specs.Definitions.{start, end_at, mask_at, position_at, candidate}
use Rattle.report_views.specs.Shorthands.{has_at, view_of}

-- q stands for p in a short report: (0, 0) for the base's end, and an update of the kept view for itself
pub record Shorter (v : Layout) (base p q : Position) : Type 0 where
  pub told : ((p ≡ base) × (q ≡ start)) ⊎ ((p.view.0 ≡ v.number.0) × (q ≡ p))

-- in the desk e the candidates of shard s say the same as in the desk d but for the base, which all have
pub record Shortened (v : Layout) (held : ℕ) (d e : List ℕ) (s : ℕ) (base : Position) : Type 0 where
  pub older : base.view.0 < v.number.0
  pub views : (n : ℕ) → n < 32 → has held n ≡ true → view_of e n ≡ view_of d n
  pub ends : (n : ℕ) → n < 32 → candidate v held d s n ≡ true → Shorter v base (end_at d s n) (end_at e s n)
  pub common : (n : ℕ) → n < 32 → candidate v held d s n ≡ true → has_at d s base n ≡ true
  pub updates : (n : ℕ) → n < 32 → candidate v held d s n ≡ true → (q : Position) → q.view.0 ≡ v.number.0 → has_at e s q n ≡ has_at d s q n

-- t is kept with the desk d, u with the short one
module _ (v : Layout) (t u : Termination) (held : ℕ) (d e : List ℕ) (s : ℕ) (base : Position) (h : Shortened v held d e s base)
    (made : u.made ≡ t.made) (ended : t.made ≡ true → Shorter v base (position_at t s) (position_at u s)) where
  pub same_candidate : (n : ℕ) → n < 32 → candidate v held d s n ≡ candidate v held e s n
  unfolding candidate
  same_candidate n l =
      ⊎_elim (λ p. ap (λ (x : ℕ). has held n && has (mask_at v s) n && eqb x v.number.0) (sym (h.views n l p))) (λ p. rw p) (either (has held n))

-- a machine that keeps its log up to c, where it agrees with the holder so far, and fetches the rest up to the target, has the holder's log up to
-- the target
pub kept_to_base : (mine hold : Position → Bool) (c t q : Position) → ((p : Position) → not_after p c ≡ true → mine p ≡ hold p) → not_after c t ≡ true
    → (not_after q c && mine q || (not (not_after q c) && (not_after q t && hold q))) ≡ (not_after q t && hold q)
kept_to_base mine hold c t q agree l = by (not_after q c) refl
  where
    by : (b : Bool) → not_after q c ≡ b → (not_after q c && mine q || (not (not_after q c) && (not_after q t && hold q))) ≡ (not_after q t && hold q)
    by true e = rw (e, agree q e, order_trans q c t e l) (or_no (hold q))
      where
        or_no : (x : Bool) → (x || false) ≡ x
        or_no true = refl
        or_no false = refl
    by false e = rw e refl
