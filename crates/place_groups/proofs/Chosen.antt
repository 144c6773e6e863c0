-- Laws of the choice among placements of least moves.
use Rattle.std.specs.Prelude.{ℕ, Bool, true, ◌≡◌}
use Rattle.std.proofs.Common.{arith, inl, inr, ⊎_elim, sym, subst}
use Rattle.base_laws.specs.Bools.{lt_or_le}
use Rattle.base_sum_laws.specs.Definitions.{list_before}
use Rattle.base_sum_laws.specs.Lists.{before_both}
use Rattle.place_groups.specs.Definitions.{nodes_in, SameNodes, Sooner, NotLater}
use Rattle.place_groups.specs.Chosen.{same_back, sooner_parts}

module _ {of : ℕ → Bool} {a b : ℕ → ℕ} where
  -- not both come before the other
  sooner_both : Sooner of a b → Sooner of b a → ⊥
  sooner_both f h =
      ⊎_elim (λ l. sooner_parts f (sym (h.alike f.shard l f.picked)))
      (λ l.
      ⊎_elim (λ k. sooner_parts h (sym (f.alike h.shard k h.picked)))
      (λ k.
      let e : h.shard ≡ f.shard = omega arith in
      before_both (nodes_in (a f.shard)) (nodes_in (b f.shard)) f.smaller
      (subst (λ (s : ℕ). list_before (nodes_in (b s)) (nodes_in (a s)) ≡ true) e h.smaller))
      (lt_or_le h.shard f.shard))
      (lt_or_le f.shard h.shard)

  pub not_later_both : NotLater of a b → NotLater of b a → SameNodes of a b
  not_later_both (inl e) y = e
  not_later_both (inr f) (inl e) = same_back e
  not_later_both (inr f) (inr h) = absurd (sooner_both f h)
