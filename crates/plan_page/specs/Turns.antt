-- What is shown of one shard, by the tests that the code makes.
use Rattle.std.specs.Prelude.{ℕ, zero, suc, ◌+◌, ◌<◌, Bool, true, false, cond, not, List, ◌≡◌, refl, eqb}
use Rattle.std.proofs.Common.{sym, ap, ◌∙◌, subst, arith}
use Rattle.base_laws.specs.Definitions.{with}
use Rattle.base_sum_laws.specs.Definitions.{mask_below}
use Rattle.base_sum_laws.specs.Picked.{mask_turn}
use Rattle.base_ids.specs.declared.Position.{Position}
use Rattle.place_groups.specs.Definitions.{of_group}
use Rattle.place_layout.specs.declared.Offer.{Offer}
use Rattle.report_views.specs.declared.Layout.{Layout}
use Rattle.report_views.specs.declared.Plan.{Plan}
use Rattle.report_views.specs.declared.Phase.{Phase}
use Rattle.report_views.specs.Definitions.{start}
use Rattle.plan_page.specs.Definitions.{shown, holder_shown, target_shown, mask_shown, PlacedAs}

-- masks of the same members
pub mask_cong : (n : ℕ) (f g : ℕ → Bool) → ((k : ℕ) → k < n → f k ≡ g k) → mask_below n f ≡ mask_below n g
unfolding mask_below
mask_cong zero f g h = refl
mask_cong (suc n) f g h = rw (h n (omega arith), mask_cong n f g (λ k l. h k (omega arith)))

-- a turn of a loop that makes a mask
pub mask_grown : (n m r : ℕ) (f : ℕ → Bool) (b : Bool) → m ≡ mask_below n f → r ≡ cond b (with m n) m → b ≡ f n → r ≡ mask_below (n + 1) f
mask_grown n m r f b e d h = mask_turn n m r f e (d ∙ ap (λ (x : Bool). cond x (with m n) m) h)

module _ (σ : List ℕ) (g s : ℕ) where
  module _ (n : ℕ) where
    pub other_shard : of_group σ g s ≡ false → false ≡ shown σ g (λ _. n) s
    unfolding shown
    other_shard o = rw o

    pub own_shard : of_group σ g s ≡ true → not (eqb n 32) ≡ shown σ g (λ _. n) s
    unfolding shown
    own_shard o = rw o

    pub holder_kept : shown σ g (λ _. n) s ≡ true → record { 0 = n } ≡ holder_shown σ g (λ _. n) s
    unfolding holder_shown
    holder_kept h = rw h

    pub holder_hidden : shown σ g (λ _. n) s ≡ false → record { 0 = 0 } ≡ holder_shown σ g (λ _. n) s
    unfolding holder_shown
    holder_hidden h = rw h

    pub target_kept : (p : Position) → shown σ g (λ _. n) s ≡ true → p ≡ target_shown σ g (λ _. n) (λ _. p) s
    unfolding target_shown
    target_kept p h = rw h

    pub target_hidden : (p : Position) → shown σ g (λ _. n) s ≡ false → start ≡ target_shown σ g (λ _. n) (λ _. p) s
    unfolding target_shown
    target_hidden p h = rw h

  pub mask_kept : (m : ℕ) → of_group σ g s ≡ true → m ≡ mask_shown σ g (λ _. m) s
  unfolding mask_shown
  mask_kept m o = rw o

  pub mask_hidden : (m : ℕ) → of_group σ g s ≡ false → 0 ≡ mask_shown σ g (λ _. m) s
  unfolding mask_shown
  mask_hidden m o = rw o

-- the placement, once the phase is known
pub placed_in : (a b : Phase) (σ : List ℕ) (v : Layout) (held : ℕ) (pl : Plan) (g : ℕ) (p : Offer) → a ≡ b → PlacedAs b σ v held pl g p
    → PlacedAs a σ v held pl g p
placed_in a b σ v held pl g p e w = subst (λ (q : Phase). PlacedAs q σ v held pl g p) (sym e) w
