-- Loops over the numbers below a bound that count, test each, stop at the first that fails, or change a value:
-- a turn, and the end.
use Rattle.std.specs.Prelude.{◌≡◌, Bool, cond, not}
use Rattle.std.proofs.Math.Path.{refl, ap}
use Rattle.std.proofs.Common.{sym, ◌∙◌, le_antisymm, add-one, arith}
use Prim.Native.Nat.{ℕ, zero, suc, ◌+◌, ◌≤◌, ◌<◌}
use Rattle.base_laws.specs.Definitions.{all_below, any_below, count_below, lowest}
use Rattle.base_laws.specs.Below.{count_step}

pub count_turn : (n total r : ℕ) (f : ℕ → Bool) → total ≡ count_below n f → r ≡ cond (f n) 1 0 → total + r ≡ count_below (n + 1) f
count_turn n total r f e d = omega (arith, count_step n f)

module _ {n m : ℕ} (l : n ≤ m) (g : m ≤ n) where
  pub count_done : (total : ℕ) (f : ℕ → Bool) → total ≡ count_below n f → total ≡ count_below m f
  count_done total f e = e ∙ ap (λ (k : ℕ). count_below k f) (le_antisymm l g)

  pub all_done : (b : Bool) (f : ℕ → Bool) → all_below n f ≡ b → all_below m f ≡ b
  all_done b f e = ap (λ (k : ℕ). all_below k f) (le_antisymm g l) ∙ e

  pub any_done : (b : Bool) (f : ℕ → Bool) → any_below n f ≡ b → any_below m f ≡ b
  any_done b f e = ap (λ (k : ℕ). any_below k f) (le_antisymm g l) ∙ e

-- ---- the first number below a bound of which a test fails, or the bound where there is none

abbrev pub first_bad : ℕ → (ℕ → Bool) → ℕ
first_bad n f = lowest n (λ k. not (f k))

-- ---- a value changed turn by turn

-- what n turns make of x, where turn s makes g s x of x
unfoldable pub turns : {A : Type 0} → ℕ → (ℕ → A → A) → A → A
turns zero g x = x
turns (suc n) g x = g n (turns n g x)

module _ {A : Type 0} where
  pub turns_none : (g : ℕ → A → A) (x : A) → turns 0 g x ≡ x
  unfolding turns
  turns_none g x = refl

  pub turns_more : (n : ℕ) (g : ℕ → A → A) (x : A) → turns (n + 1) g x ≡ g n (turns n g x)
  unfolding turns
  turns_more n g x = ap (λ (k : ℕ). turns k g x) (add-one n)

  -- one turn more, and the end
  pub turned : (s : ℕ) (g : ℕ → A → A) (x₀ x y : A) → x ≡ turns s g x₀ → y ≡ g s x → y ≡ turns (s + 1) g x₀
  turned s g x₀ x y e d = d ∙ ap (g s) e ∙ sym (turns_more s g x₀)

  pub turned_all : (s n : ℕ) (g : ℕ → A → A) (x₀ x : A) → s ≤ n → n ≤ s → x ≡ turns s g x₀ → x ≡ turns n g x₀
  turned_all s n g x₀ x a b e = e ∙ ap (λ (k : ℕ). turns k g x₀) (le_antisymm a b)

  -- what holds of the value before turn s, of all turns below n
  pub turns_hold : (P : ℕ → A) (g : ℕ → A → A) (n : ℕ) → ((s : ℕ) → s < n → g s (P s) ≡ P (suc s)) → turns n g (P 0) ≡ P n
  unfolding turns
  turns_hold P g zero h = refl
  turns_hold P g (suc n) h = ap (g n) (turns_hold P g n (λ s l. h s (omega arith))) ∙ h n (omega arith)
