-- The case of subgroup g by tables: sets by node, needs and caps by shard, costs of shard s and node n at s * 32 + n.
use Rattle.std.specs.Prelude.{◌≡◌, List, ℕ, ◌+◌, ◌*◌, ◌-◌, ◌/◌, ◌%◌, ◌<◌, set, replicate}
use Rattle.std.proofs.Common.{ap, ◌∙◌}
use Rattle.std.proofs.Math.Path.{ap₂}
use native.Mathlib.Omega.{arith}
use Rattle.base_laws.specs.Definitions.{tabulate}
use Rattle.base_laws.specs.Tables.{filled, get_d_tabulate}
use Rattle.base_laws.proofs.Tables.{fill_turn}
use Rattle.base_sum_laws.specs.Sums.{sum_cong}
use Rattle.search_laws.specs.Case.{Case}
use Rattle.search_laws.specs.Ranks.{spare}
use Rattle.search_laws.specs.Tables.{case_of}
use Rattle.place_laws.specs.Cases.{set_in, need_in, cap_in, move_cost, cost_in}

abbrev pub sets_table : List ℕ → List ℕ
sets_table σ = tabulate 32 (set_in σ)

abbrev pub needs_table : List ℕ → ℕ → List ℕ
needs_table σ g = tabulate 16 (need_in σ g)

abbrev pub caps_table : List ℕ → ℕ → List ℕ
caps_table σ g = tabulate 16 (cap_in σ g)

abbrev pub costs_table : List ℕ → ℕ → (ℕ → ℕ) → ℕ → List ℕ
costs_table σ held old g = tabulate 512 (λ t. cost_in σ held old g (t / 32) (t % 32))

-- a node that is placed nowhere costs 1
abbrev pub group_case : List ℕ → ℕ → (ℕ → ℕ) → ℕ → Case
group_case σ held old g = case_of (sets_table σ) (needs_table σ g) (caps_table σ g) (costs_table σ held old g) 1

-- the costs of the pairs below t, and 255 from there on
abbrev pub costs_below : List ℕ → ℕ → (ℕ → ℕ) → ℕ → ℕ → List ℕ
costs_below σ held old g t = filled t (λ k. cost_in σ held old g (k / 32) (k % 32)) (replicate 512 255)

-- one cost more of shard s
pub costs_turn : (σ : List ℕ) (held : ℕ) (old : ℕ → ℕ) (g s n : ℕ) (m : List ℕ) (w : ℕ) → s < 16 → n < 32
    → m ≡ costs_below σ held old g (s * 32 + n) → w ≡ cost_in σ held old g s n → set m (s * 32 + n) w ≡ costs_below σ held old g (s * 32 + (n + 1))
costs_turn σ held old g s n m w l k e d =
    let a : s ≡ (s * 32 + n) / 32 = omega arith in
    let b : n ≡ (s * 32 + n) % 32 = omega arith in
    let i : s * 32 + n + 1 ≡ s * 32 + (n + 1) = omega arith in
    fill_turn 512 255 (λ j. cost_in σ held old g (j / 32) (j % 32)) (s * 32 + n) m w (omega arith) e (d ∙ ap₂ (cost_in σ held old g) a b)
    ∙ ap (costs_below σ held old g) i

module _ (σ : List ℕ) (held : ℕ) (old : ℕ → ℕ) (g : ℕ) where
  pub cost_at : (s n : ℕ) → s < 16 → n < 32 → (group_case σ held old g).cost s n ≡ cost_in σ held old g s n
  cost_at s n l k =
      get_d_tabulate 512 (λ t. cost_in σ held old g (t / 32) (t % 32)) (s * 32 + n) 0 (omega arith)
      ∙ ap₂ (cost_in σ held old g) (omega arith) (omega arith)

  -- and a move costs more than the nodes that the caps leave over the needs
  pub case_spare : spare (group_case σ held old g) < move_cost σ g
  unfolding spare move_cost
  case_spare =
      omega (
        arith,
        sum_cong 16 (λ s. (group_case σ held old g).cap s - (group_case σ held old g).need s) (λ s. cap_in σ g s - need_in σ g s)
            (λ s l. ap₂ (λ (a b : ℕ). a - b) (get_d_tabulate 16 (cap_in σ g) s 0 l) (get_d_tabulate 16 (need_in σ g) s 0 l)),
      )
