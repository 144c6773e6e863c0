-- The case of subgroup g by tables: sets by node, needs and caps by shard, costs of shard s and node n at s * 32 + n.
use Rattle.std.specs.Prelude.{◌≡◌, refl, false, List, ℕ, ◌+◌, ◌*◌, ◌/◌, ◌%◌, ◌<◌, get_or, replicate}
use Rattle.std.proofs.Common.{sym, ◌∙◌, subst, ⊎_elim}
use native.Mathlib.Omega.{arith}
use Rattle.std.proofs.lemmas.List.{length-replicate, get_or-replicate}
use Rattle.base_laws.specs.Bools.{lt_or_le}
use Rattle.base_laws.specs.Tables.{filled, get_d_tabulate, length_filled, get_or_filled, get_or_filled_rest}
use Rattle.base_laws.proofs.Tables.{filled_ext}
use Rattle.settings_values.specs.Definitions.{Settings}
use Rattle.search_laws.specs.Ranks.{Priced}
use Rattle.place_groups.specs.Definitions.{of_group}
use Rattle.place_laws.specs.Cases.{set_in, need_in, cap_in, move_cost, price_in, cost_in, CaseFor, price_most, cost_out, cost_allowed}
use Rattle.place_laws.proofs.Cases.{cost_price, cost_low}
use Rattle.place_laws.specs.Tables.{group_case, costs_below, cost_at}

-- a shard of another subgroup has no other costs
pub costs_skip : (σ : List ℕ) (held : ℕ) (old : ℕ → ℕ) (g s : ℕ) → s < 16 → of_group σ g s ≡ false
    → costs_below σ held old g (s * 32) ≡ costs_below σ held old g (s * 32 + 32)
costs_skip σ held old g s l o =
    filled_ext 0 (s * 32 + 32) f (replicate 512 255) (filled (s * 32) f (replicate 512 255)) (omega (arith, length-replicate {A = ℕ} 512 255))
    (length_filled (s * 32) f (replicate 512 255) (omega (arith, length-replicate {A = ℕ} 512 255))) low
    (λ k p. get_or_filled_rest (s * 32) f (replicate 512 255) k 0 (omega arith))
  where
    f : ℕ → ℕ
    f k = cost_in σ held old g (k / 32) (k % 32)

    low : (k : ℕ) → k < s * 32 + 32 → get_or (filled (s * 32) f (replicate 512 255)) k 0 ≡ f k
    low k p =
        ⊎_elim (λ q. get_or_filled (s * 32) f (replicate 512 255) k 0 q)
        (λ q.
        let d : s ≡ k / 32 = omega arith in
        get_or_filled_rest (s * 32) f (replicate 512 255) k 0 q
        ∙ (get_or-replicate 512 k 255 0 (omega arith) ∙ sym (cost_out σ held old g (k / 32) (k % 32) (subst (λ (i : ℕ). of_group σ g i ≡ false) d o))))
        (lt_or_le k (s * 32))

module _ (σ : List ℕ) (held : ℕ) (old : ℕ → ℕ) (g : ℕ) where
  pub case_for : Settings σ → CaseFor σ held g (group_case σ held old g)
  case_for right =
      record {
        sets = λ n l. get_d_tabulate 32 (set_in σ) n 0 l;
        needs = λ s l. get_d_tabulate 16 (need_in σ g) s 0 l;
        caps = λ s l. get_d_tabulate 16 (cap_in σ g) s 0 l;
        allowed = λ s n l k h. cost_allowed σ held old g s n (subst (λ (c : ℕ). c < 255) ((cost_at σ held old g) s n l k) h);
        allows = λ s n l k h. subst (λ (c : ℕ). c < 255) (sym ((cost_at σ held old g) s n l k)) (cost_low σ held old g s n right h);
      }

  -- its costs are prices times the cost of a move
  pub case_priced : Priced (group_case σ held old g) (move_cost σ g) (price_in old)
  case_priced =
      record {
        idle = refl;
        low = λ s n l k h. price_most old s n;
        cost = λ s n l k h. (cost_at σ held old g) s n l k ∙ cost_price σ held old g s n (cost_allowed σ held old g s n (subst (λ (c : ℕ). c < 255) ((cost_at σ held old g) s n l k) h));
      }
