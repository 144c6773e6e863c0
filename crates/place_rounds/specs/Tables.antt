-- A subgroup's case for the rounds: its tables, with what a move costs replaced by w, and nothing for a node that is placed nowhere.
use Rattle.std.specs.Prelude.{◌≡◌, refl, Bool, true, false, cond, ◌&&◌, ℕ, ◌+◌, ◌*◌, ◌^◌, ◌≤◌, ◌<◌, eqb, get_or}
use Rattle.std.proofs.Math.Path.{sym}
use Rattle.std.proofs.Common.{ap, ◌∙◌, subst, arith}
use mathlib.Core.List.{List, []}
use borrow.Author.Tests.{eq-eqb, ne_eqb}
use Rattle.base_laws.specs.Definitions.{has, tabulate}
use Rattle.base_laws.specs.Tables.{get_d_tabulate}
use Rattle.settings_values.specs.Definitions.{nodes, Settings}
use Rattle.search_laws.specs.Case.{Case}
use Rattle.search_laws.specs.Tables.{case_of}
use Rattle.search_laws.specs.Floor.{floor_of, lack_at}
use Rattle.place_groups.specs.Sheet.{sheet_of}
use Rattle.place_groups.specs.Definitions.{of_group}
use Rattle.place_laws.specs.Cases.{move_cost, price_in, cost_in, CaseFor, move_least}
use Rattle.place_laws.proofs.Cases.{move_most}
use Rattle.place_laws.specs.Tables.{sets_table, needs_table, caps_table, costs_table, cost_at}
use Rattle.place_laws.proofs.Tables.{case_for}
use Rattle.place_laws.specs.Floor.{group_floor}
use Rattle.place_laws.proofs.Floor.{floor_is}
use Rattle.place_rounds.specs.Owners.{CountsMoves}

-- a cost of decide's table where a move costs w: a stay remains 0, and what is not allowed 255
unfoldable pub repriced : ℕ → ℕ → ℕ
repriced w c = cond (eqb c 0) 0 (cond (eqb c 255) 255 w)

-- decide's table where a move costs w
unfoldable pub repriced_table : ℕ → List ℕ → List ℕ
repriced_table w costs = tabulate 512 (λ t. repriced w (get_or costs t 0))

-- the case of subgroup g where a move costs w
abbrev pub round_case : List ℕ → ℕ → (ℕ → ℕ) → ℕ → ℕ → Case
round_case σ held old g w = case_of (sets_table σ) (needs_table σ g) (caps_table σ g) (repriced_table w (costs_table σ held old g)) 0

-- by two tests, as a program makes them
module _ (w c : ℕ) where
  pub repriced_stay : c ≡ 0 → 0 ≡ repriced w c
  unfolding repriced
  repriced_stay e = sym (rw (eq-eqb c 0 e))

  pub repriced_shut : (c ≡ 0 → ⊥) → c ≡ 255 → 255 ≡ repriced w c
  unfolding repriced
  repriced_shut n e = sym (rw (ne_eqb c 0 n, eq-eqb c 255 e))

  pub repriced_move : (c ≡ 0 → ⊥) → (c ≡ 255 → ⊥) → w ≡ repriced w c
  unfolding repriced
  repriced_move n m = sym (rw (ne_eqb c 0 n, ne_eqb c 255 m))

-- what the entries of the two tables are
repriced_cost : (a b : Bool) (w m : ℕ) → 1 ≤ m → m ≤ 241 → repriced w (cond a (cond b 0 m) 255) ≡ cond a (cond b 0 w) 255
unfolding repriced
repriced_cost true true w m l u = refl
repriced_cost true false w m l u = simp (ne_eqb m 0 (λ e. omega arith), ne_eqb m 255 (λ e. omega arith))
repriced_cost false b w m l u = refl

module _ (σ : List ℕ) (held : ℕ) (old : ℕ → ℕ) (g w : ℕ) (right : Settings σ) where
  -- of a shard of subgroup g and a held node: 0 a stay, w a move; of any other pair 255
  pub round_cost : (s n : ℕ) → s < 16 → n < 32 → (round_case σ held old g w).cost s n ≡ cond (of_group σ g s && has held n) (cond (has (old s) n) 0 w) 255
  unfolding repriced_table cost_in
  round_cost s n l k =
      get_d_tabulate 512 (λ t. repriced w (get_or (costs_table σ held old g) t 0)) (s * 32 + n) 0 (omega arith)
      ∙ (ap (repriced w) (cost_at σ held old g s n l k)
      ∙ repriced_cost (of_group σ g s && has held n) (has (old s) n) w (move_cost σ g) (move_least σ g) (move_most σ g right))

  pub round-case : w < 255 → CaseFor σ held g (round_case σ held old g w)
  round-case small =
      let c = case_for σ held old g right in
      record {
        sets = c.sets;
        needs = c.needs;
        caps = c.caps;
        allowed = λ s n l k h. told (of_group σ g s && has held n) (has (old s) n) (subst (λ (c : ℕ). c < 255) (round_cost s n l k) h);
        allows = λ s n l k h. subst (λ (c : ℕ). c < 255) (sym (round_cost s n l k ∙ ap (λ (b : Bool). cond b (cond (has (old s) n) 0 w) 255) h)) (low (has (old s) n));
      }
    where
      told : (a b : Bool) → cond a (cond b 0 w) 255 < 255 → a ≡ true
      told true b h = refl
      told false b h = absurd (omega arith)

      low : (b : Bool) → cond b 0 w < 255
      low true = omega arith
      low false = small

  -- the price of a pair that is allowed
  round_price : (s n : ℕ) → s < 16 → n < 32 → (round_case σ held old g w).cost s n < 255 → (round_case σ held old g w).cost s n ≡ cond (has (old s) n) 0 w
  round_price s n l k h = round_cost s n l k ∙ by (of_group σ g s && has held n) (subst (λ (c : ℕ). c < 255) (round_cost s n l k) h)
    where
      by : (a : Bool) → cond a (cond (has (old s) n) 0 w) 255 < 255 → cond a (cond (has (old s) n) 0 w) 255 ≡ cond (has (old s) n) 0 w
      by true i = refl
      by false i = absurd (omega arith)

module _ (σ : List ℕ) (held : ℕ) (old : ℕ → ℕ) (g : ℕ) (right : Settings σ) where
  -- where a move costs 1 the weight counts the moves
  pub counts_moves : CountsMoves (round_case σ held old g 1) (price_in old)
  unfolding price_in
  counts_moves = record { idle = refl; cost = λ s n l k h. round_price σ held old g 1 right s n l k h }

  -- where it costs nothing every placement weighs 0
  pub counts_nothing : CountsMoves (round_case σ held old g 0) (λ i n. 0)
  counts_nothing = record { idle = refl; cost = λ s n l k h. round_price σ held old g 0 right s n l k h ∙ zero_both (has (old s) n) }
    where
      zero_both : (b : Bool) → ◌≡◌ {A = ℕ} (cond b 0 0) 0
      zero_both true = refl
      zero_both false = refl

  -- the sheet's floor, from the needs alone
  pub floor_told : held < 2 ^ nodes σ → (needs : List ℕ) (sheet : List (List ℕ)) (floor : ℕ) → needs ≡ needs_table σ g → sheet ≡ sheet_of σ held old
      → floor ≡ floor_of (case_of [] needs [] [] 0) sheet → floor ≡ group_floor σ held old g
  unfolding floor_of lack_at
  floor_told inside needs sheet floor p q e = e ∙ ((λ i. floor_of (case_of [] (p i) [] [] 0) (q i)) ∙ floor_is σ held old g right inside)
