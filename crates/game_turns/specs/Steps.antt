-- The turns step by step, as the code goes.
use Prim.Native.Nat.{ℕ, zero, suc, ◌-◌, ◌*◌, ◌^◌, ◌<◌, ◌≤◌}
use Rattle.std.specs.Prelude.{Bool, true, not, ◌&&◌, List, ◌≡◌, refl}
use Rattle.std.proofs.Math.Bool.{false}
use Rattle.std.proofs.Math.Logic.{⊎_elim}
use Rattle.std.proofs.Common.{sym, ap, ◌∙◌, arith, lt_of_lt_of_le, pow_mono}
use borrow.Author.Tests.{eq-eqb, ne_eqb, lt-ltb}
use Rattle.base_laws.specs.Bools.{and_both, and_fails_left, and_fails_right, or_neither, or-holds, not_of_false, not_of_true, of_not_true}
use Rattle.base_laws.specs.Definitions.{all_below, any_below, lowest, has, without}
use Rattle.base_laws.specs.Below.{all_at, any_at, any_none_of}
use Rattle.base_laws.proofs.Below.{all_fails, lowest_at}
use Rattle.game_rules.specs.declared.Lead.TheVariants.{Taking, Passing}
use Rattle.game_rules.specs.declared.Winner.TheVariants.{Crew, Outage}
use Rattle.game_rules.specs.Definitions.{lead_by}
use Rattle.game_rules.specs.Turns.{absent, outage_turn, crew_turn, saves, survives, wins, first_move, winner_of}
use Rattle.game_turns.specs.Table.{plan_at}

-- a mask of few nodes is a place of the table
pub small : (n h : ℕ) → n ≤ 10 → h < 2 ^ n → h < 1024
small n h few l = lt_of_lt_of_le l (pow_mono few)

module _ (n : ℕ) (t : List ℕ) where
  pred_suc : (k : ℕ) → suc k - 1 ≡ k
  pred_suc k = omega arith

  pub outage_none : (k h : ℕ) → k ≡ 0 → true ≡ outage_turn n (plan_at t) k h
  unfolding outage_turn
  outage_none k h e = rw e

  pub outage_passes : (k h : ℕ) → (k ≡ 0 → ⊥) → h ≡ 0 → crew_turn n (plan_at t) (k - 1) 0 32 ≡ outage_turn n (plan_at t) k h
  unfolding outage_turn
  outage_passes zero h l e = absurd (l refl)
  outage_passes (suc k) h l e = rw (pred_suc k, eq-eqb h 0 e)

  outage_takes : (k h : ℕ) → (k ≡ 0 → ⊥) → (h ≡ 0 → ⊥) → all_below n (survives n (plan_at t) (k - 1) h) ≡ outage_turn n (plan_at t) k h
  unfolding outage_turn
  outage_takes zero h l e = absurd (l refl)
  outage_takes (suc k) h l e = rw (pred_suc k, ne_eqb h 0 e)

  pub outage_lost : (k h o : ℕ) → (k ≡ 0 → ⊥) → (h ≡ 0 → ⊥) → o < n → has h o ≡ true → crew_turn n (plan_at t) (k - 1) (without h o) o ≡ false
      → false ≡ outage_turn n (plan_at t) k h
  outage_lost k h o l e m p q =
      sym (all_fails n (survives n (plan_at t) (k - 1) h) o m (or_neither (not_of_true p) q)) ∙ outage_takes k h l e

  pub outage_kept : (k h : ℕ) → (k ≡ 0 → ⊥) → (h ≡ 0 → ⊥) → all_below n (survives n (plan_at t) (k - 1) h) ≡ true → true ≡ outage_turn n (plan_at t) k h
  outage_kept k h l e p = sym p ∙ outage_takes k h l e

  pub crew_none : (k h taken : ℕ) → k ≡ 0 → true ≡ crew_turn n (plan_at t) k h taken
  unfolding crew_turn
  crew_none k h taken e = rw e

  crew_passes : (k h taken : ℕ) → (k ≡ 0 → ⊥) → any_below n (absent h taken) ≡ false → (plan_at t h && outage_turn n (plan_at t) (k - 1) h) ≡ crew_turn n (plan_at t) k h taken
  unfolding crew_turn
  crew_passes zero h taken l e = absurd (l refl)
  crew_passes (suc k) h taken l e = rw (pred_suc k, e)

  pub crew_fails : (k h taken : ℕ) → (k ≡ 0 → ⊥) → any_below n (absent h taken) ≡ false → plan_at t h ≡ false → false ≡ crew_turn n (plan_at t) k h taken
  crew_fails k h taken l e p = sym (and_fails_left (outage_turn n (plan_at t) (k - 1) h) p) ∙ crew_passes k h taken l e

  pub crew_goes : (k h taken : ℕ) → (k ≡ 0 → ⊥) → any_below n (absent h taken) ≡ false → plan_at t h ≡ true
      → outage_turn n (plan_at t) (k - 1) h ≡ crew_turn n (plan_at t) k h taken
  crew_goes k h taken l e p = ap (λ (b : Bool). b && outage_turn n (plan_at t) (k - 1) h) (sym p) ∙ crew_passes k h taken l e

  crew_brings : (k h taken : ℕ) → (k ≡ 0 → ⊥) → any_below n (absent h taken) ≡ true → any_below n (saves n (plan_at t) (k - 1) h taken) ≡ crew_turn n (plan_at t) k h taken
  unfolding crew_turn
  crew_brings zero h taken l e = absurd (l refl)
  crew_brings (suc k) h taken l e = rw (pred_suc k, e)

  pub crew_saved : (k h taken b : ℕ) → (k ≡ 0 → ⊥) → any_below n (absent h taken) ≡ true → b < n → saves n (plan_at t) (k - 1) h taken b ≡ true
      → true ≡ crew_turn n (plan_at t) k h taken
  crew_saved k h taken b l e m p = sym (any_at n (saves n (plan_at t) (k - 1) h taken) b m p) ∙ crew_brings k h taken l e

  pub crew_lost : (k h taken : ℕ) → (k ≡ 0 → ⊥) → any_below n (absent h taken) ≡ true → any_below n (saves n (plan_at t) (k - 1) h taken) ≡ false
      → false ≡ crew_turn n (plan_at t) k h taken
  crew_lost k h taken l e p = sym p ∙ crew_brings k h taken l e

  -- ---- who wins

  pub won_crew : (r h : ℕ) → true ≡ outage_turn n (plan_at t) (2 * r) h → Crew ≡ winner_of n (plan_at t) r h
  unfolding winner_of
  won_crew r h e = rw (sym e)

  pub won_passing : (r h : ℕ) → h ≡ 0 → false ≡ outage_turn n (plan_at t) (2 * r) h → Outage Passing ≡ winner_of n (plan_at t) r h
  unfolding winner_of first_move lead_by
  won_passing r h z e = rw (sym e, eq-eqb h 0 z)

  -- a move that the crew survives does not win
  survived : (k h o : ℕ) → survives n (plan_at t) k h o ≡ true → wins n (plan_at t) k h o ≡ false
  unfolding wins
  survived k h o e =
      ⊎_elim (λ z. and_fails_left (not (crew_turn n (plan_at t) k (without h o) o)) (of_not_true (has h o) z))
      (λ z. and_fails_right (has h o) (not_of_true z)) (or-holds (not (has h o)) (crew_turn n (plan_at t) k (without h o) o) e)

  pub won_taking : (r h o : ℕ) → n ≤ 10 → (h ≡ 0 → ⊥) → o < n → all_below o (survives n (plan_at t) (2 * r - 1) h) ≡ true → has h o ≡ true
      → crew_turn n (plan_at t) (2 * r - 1) (without h o) o ≡ false → false ≡ outage_turn n (plan_at t) (2 * r) h
      → Outage (Taking (record { 0 = o })) ≡ winner_of n (plan_at t) r h
  unfolding winner_of first_move wins lead_by
  won_taking r h o few z l before p q e =
      let k = 2 * r - 1 in
      let none : any_below o (wins n (plan_at t) k h) ≡ false = any_none_of o _ (λ j m. survived k h j (all_at o _ before j m)) in
      let first : lowest n (wins n (plan_at t) k h) ≡ o = lowest_at n (wins n (plan_at t) k h) o l none (and_both p (not_of_false q)) in
      rw (sym e, ne_eqb h 0 z, first, lt-ltb o 32 (omega (arith, l, few)))
