-- Never both sides can force the win.
use Prim.Native.Nat.{ℕ, zero, suc}
use Rattle.std.proofs.Math.Logic.{⊎_elim}
use Rattle.game_rules.specs.Definitions.{CrewRule, after_turns, CrewHolds, OutageRule, Beats}

module _ (n : ℕ) (ok : ℕ → Type 0) where
  -- no rule wins against a rule that wins
  pub rules_clash : (k h : ℕ) (s : CrewRule k) (t : OutageRule k) → CrewHolds n ok k s h → Beats n ok k t h → ⊥
  unfolding CrewRule OutageRule CrewHolds Beats
  rules_clash zero h s t p q = q
  rules_clash (suc k) h s t p q =
      let o = t.0 in
      let b = (s o).0 in
      let r = p o q.0 in
      ⊎_elim (λ no. no r.1) (λ more. rules_clash k (after_turns h o b) (s o).1 (t.1 b) r.2 more) (q.1 b r.0)
