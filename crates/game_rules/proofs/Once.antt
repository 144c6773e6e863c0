-- The game has one answer: never both sides, and one lowest first move. So a rule of play exists exactly for the side that is answered.
use Rattle.std.specs.Prelude.{ℕ, ◌≡◌, refl}
use Rattle.std.proofs.Common.{⊎_elim, sym, ap, ◌∙◌, arith}
use Rattle.base_laws.specs.Bools.{lt_or_le}
use Rattle.game_rules.specs.declared.Lead.{Lead}
use Rattle.game_rules.specs.declared.Winner.{Winner}
use Rattle.game_rules.specs.declared.Winner.TheVariants.{Crew, Outage}
use Rattle.game_rules.specs.Definitions.{lead_by, OutageAnswer, WonBy}
use Rattle.game_rules.proofs.Game.{not_both}
use Rattle.game_rules.specs.Once.{NoOther}

module _ (n : ℕ) (ok : ℕ → Type 0) (k h : ℕ) where
  first_unique : (o m : ℕ) → OutageAnswer n ok k h o → OutageAnswer n ok k h m → o ≡ m
  first_unique o m a b =
      ⊎_elim (λ l. absurd (b.lowest_one o l a.forces))
      (λ l. ⊎_elim (λ g. absurd (a.lowest_one m g b.forces)) (λ g. omega (arith, l, g)) (lt_or_le m o)) (lt_or_le o m)

  -- one answer
  pub won_unique : (v w : Winner) → WonBy n ok k h v → WonBy n ok k h w → v ≡ w
  won_unique Crew Crew a b = refl
  won_unique Crew (Outage f) a b = absurd (not_both n ok k h b.0 a b.2.forces)
  won_unique (Outage e) Crew a b = absurd (not_both n ok k h a.0 b a.2.forces)
  won_unique (Outage e) (Outage f) a b =
      ap Outage (a.1 ∙ ap lead_by (first_unique a.0 b.0 a.2 b.2) ∙ sym b.1)

  crew_outage : (f : Lead) → Crew ≡ Outage f → ⊥
  crew_outage f e = let z : ◌≡◌ {A = ℕ} 0 1 = cc in omega arith

  pub no_other : (w : Winner) → WonBy n ok k h w → (NoOther n ok k h) w
  no_other Crew a = record { outage_none = λ e o. not_both n ok k h o a; crew_none = λ f e. absurd (crew_outage f e) }
  no_other (Outage g) a =
      record { outage_none = λ e. absurd (crew_outage g (sym e)); crew_none = λ f e c. not_both n ok k h a.0 c a.2.forces }
