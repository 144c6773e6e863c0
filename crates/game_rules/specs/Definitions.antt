-- The game of outage and crew over nodes 0 to n - 1. ok h: with the mask h of held nodes decide would give a plan. A side can force the win
-- if a rule of play exists that wins against every play of the other.
use Prim.Native.Nat.{ℕ, zero, suc, ◌<◌}
use Rattle.std.specs.Prelude.{true, false, cond, ◌⊎◌, ◌≡◌, ltb}
use Rattle.base_laws.specs.Definitions.{has, with, without}
use Rattle.game_rules.specs.declared.Lead.{Lead}
use Rattle.game_rules.specs.declared.Lead.TheVariants.{Taking, Passing}
use Rattle.game_rules.specs.declared.Winner.{Winner}
use Rattle.game_rules.specs.declared.Winner.TheVariants.{Crew, Outage}

-- the outage takes one held node down; with none held it passes (32)
abbrev pub OutageMay : ℕ → ℕ → Type 0
OutageMay h o = (has h o ≡ true) ⊎ ((o ≡ 32) × (h ≡ 0))

-- an absent node that the crew may bring back: not the one just taken
pub record Returnable (n h taken b : ℕ) : Type 0 where
  pub node : b < n
  pub down : has h b ≡ false
  pub other : b ≡ taken → ⊥

-- the crew brings back an absent node other than the one just taken; with none it passes (32)
abbrev pub CrewMay : ℕ → ℕ → ℕ → ℕ → Type 0
CrewMay n h taken b = Returnable n h taken b ⊎ ((b ≡ 32) × ((m : ℕ) → Returnable n h taken m → ⊥))

-- the held nodes after both turns of a round: o is taken down and b brought back
unfoldable pub after_turns : ℕ → ℕ → ℕ → ℕ
after_turns h o b = cond (ltb b 32) (with (without h o) b) (without h o)

-- a rule of the crew for k rounds: to each move of the outage a reply, and a rule for what follows
unfoldable pub CrewRule : ℕ → Type 0
CrewRule zero = Unit {0}
CrewRule (suc k) = ℕ → ℕ × CrewRule k

-- a rule of the outage for k rounds: a move, and to each reply a rule for what follows
unfoldable pub OutageRule : ℕ → Type 0
OutageRule zero = Unit {0}
OutageRule (suc k) = ℕ × (ℕ → OutageRule k)

-- the first move as an answer
unfoldable pub lead_by : ℕ → Lead
lead_by o = cond (ltb o 32) (Taking (record { 0 = o })) Passing

module _ (n : ℕ) (ok : ℕ → Type 0) where
  -- whatever the outage does, the rule's replies are allowed and decide gives a plan after each
  unfoldable pub CrewHolds : (k : ℕ) → CrewRule k → ℕ → Type 0
  unfolding CrewRule
  CrewHolds zero s h = Unit {0}
  CrewHolds (suc k) s h =
      (o : ℕ) → OutageMay h o
      → CrewMay n (without h o) o (s o).0 × ok (after_turns h o (s o).0) × CrewHolds k (s o).1 (after_turns h o (s o).0)

  -- the rule's moves are allowed, and whatever the crew replies, after some reply decide gives no plan
  unfoldable pub Beats : (k : ℕ) → OutageRule k → ℕ → Type 0
  unfolding OutageRule
  Beats zero s h = ⊥
  Beats (suc k) s h =
      OutageMay h s.0
      × ((b : ℕ) → CrewMay n (without h s.0) s.0 b
      → (ok (after_turns h s.0 b) → ⊥) ⊎ Beats k (s.1 b) (after_turns h s.0 b))

  -- the crew can force the win
  pub record CrewWins (k h : ℕ) : Type 0 where
    pub rule : CrewRule k
    pub holds : CrewHolds k rule h

  -- the rule's first move is o
  unfoldable pub Starts : (k : ℕ) → OutageRule k → ℕ → Type 0
  unfolding OutageRule
  Starts zero s o = ⊥
  Starts (suc k) s o = s.0 ≡ o

  -- the outage can force the win by the first move o
  pub record OutageWins (k h o : ℕ) : Type 0 where
    pub rule : OutageRule k
    pub starts : Starts k rule o
    pub beats : Beats k rule h

  -- and by no lower one: passing is the highest
  pub record OutageAnswer (k h o : ℕ) : Type 0 where
    pub forces : OutageWins k h o
    pub lowest_one : (m : ℕ) → m < o → OutageWins k h m → ⊥

  -- who wins with h held and k rounds to play
  abbrev pub WonBy : ℕ → ℕ → Winner → Type 0
  WonBy k h Crew = CrewWins k h
  WonBy k h (Outage f) = (o : ℕ) × (f ≡ lead_by o) × OutageAnswer k h o
