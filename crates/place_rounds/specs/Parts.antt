-- Subgroup after subgroup: rounds in one subgroup, once every lower one has none better, are rounds of all, and rounds in lower subgroups do not
-- see the shards of a higher one.
use Rattle.std.specs.Prelude.{ℕ, ◌+◌, ◌≤◌, ◌<◌, Bool, true, false, List, ◌⊎◌, ◌≡◌, refl}
use Rattle.std.proofs.Common.{add-one, arith, inl, inr, ⊎_elim, sym, ◌∙◌, subst}
use Rattle.std.proofs.Math.Bool.{cond}
use Rattle.std.proofs.Math.Path.{ap}
use Rattle.base_laws.specs.Bools.{either}
use Rattle.place_groups.specs.Definitions.{of_group}
use Rattle.place_groups.specs.Chosen.{not_later_alike}
use Rattle.place_laws.specs.Cases.{group_shard, group_other}
use Rattle.place_laws.specs.Local.{AlikeInGroup, valid_local, moves_local}
use Rattle.place_rounds.specs.Definitions.{FirstValid, FirstFewer, NoneFewer, Round, SamePlan, Rounds, over, done, more}

-- the masks with those of subgroup g replaced
unfoldable pub mix : List ℕ → ℕ → (ℕ → ℕ) → (ℕ → ℕ) → ℕ → ℕ
mix σ g z a s = cond (of_group σ g s) (z s) (a s)

module _ (σ : List ℕ) (g : ℕ) (z a : ℕ → ℕ) where
  pub mix_here : (s : ℕ) → of_group σ g s ≡ true → mix σ g z a s ≡ z s
  unfolding mix
  mix_here s o = ap (λ (b : Bool). cond b (z s) (a s)) o

  pub mix_else : (s : ℕ) → of_group σ g s ≡ false → mix σ g z a s ≡ a s
  unfolding mix
  mix_else s o = ap (λ (b : Bool). cond b (z s) (a s)) o

  pub mix_own : AlikeInGroup σ g z (mix σ g z a)
  mix_own = record { at = λ s o. sym (mix_here s o) }

  pub mix_other : (h : ℕ) → (h ≡ g → ⊥) → AlikeInGroup σ h a (mix σ g z a)
  mix_other h d = record { at = λ s o. sym (mix_else s (group_other σ g h s d o)) }

same_in : {σ : List ℕ} {a b : ℕ → ℕ} → SamePlan σ a b → (g : ℕ) → AlikeInGroup σ g a b
same_in {σ} e g = record { at = λ s o. e s (group_shard σ g s o) }

pub first_local : {σ : List ℕ} {held : ℕ} {a b : ℕ → ℕ} {g : ℕ} → AlikeInGroup σ g a b → FirstValid σ held a g → FirstValid σ held b g
first_local {held = held} k w =
    record { valid = valid_local k held w.valid; first = λ other v. not_later_alike k.at (λ s o. refl) (w.first other v) }

module _ {σ : List ℕ} {held : ℕ} {old : ℕ → ℕ} where
  pub none_local : {a b : ℕ → ℕ} {g : ℕ} → AlikeInGroup σ g a b → NoneFewer σ held old a g → NoneFewer σ held old b g
  none_local k w = record { none = λ other v. omega (arith, w.none other v, moves_local k old) }

  fewer_local : {a b c d : ℕ → ℕ} {g : ℕ} → AlikeInGroup σ g a b → AlikeInGroup σ g c d → FirstFewer σ held old a c g → FirstFewer σ held old b d g
  fewer_local j k w =
      record {
        valid = valid_local k held w.valid;
        fewer = omega (arith, w.fewer, moves_local j old, moves_local k old);
        first = λ other v l. not_later_alike k.at (λ s o. refl) (w.first other v (omega (arith, moves_local j old)));
      }

  round_from : {a b c : ℕ → ℕ} → SamePlan σ b a → Round σ held old a c → Round σ held old b c
  round_from e r =
      record {
        at = r.at;
        below = r.below;
        better = fewer_local (same_in (λ s l. sym (e s l)) r.at) (record { at = λ s o. refl }) r.better;
        lower = λ h l. none_local (same_in (λ s k. sym (e s k)) h) (r.lower h l);
        else = λ s l o. r.else s l o ∙ sym (e s l);
      }

  rounds_from : {n : ℕ} {a b c : ℕ → ℕ} → SamePlan σ b a → Rounds σ held old n a c → Rounds σ held old n b c
  rounds_from e (over p) = over (λ s l. e s l ∙ p s l)
  rounds_from e (done d p) = done (λ g l. none_local (same_in (λ s k. sym (e s k)) g) (d g l)) (λ s l. e s l ∙ p s l)
  rounds_from e (more r s) = more (round_from e r) s

-- from a with n rounds to c with m left, in subgroups below k
pub data RoundsSoFar (σ : List ℕ) (held : ℕ) (old : ℕ → ℕ) (k n : ℕ) (a : ℕ → ℕ) : ℕ → (ℕ → ℕ) → Type 0 where
  none : {c : ℕ → ℕ} → SamePlan σ a c → RoundsSoFar σ held old k n a n c
  round : {m : ℕ} {b c : ℕ → ℕ} → RoundsSoFar σ held old k n a (m + 1) b → (r : Round σ held old b c) → r.at < k → RoundsSoFar σ held old k n a m c

module _ {σ : List ℕ} {held : ℕ} {old : ℕ → ℕ} where
  joined : {k n : ℕ} {a : ℕ → ℕ} {m : ℕ} {b c : ℕ → ℕ} → RoundsSoFar σ held old k n a m b → Rounds σ held old m b c → Rounds σ held old n a c
  joined (none e) s = rounds_from e s
  joined {m = m} {c = c} (round {b = b} p r l) s = joined p (subst (λ (j : ℕ). Rounds σ held old j b c) (sym (add-one m)) (more r s))

  -- at the end no rounds are left, or no subgroup has a better one
  pub part_rounds : {k n : ℕ} {a : ℕ → ℕ} {m : ℕ} {b : ℕ → ℕ} → RoundsSoFar σ held old k n a m b → (m ≡ 0) ⊎ ((g : ℕ) → g < 4 → NoneFewer σ held old b g) → Rounds σ held old n a b
  part_rounds {b = b} p (inl e) = joined p (subst (λ (j : ℕ). Rounds σ held old j b b) (sym e) (over (λ s l. refl)))
  part_rounds p (inr d) = joined p (done d (λ s l. refl))

  mix_round : {b c : ℕ → ℕ} (k : ℕ) (z : ℕ → ℕ) → (r : Round σ held old b c) → r.at < k → (q : Round σ held old (mix σ k z b) (mix σ k z c)) × (q.at ≡ r.at)
  mix_round {b} {c} k z r l = (
    record {
      at = r.at;
      below = r.below;
      better = fewer_local (mix_other σ k z b r.at (λ e. omega arith)) (mix_other σ k z c r.at (λ e. omega arith)) r.better;
      lower = λ h q. none_local (mix_other σ k z b h (λ e. omega arith)) (r.lower h q);
      else = λ s q o.
          ⊎_elim (λ i. mix_here σ k z c s i ∙ sym (mix_here σ k z b s i))
          (λ i. mix_else σ k z c s i ∙ (r.else s q o ∙ sym (mix_else σ k z b s i)))
          (either (of_group σ k s));
    },
    refl,
  )

  -- one subgroup more: its start takes its place at the start and at the end
  pub part_mixed : {n : ℕ} {a : ℕ → ℕ} (k : ℕ) {m : ℕ} {c : ℕ → ℕ} (z : ℕ → ℕ) → RoundsSoFar σ held old k n a m c → RoundsSoFar σ held old (k + 1) n (mix σ k z a) m (mix σ k z c)
  part_mixed {a = a} k z (none {c = c} e) =
      none (λ s l. ⊎_elim (λ i. mix_here σ k z a s i ∙ sym (mix_here σ k z c s i)) (λ i. mix_else σ k z a s i ∙ (e s l ∙ sym (mix_else σ k z c s i))) (either (of_group σ k s)))
  part_mixed k z (round p r l) = let q = mix_round k z r l in round (part_mixed k z p) q.0 (omega (arith, q.1))

  -- a round in subgroup g, where no lower one has a better placement
  pub part_round : {n m : ℕ} {a b : ℕ → ℕ} (g : ℕ) (y z : ℕ → ℕ) → g < 4 → ((h : ℕ) → h < g → NoneFewer σ held old b h) → FirstFewer σ held old y z g
      → RoundsSoFar σ held old (g + 1) n a (m + 1) (mix σ g y b) → RoundsSoFar σ held old (g + 1) n a m (mix σ g z b)
  part_round {b = b} g y z l lower f p =
      round p
      (record {
        at = g;
        below = l;
        better = fewer_local (mix_own σ g y b) (mix_own σ g z b) f;
        lower = λ h q. none_local (mix_other σ g y b h (λ e. omega arith)) (lower h q);
        else = λ s q o. mix_else σ g z b s o ∙ sym (mix_else σ g y b s o);
      })
      (omega arith)

  round_to : {b c d : ℕ → ℕ} → SamePlan σ c d → (r : Round σ held old b c) → (q : Round σ held old b d) × (q.at ≡ r.at)
  round_to e r = (
    record {
      at = r.at;
      below = r.below;
      better = fewer_local (record { at = λ s o. refl }) (same_in e r.at) r.better;
      lower = r.lower;
      else = λ s l o. sym (e s l) ∙ r.else s l o;
    },
    refl,
  )

  -- the end is told by its masks of shards
  pub part_same : {k n m : ℕ} {a c d : ℕ → ℕ} → SamePlan σ c d → RoundsSoFar σ held old k n a m c → RoundsSoFar σ held old k n a m d
  part_same e (none f) = none (λ s l. f s l ∙ e s l)
  part_same e (round p r l) = let q = round_to e r in round p q.0 (omega (arith, q.1))

-- rounds in subgroup g alone: from a with n to c with m left
pub data GroupRounds (σ : List ℕ) (held : ℕ) (old : ℕ → ℕ) (g n : ℕ) (a : ℕ → ℕ) : ℕ → (ℕ → ℕ) → Type 0 where
  stays : GroupRounds σ held old g n a n a
  betters : {m : ℕ} {b c : ℕ → ℕ} → GroupRounds σ held old g n a (m + 1) b → FirstFewer σ held old b c g → GroupRounds σ held old g n a m c

module _ {σ : List ℕ} {held : ℕ} {old : ℕ → ℕ} where
  -- there are no more left than before
  pub rounds_used : {g n : ℕ} {a : ℕ → ℕ} {m : ℕ} {c : ℕ → ℕ} → GroupRounds σ held old g n a m c → m ≤ n
  rounds_used stays = omega arith
  rounds_used (betters s f) = omega (arith, rounds_used s)

  -- they are rounds of all, where no lower subgroup has a better placement, or none is left
  pub part_group : {g n k : ℕ} {a b y : ℕ → ℕ} {m : ℕ} {z : ℕ → ℕ} → g < 4 → (k ≡ 0) ⊎ ((h : ℕ) → h < g → NoneFewer σ held old b h)
      → RoundsSoFar σ held old (g + 1) n a k (mix σ g y b) → GroupRounds σ held old g k y m z → RoundsSoFar σ held old (g + 1) n a m (mix σ g z b)
  part_group l d p stays = p
  part_group {g} {n} {k} {a} {b} {y} {m} {z} l d p (betters {b = x} s f) =
      ⊎_elim (λ e. absurd (omega (arith, rounds_used s))) (λ none. part_round g x z l none f (part_group l d p s)) d

  -- the end is told by its masks of the subgroup's shards
  pub rounds_to : {g n m : ℕ} {a c d : ℕ → ℕ} → GroupRounds σ held old g n a m c → AlikeInGroup σ g c d → FirstValid σ held a g
      → (b : ℕ → ℕ) × FirstValid σ held b g × GroupRounds σ held old g n b m d
  rounds_to {d = d} stays k f = (d, first_local k f, stays)
  rounds_to {a = a} (betters s x) k f = (a, f, betters s (fewer_local (record { at = λ s o. refl }) k x))
