-- Laws of the held nodes whose loss means waiting.
use Rattle.std.specs.Prelude.{ℕ, ◌+◌, ◌^◌, ◌<◌, ◌≤◌, Bool, true, false, not, ◌||◌, List, ◌⊎◌, ◌≡◌, refl, eqb}
use Rattle.std.proofs.Common.{inl, inr, ⊎_elim, sym, ◌∙◌, subst, arith, eqb-true, eq-eqb}
use Rattle.base_laws.specs.Bools.{either, clash, or-holds, or_fails_left, or_fails_right, lt_or_le, eq_or_ne}
use Rattle.base_laws.specs.Definitions.{has, with, without}
use Rattle.base_laws.specs.Masks.{has_with, has_zero, has_below, without_lt, ext_all}
use Rattle.base_laws.proofs.Masks.{minus_subset}
use Rattle.settings_values.specs.Definitions.{nodes, Settings}
use Rattle.place_groups.specs.Definitions.{group_valid, LowestUnplaced}
use Rattle.report_views.specs.declared.Quorum.{Quorum}
use Rattle.report_views.specs.declared.Quorum.TheVariants.{Met, Short}
use Rattle.report_views.specs.declared.Reason.{Reason}
use Rattle.report_views.specs.declared.Layout.{Layout}
use Rattle.report_views.specs.declared.Termination.{Termination}
use Rattle.plan_masks.specs.Masks.{quorum_in}
use Rattle.plan_masks.specs.Counting.{Given, fewer_given, quorum_given}
use Rattle.plan_masks.specs.Definitions.{Placeable, Allowed}
use Rattle.plan_masks.specs.Numbered.{short_met}
use Rattle.plan_losses.specs.Definitions.{Lost, quorums_of}

-- waits 1 to 4 by the masks ms, and by the desk d
abbrev pub quorums_in : List ℕ → Layout → List ℕ → ℕ → Quorum
quorums_in σ v ms h = quorum_in σ v h ms

-- ---- what a caller takes from it

-- there is one such mask
pub lost_one : (σ : List ℕ) (held : ℕ) (Q : ℕ → Quorum) (a b : ℕ) → Lost σ held Q a → Lost σ held Q b → a ≡ b
lost_one σ held Q a b x y = ext_all a b (λ n. by n (either (has a n)) (either (has b n)))
  where
    by : (n : ℕ) → (has a n ≡ true) ⊎ (has a n ≡ false) → (has b n ≡ true) ⊎ (has b n ≡ false) → has a n ≡ has b n
    by n (inl e) (inl h) = e ∙ sym h
    by n (inl e) (inr h) = let w = x.waits n e in absurd (w.1 (y.plans n w.0 h))
    by n (inr e) (inl h) = let w = y.waits n h in absurd (w.1 (x.plans n w.0 e))
    by n (inr e) (inr h) = e ∙ sym h

-- where two say the same of the nodes that are left, the losses are the same
lost_alike : (σ : List ℕ) (held : ℕ) (Q R : ℕ → Quorum) (m : ℕ) → ((n : ℕ) → Q (without held n) ≡ R (without held n)) → Lost σ held Q m → Lost σ held R m
lost_alike σ held Q R m same w =
    record {
      waits = λ n h. let z = w.waits n h in (z.0, λ r. z.1 (record { quorum = same n ∙ r.quorum; placements = r.placements }));
      plans = λ n h e. let z = w.plans n h e in record { quorum = sym (same n) ∙ z.quorum; placements = z.placements };
    }

-- the losses by the masks are those by the desk from which they were counted
pub lost_desk : (σ : List ℕ) (v : Layout) (t : Termination) (all held : ℕ) (d ms : List ℕ) (m : ℕ) → Settings σ → held < 2 ^ nodes σ
    → Given σ v t all held d ms → Lost σ held (quorums_in σ v ms) m → Lost σ held (quorums_of σ v t d) m
lost_desk σ v t all held d ms m right small g =
    lost_alike σ held (quorums_in σ v ms) (quorums_of σ v t d) m
    (λ n. quorum_given σ v t all (without held n) d ms right (without_lt (nodes σ) held n small)
    (fewer_given σ v t all held (without held n) d ms (minus_subset held (2 ^ n)) g))

-- ---- on the way

-- what a test says: true that a wait applies, false that none does
pub record Foretold (σ : List ℕ) (held : ℕ) (q : Quorum) (r : Bool) : Type 0 where
  pub none : r ≡ true → Allowed σ held q → ⊥
  pub some : r ≡ false → Allowed σ held q

-- of the nodes below k, those that are held and without which a wait applies
pub record LostBelow (σ : List ℕ) (held : ℕ) (Q : ℕ → Quorum) (k m : ℕ) : Type 0 where
  pub waits : (n : ℕ) → has m n ≡ true → (n < k) × (has held n ≡ true) × (Allowed σ (without held n) (Q (without held n)) → ⊥)
  pub plans : (n : ℕ) → n < k → has held n ≡ true → has m n ≡ false → Allowed σ (without held n) (Q (without held n))

-- the subgroups below k have a valid placement each
abbrev pub PlacedBelow : List ℕ → ℕ → ℕ → Type 0
PlacedBelow σ held k = (g : ℕ) → g < k → (P : ℕ → ℕ) × (group_valid σ held P g ≡ true)

-- a placement that was judged
pub placed_of : (σ : List ℕ) (held g : ℕ) (P : ℕ → ℕ) (b : Bool) → b ≡ group_valid σ held P g → b ≡ true → (R : ℕ → ℕ) × (group_valid σ held R g ≡ true)
placed_of σ held g P b e h = (P, sym e ∙ h)

pub placed_more : (σ : List ℕ) (held k : ℕ) (P : ℕ → ℕ) → group_valid σ held P k ≡ true → PlacedBelow σ held k → PlacedBelow σ held (k + 1)
placed_more σ held k P h b g l =
    ⊎_elim (λ m. b g m) (λ m. let e : k ≡ g = omega arith in subst (λ (x : ℕ). (R : ℕ → ℕ) × (group_valid σ held R x ≡ true)) e (P, h)) (lt_or_le g k)

module _ (σ : List ℕ) (held : ℕ) (Q : ℕ → Quorum) where
  pub lost_none : LostBelow σ held Q 0 0
  lost_none = record { waits = λ n h. clash h (has_zero n); plans = λ n l h z. absurd (omega arith) }

  past : (k n : ℕ) → n < k + 1 → (n ≡ k → ⊥) → n < k
  past k n l e = ⊎_elim (λ q. q) (λ q. absurd (e (omega arith))) (lt_or_le n k)

  -- node k is not held, or its loss does no harm
  pub lost_not : (k m : ℕ) → (has held k ≡ true → Allowed σ (without held k) (Q (without held k))) → LostBelow σ held Q k m → LostBelow σ held Q (k + 1) m
  lost_not k m r w =
      record {
        waits = λ n h. let z = w.waits n h in (let q = z.0 in omega arith, z.1, z.2);
        plans = λ n l h z.
            ⊎_elim (λ e. subst (λ (x : ℕ). has held x ≡ true → Allowed σ (without held x) (Q (without held x))) (sym e) r h) (λ e. w.plans n (past k n l e) h z)
            (eq_or_ne n k);
      }

  pub lost_with : (k m : ℕ) → has held k ≡ true → (Allowed σ (without held k) (Q (without held k)) → ⊥) → LostBelow σ held Q k m
      → LostBelow σ held Q (k + 1) (with m k)
  lost_with k m held-k r w =
      record {
        waits = λ n h. ⊎_elim (λ p. let z = w.waits n p in (let q = z.0 in omega arith, z.1, z.2))
            (λ p. let e : k ≡ n = eqb-true k n p in
            (omega arith, subst (λ (x : ℕ). has held x ≡ true) e held-k, subst (λ (x : ℕ). Allowed σ (without held x) (Q (without held x)) → ⊥) e r))
            (or-holds (has m n) (eqb k n) (sym (has_with m k n) ∙ h));
        plans = λ n l h z.
            let f : (has m n || eqb k n) ≡ false = sym (has_with m k n) ∙ z in
            w.plans n (past k n l (λ e. clash (eq-eqb k n (sym e)) (or_fails_right (has m n) (eqb k n) f))) h (or_fails_left (has m n) (eqb k n) f);
      }

  pub lost_all : (m w : ℕ) → held < 2 ^ w → w ≤ 32 → LostBelow σ held Q 32 m → Lost σ held Q m
  lost_all m w small few b =
      record {
        waits = λ n h. let z = b.waits n h in (z.1, z.2);
        plans = λ n h z. b.plans n (let q = has_below held w n small h in omega arith) h z;
      }

-- what the code finds: a condition that fails, a placement that still serves, or what the search says
module _ (σ : List ℕ) (held : ℕ) (q : Quorum) where
  pub foretold_short : (reason : Reason) → q ≡ Short reason → Foretold σ held q true
  foretold_short reason e = record { none = λ h r. short_met reason (sym e ∙ r.quorum); some = λ h. clash refl h }

  pub foretold_placed : q ≡ Met → Placeable σ held → Foretold σ held q false
  foretold_placed e p = record { none = λ h r. clash h refl; some = λ h. record { quorum = e; placements = p } }

  foretold_lowest : (g : ℕ) → LowestUnplaced σ held g → Foretold σ held q true
  foretold_lowest g w = record { none = λ h r. let p = r.placements g w.below in w.none.none p.0 p.1; some = λ h. clash refl h }

  pub foretold_search : (found : Bool) → q ≡ Met → (found ≡ true → Placeable σ held) → (found ≡ false → (g : ℕ) × LowestUnplaced σ held g) → Foretold σ held q (not found)
  foretold_search found e placed missed = by found refl
    where
      by : (b : Bool) → found ≡ b → Foretold σ held q (not b)
      by true h = foretold_placed e (placed h)
      by false h = let w = missed h in foretold_lowest w.0 w.1
