-- Bases agree from one history to the next: after a run, and after a restart in which every placed node gets the log of a node that carries
-- the shard in the last view, up to a target that no settled update is past. For what two nodes have in common below their latest views is
-- settled, so it is in that log, up to the target.
use Rattle.std.specs.Prelude.{ℕ, zero, suc, ◌-◌, ◌<◌, ◌≤◌, Bool, true, false, ◌&&◌, [], ◌∷◌, ◌⊎◌, ◌≡◌, length}
use Rattle.std.proofs.Math.Bool.{cond}
use Rattle.std.proofs.Common.{inl, inr, ⊎_elim, sym, ◌∙◌, subst, arith}
use Rattle.std.proofs.Math.Path.{ap, subst⁻¹}
use Rattle.base_laws.specs.Bools.{either, and_both, eq_or_ne}
use Rattle.base_laws.specs.Definitions.{has}
use Rattle.base_ids.specs.declared.Position.{Position}
use Rattle.report_views.specs.declared.Layout.{Layout}
use Rattle.report_views.specs.Definitions.{mask_at}
use Rattle.history_laws.specs.Definitions.{History, KeepsRule, view_at, number_at}
use Rattle.history_course_laws.specs.Course.{last_of, Settled}
use Rattle.history_short_laws.specs.Based.{last_place, latest_of, latest_number, carries_latest, Based}

-- ---- the last place at which a test holds

pub place_is : (f : ℕ → Bool) (k i : ℕ) → i < k → f i ≡ true → ((j : ℕ) → i < j → j < k → f j ≡ false) → last_place f k ≡ i
unfolding last_place
place_is f zero i l h none = absurd (omega arith)
place_is f (suc k) i l h none = go (λ d. place_is f k i (omega (arith, d)) h (λ j a b. none j a (omega arith))) (eq_or_ne i k)
  where
    go : ((i ≡ k → ⊥) → last_place f k ≡ i) → (i ≡ k) ⊎ (i ≡ k → ⊥) → cond (f k) k (last_place f k) ≡ i
    go on (inl e) = let here : f k ≡ true = subst (λ (x : ℕ). f x ≡ true) e h in rw here (sym e)
    go on (inr d) = let past : f k ≡ false = none k (omega (arith, d)) (omega arith) in rw past (on d)

place_up_to : (f : ℕ → Bool) (k : ℕ) → last_place f k ≤ k
unfolding last_place
place_up_to f zero = omega arith
place_up_to f (suc k) = ⊎_elim (λ e. rw e (omega arith)) (λ e. rw e (omega (arith, place_up_to f k))) (either (f k))

place_below : (f : ℕ → Bool) (k : ℕ) → last_place f (suc k) < suc k
unfolding last_place
place_below f k = ⊎_elim (λ e. rw e (omega arith)) (λ e. rw e (omega (arith, place_up_to f k))) (either (f k))

-- ---- nodes

module _ (H : History) where
  pub latest_listed : (n : ℕ) → 0 < length H.views → latest_of H n < length H.views
  latest_listed n l =
      let e : length H.views ≡ suc (length H.views - 1) = omega arith in
      subst⁻¹ (λ (k : ℕ). last_place (H.logged n) k < k) e (place_below (H.logged n) (length H.views - 1))

  -- a node that has logged the last view carries what it is a member of there
  pub last_latest : (n : ℕ) → 0 < length H.views → H.logged n (last_of H) ≡ true → latest_of H n ≡ last_of H
  last_latest n l h = place_is (H.logged n) (length H.views) (last_of H) (omega arith) h (λ j a b. absurd (omega arith))

  pub last_carries : (s n : ℕ) → 0 < length H.views → has (mask_at (view_at H (last_of H)) s) n ≡ true → H.logged n (last_of H) ≡ true
      → carries_latest H s n ≡ true
  last_carries s n l m h =
      subst⁻¹ (λ (i : ℕ). (H.logged n i && has (mask_at (view_at H i) s) n) ≡ true) (last_latest n l h) (and_both h m)

  -- no latest view is above the last one
  pub latest_up_to : KeepsRule H → (n : ℕ) → 0 < length H.views → latest_number H n ≤ number_at H (last_of H)
  latest_up_to rule n l =
      ⊎_elim (λ e. omega (arith, ap (λ (i : ℕ). number_at H i) e))
      (λ e. omega (arith, rule.rises (latest_of H n) (last_of H) (omega (arith, e, latest_listed n l)) (omega arith)))
      (eq_or_ne (latest_of H n) (last_of H))

  -- what a node has below its latest view is settled
  pub base_settled : {S : ℕ} → Based S H → KeepsRule H → 0 < length H.views → (s : ℕ) → s < S → (n : ℕ) → n < 32 → carries_latest H s n ≡ true
      → (p : Position) → 1 ≤ p.k → p.view.0 < latest_number H n → H.updated n s p ≡ true → Settled H s p
  base_settled based rule some s below n l c p from older h =
      record {
        all = λ m k a b.
            let number : latest_number H m ≡ number_at H (last_of H) = ap (λ (i : ℕ). number_at H i) (last_latest m some b) in
            based.same s below m n k l (last_carries s m some a b) c p from (omega (arith, latest_up_to rule n some)) older ∙ h;
      }

-- ---- after a restart

-- a node that carries shard s in the last view of H hands its log on, as far as the test says
pub record HandsOn (H G : History) (w : Layout) (s : ℕ) : Type 0 where
  pub from : ℕ
  pub upto : Position → Bool
  pub small : from < 32
  pub carries : carries_latest H s from ≡ true
  pub latest : latest_of H from ≡ last_of H
  pub covers : (p : Position) → 1 ≤ p.k → p.view.0 < number_at H (last_of H) → Settled H s p → upto p ≡ true
  pub logs : (n : ℕ) → n < 32 → has (mask_at w s) n ≡ true → G.logged n (length H.views) ≡ true → (q : Position) → 1 ≤ q.k →
      G.updated n s q ≡ (H.updated from s q && upto q)

-- the first view ever, before which nobody has an update
pub first_based : {S : ℕ} (w : Layout) (logged : ℕ → ℕ → Bool) (updated : ℕ → ℕ → Position → Bool)
    → ((n s : ℕ) (p : Position) → p.view.0 < w.number.0 → updated n s p ≡ false)
    → Based S (record { views = w ∷ []; logged = logged; updated = updated })
first_based {S} w logged updated none = record { same = λ s below n m l k a b p from x y. none n s p (only n p x) ∙ sym (none m s p (only m p y)) }
  where
    H : History
    H = record { views = w ∷ []; logged = logged; updated = updated }

    only : (n : ℕ) (p : Position) → p.view.0 < latest_number H n → p.view.0 < w.number.0
    only n p x =
        let here : latest_of H n ≡ 0 = omega (arith, latest_listed H n (omega arith)) in
        subst (λ (i : ℕ). p.view.0 < number_at H i) here x
