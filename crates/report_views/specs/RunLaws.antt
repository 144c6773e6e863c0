-- The runs of a shard in a report: in one that passes rows 9 and 11 they rise and count from 1. What the end of a log is, and
-- what a log holds.
use Rattle.std.specs.Prelude.{ℕ, zero, suc, ◌+◌, ◌<◌, ◌≤◌, Bool, true, false, cond, ◌&&◌, List, ◌⊎◌, ◌≡◌, refl, eqb, leb}
use Rattle.std.proofs.Common.{zero-le, sym, ap₂, arith}
use Rattle.std.proofs.Math.Logic.{inl, inr, ⊎_elim}
use Rattle.std.proofs.Math.Arith.{lt_of_le-ne}
use borrow.Author.Tests.{eqb-true, leb-true, eq-eqb, le-leb}
use Rattle.base_laws.specs.Bools.{and_both, and_left, and_right, or_left, or_right, or-holds, eq_or_ne}
use Rattle.base_laws.specs.Definitions.{any_below}
use Rattle.base_laws.specs.Below.{all_at, any_at, any_witness}
use Rattle.base_laws.specs.Positions.{not_after_view, not_after_place}
use Rattle.base_ids.specs.declared.Position.{Position}
use Rattle.base_ids.specs.Definitions.{not_after}
use Rattle.message_format.specs.declared.Form.TheVariants.{Report}
use Rattle.message_format.specs.Definitions.{tag, word1, word2, kind, is_position, view_fits, legal, row11_at}
use Rattle.message_format.specs.Passed.{RecordsPass}
use Rattle.report_views.specs.Definitions.{pos, start, is_run, end_of, reaches, holds, has_update, is_start}
use Rattle.report_views.specs.LogLaws.{reaches_run, reaches_view, reaches_of, RunsRise, runs_rise}

-- ---- the runs of a shard in a report that passes rows 9 and 11

pub record Runs (b : List ℕ) (len s : ℕ) : Type 0 where
  pub rise : RunsRise b len s
  pub view_from : (j : ℕ) → j < len → is_run b s j ≡ true → 1 ≤ word1 b j
  pub count_from : (j : ℕ) → j < len → is_run b s j ≡ true → 1 ≤ word2 b j

-- row 11 at a run
run_legal : (view members k a c : ℕ) → k ≡ 3 → legal Report view members k a c ≡ true → (1 ≤ a) × (1 ≤ c)
unfolding legal view_fits
run_legal view members k a c e h =
    let h3 : (leb 1 a && leb 1 c && leb a view) ≡ true = rw e at h in
    let both = and_left (leb 1 a && leb 1 c) (leb a view) h3 in
    (leb-true 1 a (and_left (leb 1 a) (leb 1 c) both), leb-true 1 c (and_right (leb 1 a) (leb 1 c) both))

module _ (σ : List ℕ) (node view members : ℕ) (b : List ℕ) (len : ℕ) (p : RecordsPass Report σ node view members b len) where
  run_from : (s : ℕ) → s < 256 → (j : ℕ) → j < len → is_run b s j ≡ true → (1 ≤ word1 b j) × (1 ≤ word2 b j)
  unfolding row11_at
  run_from s l j m h =
      let e : kind b j ≡ 3 = omega (arith, eqb-true (tag b j) (768 + s) h) in
      run_legal view members (kind b j) (word1 b j) (word2 b j) e (all_at len (row11_at Report view members b) p.positions-pass j m)

  pub passed_runs : (s : ℕ) → s < 256 → Runs b len s
  passed_runs s l =
      record {
        rise = runs_rise node b len p.sequence_passes s;
        view_from = λ j m h. (run_from s l j m h).0;
        count_from = λ j m h. (run_from s l j m h).1;
      }

-- ---- what the test of a position says

pub position_start : (v k : ℕ) → v ≡ 0 → k ≡ 0 → is_position v k ≡ true
unfolding is_position
position_start v k e f = or_left (leb 1 v && leb 1 k) (and_both (eq-eqb v 0 e) (eq-eqb k 0 f))

pub position_from : (v k : ℕ) → 1 ≤ v → 1 ≤ k → is_position v k ≡ true
unfolding is_position
position_from v k l m = or_right (eqb v 0 && eqb k 0) (and_both (le-leb 1 v l) (le-leb 1 k m))

-- ---- the end of a log: a run, or (0, 0)

pub record LastRun (b : List ℕ) (s n j : ℕ) (p : Position) : Type 0 where
  pub below : j < n
  pub is-run : is_run b s j ≡ true
  pub at : p ≡ pos (word1 b j) (word2 b j)

pub end_cases : (b : List ℕ) (s n : ℕ) → (end_of b s n ≡ start) ⊎ ((j : ℕ) × LastRun b s n j (end_of b s n))
unfolding end_of
end_cases b s zero = inl refl
end_cases b s (suc n) = go (is_run b s n) refl (end_cases b s n)
  where
    go : (r : Bool) → is_run b s n ≡ r → (end_of b s n ≡ start) ⊎ ((j : ℕ) × LastRun b s n j (end_of b s n))
        → (cond (is_run b s n) (pos (word1 b n) (word2 b n)) (end_of b s n) ≡ start)
        ⊎ ((j : ℕ) × LastRun b s (suc n) j (cond (is_run b s n) (pos (word1 b n) (word2 b n)) (end_of b s n)))
    go true r rest = inr (n, record { below = omega arith; is-run = r; at = rw r })
    go false r (inl e) = inl (rw r e)
    go false r (inr w) = inr (w.0, record { below = omega (arith, w.1.below); is-run = w.1.is-run; at = rw r w.1.at })

-- ---- the order of positions

-- (0, 0) is before all
pub start_first : (p : Position) → not_after start p ≡ true
start_first p = go (eq_or_ne p.view.0 0)
  where
    go : (p.view.0 ≡ 0) ⊎ (p.view.0 ≡ 0 → ⊥) → not_after start p ≡ true
    go (inl e) = rw e (not_after_place 0 0 p.k zero-le)
    go (inr d) = not_after_view 0 0 p.view.0 p.k (lt_of_le-ne zero-le (λ e. d (sym e)))

-- ---- what a log holds

pub record HasPosition (b : List ℕ) (len s : ℕ) (p : Position) : Type 0 where
  pub from : 1 ≤ p.k
  pub by : (j : ℕ) × (j < len) × (reaches b s p j ≡ true)

module _ (b : List ℕ) (len s : ℕ) (p : Position) where
  pub held_given : holds b len s p ≡ true → HasPosition b len s p
  unfolding holds
  held_given h =
      record {
        from = leb-true 1 p.k (and_left (leb 1 p.k) (any_below len (reaches b s p)) h);
        by = any_witness len (reaches b s p) (and_right (leb 1 p.k) (any_below len (reaches b s p)) h);
      }

  pub held-of : (j : ℕ) → j < len → is_run b s j ≡ true → word1 b j ≡ p.view.0 → 1 ≤ p.k → p.k ≤ word2 b j → holds b len s p ≡ true
  unfolding holds
  held-of j l r e m n =
      and_both (le-leb 1 p.k m) (any_at len (reaches b s p) j l (reaches_of b s p j r e n))

  -- it is a legal position
  pub held_position : Runs b len s → holds b len s p ≡ true → is_position p.view.0 p.k ≡ true
  held_position runs h =
      let w = (held_given h).by in
      position_from p.view.0 p.k
      (omega (arith, reaches_view b s p w.0 w.2, runs.view_from w.0 w.1 (reaches_run b s p w.0 w.2)))
      (held_given h).from

  -- a log has a position: it is (0, 0), or the log holds it
  pub has_cases : has_update b len s p ≡ true → (p ≡ start) ⊎ (holds b len s p ≡ true)
  unfolding has_update
  has_cases h =
      ⊎_elim
      (λ e. inl (ap₂ (λ (v k : ℕ). pos v k) (eqb-true p.view.0 0 (and_left (eqb p.view.0 0) (eqb p.k 0) e))
      (eqb-true p.k 0 (and_right (eqb p.view.0 0) (eqb p.k 0) e))))
      (λ e. inr e)
      (or-holds (is_start p) (holds b len s p) h)
