-- Laws of logs: what a log holds lies no further than its end.
use Prim.Native.Nat.{ℕ, zero, suc, ◌+◌, ◌<◌, ◌≤◌}
use Rattle.std.specs.Prelude.{Bool, ◌&&◌, cond, List, ◌⊎◌, ◌≡◌, eqb, leb}
use Rattle.std.proofs.Math.Bool.{true, false}
use Rattle.std.proofs.Common.{inl, inr, ⊎_elim, sym, ◌∙◌, arith, eqb-true, leb-true, eq-eqb, le-leb}
use Rattle.std.proofs.Math.Path.{refl, subst}
use Rattle.base_laws.specs.Bools.{clash, and_both, and_left, and_right, eq_or_ne}
use Rattle.base_laws.specs.Definitions.{all_below, any_below}
use Rattle.base_laws.specs.Below.{any_at, any_witness}
use Rattle.base_laws.specs.Positions.{not_after_view, not_after_place}
use Rattle.base_ids.specs.declared.Position.{Position}
use Rattle.base_ids.specs.Definitions.{not_after}
use Rattle.message_format.specs.Definitions.{tag, word1, word2, sequence_at}
use Rattle.message_format.specs.Rising.{views_rise}
use Rattle.report_views.specs.Definitions.{pos, is_run, end_of, reaches, holds}

-- what it means that run j reaches p
pub reaches_run : (b : List ℕ) (s : ℕ) (p : Position) (j : ℕ) → reaches b s p j ≡ true → is_run b s j ≡ true
unfolding reaches
reaches_run b s p j h =
    and_left (is_run b s j) (eqb (word1 b j) p.view.0)
    (and_left (is_run b s j && eqb (word1 b j) p.view.0) (leb p.k (word2 b j)) h)

pub reaches_view : (b : List ℕ) (s : ℕ) (p : Position) (j : ℕ) → reaches b s p j ≡ true → word1 b j ≡ p.view.0
unfolding reaches
reaches_view b s p j h =
    eqb-true (word1 b j) p.view.0
    (and_right (is_run b s j) (eqb (word1 b j) p.view.0)
    (and_left (is_run b s j && eqb (word1 b j) p.view.0) (leb p.k (word2 b j)) h))

pub reaches_count : (b : List ℕ) (s : ℕ) (p : Position) (j : ℕ) → reaches b s p j ≡ true → p.k ≤ word2 b j
unfolding reaches
reaches_count b s p j h =
    leb-true p.k (word2 b j) (and_right (is_run b s j && eqb (word1 b j) p.view.0) (leb p.k (word2 b j)) h)

pub reaches_of : (b : List ℕ) (s : ℕ) (p : Position) (j : ℕ) → is_run b s j ≡ true → word1 b j ≡ p.view.0 → p.k ≤ word2 b j → reaches b s p j ≡ true
unfolding reaches
reaches_of b s p j r e l = and_both (and_both r (eq-eqb (word1 b j) p.view.0 e)) (le-leb p.k (word2 b j) l)

-- a position of the view of run n, or of an earlier one
at_run : (b : List ℕ) (p : Position) (n : ℕ) → (p.view.0 < word1 b n) ⊎ ((p.view.0 ≡ word1 b n) × (p.k ≤ word2 b n))
    → not_after p (pos (word1 b n) (word2 b n)) ≡ true
at_run b p n (inl l) = not_after_view p.view.0 p.k (word1 b n) (word2 b n) l
at_run b p n (inr e) =
    subst (λ (v : ℕ). not_after p (pos v (word2 b n)) ≡ true) e.0 (not_after_place p.view.0 p.k (word2 b n) e.1)

-- the runs of shard s among the first len records rise by view
abbrev pub RunsRise : List ℕ → ℕ → ℕ → Type 0
RunsRise b len s = (i j : ℕ) → i < j → j < len → is_run b s i ≡ true → is_run b s j ≡ true → word1 b i < word1 b j

-- so they do where row 17's pass finds nothing wrong
pub runs_rise : (node : ℕ) (b : List ℕ) (len : ℕ) → all_below len (sequence_at node b) ≡ true → (s : ℕ) → RunsRise b len s
runs_rise node b len h s i j l m p q =
    views_rise node b len h i j l m (eqb-true (tag b i) (768 + s) p ∙ sym (eqb-true (tag b j) (768 + s) q))

module _ (b : List ℕ) (len s : ℕ) (rise : RunsRise b len s) where
  -- by the first n records
  within_end : (p : Position) (n : ℕ) → n ≤ len → any_below n (reaches b s p) ≡ true → not_after p (end_of b s n) ≡ true
  unfolding end_of
  within_end p zero l e = let w = any_witness 0 (reaches b s p) e in absurd (omega (arith, w.1))
  within_end p (suc n) l e = go (is_run b s n) refl (within_end p n (omega arith)) (any_witness (suc n) (reaches b s p) e)
    where
      go : (r : Bool) → is_run b s n ≡ r → (any_below n (reaches b s p) ≡ true → not_after p (end_of b s n) ≡ true)
          → (k : ℕ) × (k < suc n) × (reaches b s p k ≡ true)
          → not_after p (cond (is_run b s n) (pos (word1 b n) (word2 b n)) (end_of b s n)) ≡ true
      go true r rest w =
          rw r
          (⊎_elim
          (λ d.
          let at : reaches b s p n ≡ true = subst (λ (x : ℕ). reaches b s p x ≡ true) d w.2 in
          at_run b p n (inr (sym (reaches_view b s p n at), reaches_count b s p n at)))
          (λ d.
          let below : w.0 < n = omega (arith, w.1) in
          let more = rise w.0 n below (omega arith) (reaches_run b s p w.0 w.2) r in
          at_run b p n (inl (omega (arith, reaches_view b s p w.0 w.2))))
          (eq_or_ne w.0 n))
      go false r rest w =
          rw r
          (⊎_elim
          (λ d. clash (reaches_run b s p n (subst (λ (x : ℕ). reaches b s p x ≡ true) d w.2)) r)
          (λ d. rest (any_at n (reaches b s p) w.0 (omega (arith, w.1)) w.2))
          (eq_or_ne w.0 n))

  -- what the log holds lies no further than its end
  pub held_end : (p : Position) → holds b len s p ≡ true → not_after p (end_of b s len) ≡ true
  unfolding holds
  held_end p e = within_end p len (omega arith) (and_right (leb 1 p.k) (any_below len (reaches b s p)) e)

pub holds_end : (node : ℕ) (b : List ℕ) (len : ℕ) → all_below len (sequence_at node b) ≡ true → (s : ℕ) (p : Position)
    → holds b len s p ≡ true → not_after p (end_of b s len) ≡ true
holds_end node b len h s = held_end b len s (runs_rise node b len h s)
