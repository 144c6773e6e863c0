-- The kept view and termination of two ends are equal where both come from the same messages and every message fits both.
use Rattle.std.specs.Prelude.{ℕ, ◌<◌, ◌≤◌, Bool, true, false, ◌&&◌, ◌⊎◌, ◌≡◌, ltb}
use Rattle.std.proofs.Common.{arith, inl, inr, ◌∙◌}
use Rattle.std.proofs.Math.Bool.{cond}
use mathlib.Core.List.{List}
use Rattle.std.proofs.Math.Logic.{⊎_elim}
use Rattle.std.proofs.Math.Path.{sym, ap, ap₂, subst}
use Rattle.std.proofs.Math.Dec.{eqb}
use borrow.Author.Tests.{eqb-true, lt-ltb, le-ltb}
use Rattle.base_laws.specs.Bools.{either, clash, same, lt_or_le, and_left, and_right}
use Rattle.base_laws.specs.Below.{all_at}
use Rattle.base_laws.specs.Tables.{tabulate_cong}
use Rattle.settings_values.specs.Definitions.{shards}
use Rattle.base_ids.specs.declared.View.{View}
use Rattle.base_ids.specs.declared.Position.{Position}
use Rattle.message_format.specs.declared.Contents.{Contents}
use Rattle.message_format.specs.Definitions.{contents_of}
use Rattle.report_views.specs.declared.Layout.{Layout}
use Rattle.report_views.specs.declared.Termination.{Termination}
use Rattle.report_views.specs.Definitions.{start, terminated, terminated_at, position_at, same_position, same_termination}
use Rattle.report_kept.specs.Definitions.{termination_of}
use Rattle.state_laws.specs.Keeping.{position_same}
use Rattle.state_laws.specs.Fitting.{Fits}
use Rattle.state_arrival_laws.specs.Arrivals.{OneOf}
use Rattle.state_arrival_laws.specs.Kept.{OldTermination, NewTermination, KeptThrough}
use Rattle.state_arrival_laws.specs.Agreed.{view_equal, made_agrees, positions_agree, view_agrees}

position_equal : (p q : Position) → same_position p q ≡ true → p ≡ q
position_equal p q h =
    ap₂ (λ (v : View) (k : ℕ). record { view = v; k = k })
    (view_equal p.view q.view (eqb-true p.view.0 q.view.0 (and_left (eqb p.view.0 q.view.0) (eqb p.k q.k) h)))
    (eqb-true p.k q.k (and_right (eqb p.view.0 q.view.0) (eqb p.k q.k) h))

-- ---- what two messages of one view give to be kept

module _ (σ : List ℕ) (few : shards σ ≤ 16) (b c : Contents) where
  position_agrees : terminated σ c ≡ true → same_termination σ (termination_of σ c) b ≡ true → (s : ℕ) → s < shards σ → terminated_at σ b s ≡ terminated_at σ c s
  unfolding same_termination
  position_agrees m h s l =
      position_equal (terminated_at σ b s) (position_at (termination_of σ c) s)
      (all_at (shards σ) (λ i. same_position (terminated_at σ b i) (position_at (termination_of σ c) i)) h s l)
      ∙ position_same σ c few m s l

  entry_equal : terminated σ b ≡ terminated σ c → (terminated σ b ≡ true → same_termination σ (termination_of σ c) b ≡ true) → (s : ℕ)
      → cond (terminated σ b && ltb s (shards σ)) (terminated_at σ b s) start ≡ cond (terminated σ c && ltb s (shards σ)) (terminated_at σ c s) start
  entry_equal e h s =
      ⊎_elim
      (λ m.
      let n : terminated σ b ≡ true = e ∙ m in
      ⊎_elim (λ i. rw (n, m, lt-ltb s (shards σ) i) (position_agrees m (h n) s i)) (λ i. rw (n, m, le-ltb s (shards σ) i)) (lt_or_le s (shards σ)))
      (λ m. let n : terminated σ b ≡ false = e ∙ m in rw (n, m)) (either (terminated σ c))

  termination_equal : terminated σ b ≡ terminated σ c → (terminated σ b ≡ true → same_termination σ (termination_of σ c) b ≡ true)
      → termination_of σ b ≡ termination_of σ c
  unfolding termination_of
  termination_equal e h =
      ap₂ (λ (m : Bool) (l : List Position). record { made = m; positions = l }) e (tabulate_cong 16 _ _ (λ s l. entry_equal e h s))

-- ---- two ends

-- v with t was kept before; u with r, and y with z, are kept after the same messages
module _ (σ : List ℕ) (v : Layout) (t : Termination) (ws : List (List ℕ)) (u : Layout) (r : Termination) (y : Layout) (z : Termination) where
  -- nor is the termination of the same view
  termination_apart : {A : Type 0} → u ≡ y → OldTermination v t ws u r → NewTermination σ v t ws y z → A
  termination_apart e o k =
      let p : u.number.0 ≡ y.number.0 = ap (λ (l : Layout). l.number.0) e in
      let q : u.number.0 ≡ v.number.0 = ap (λ (l : Layout). l.number.0) o.view in
      ⊎_elim (λ l. absurd (omega arith))
      (λ unmade. ⊎_elim (λ m. clash m unmade) (λ none. absurd (none k.message k.among (k.at_kept ∙ (sym p ∙ q)))) o.settled)
      k.free

  -- every message fits both
  module _ (few : shards σ ≤ 16) (fits : (w : List ℕ) → OneOf w ws → Fits σ u r (contents_of w)) (also : (w : List ℕ) → OneOf w ws → Fits σ y z (contents_of w)) where
    terminations_equal : u ≡ y → (k : NewTermination σ v t ws u r) (l : NewTermination σ v t ws y z)
        → termination_of σ (contents_of k.message) ≡ termination_of σ (contents_of l.message)
    unfolding termination_of
    terminations_equal e k l =
        let p : u.number.0 ≡ y.number.0 = ap (λ (i : Layout). i.number.0) e in
        let b = contents_of k.message in
        let c = contents_of l.message in
        let fit = also k.message k.among in
        let fit-back = fits l.message l.among in
        termination_equal σ few b c
        (same (terminated σ b) (terminated σ c)
        (λ m. sym (ap (λ (i : Termination). i.made) l.given) ∙ made_agrees σ y z b fit (k.at_kept ∙ p) m)
        (λ m. sym (ap (λ (i : Termination). i.made) k.given) ∙ made_agrees σ u r c fit-back (l.at_kept ∙ sym p) m))
        (λ m. subst (λ (i : Termination). same_termination σ i b ≡ true) l.given (positions_agree σ y z b fit (k.at_kept ∙ p) m))

module _ (σ : List ℕ) (few : shards σ ≤ 16) (v : Layout) (t : Termination) (ws : List (List ℕ)) (u : Layout) (r : Termination) (y : Layout) (z : Termination)
    (fits : (w : List ℕ) → OneOf w ws → Fits σ u r (contents_of w)) (also : (w : List ℕ) → OneOf w ws → Fits σ y z (contents_of w)) where
  termination-of : u ≡ y → OldTermination v t ws u r ⊎ NewTermination σ v t ws u r → OldTermination v t ws y z ⊎ NewTermination σ v t ws y z → r ≡ z
  termination-of e (inl o) (inl n) = o.given ∙ sym n.given
  termination-of e (inl o) (inr l) = termination_apart σ v t ws u r y z e o l
  termination-of e (inr k) (inl n) = termination_apart σ v t ws y z u r (sym e) n k
  termination-of e (inr k) (inr l) = k.given ∙ (terminations_equal σ v t ws u r y z few fits also e k l ∙ sym l.given)

  pub termination_agrees : KeptThrough σ v t ws u r → KeptThrough σ v t ws y z → r ≡ z
  termination_agrees k l = termination-of ((view_agrees σ few v t ws u r y z fits also) k l) k.termination l.termination
