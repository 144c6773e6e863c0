-- What the held reports give depends on their contents alone: desks whose held slots say the same give the same quorum, holders and
-- targets, whatever stands off the chains and in other slots.
use Rattle.std.specs.Prelude.{ℕ, ◌<◌, Bool, true, ◌&&◌, List, [], ◌≡◌, ltb, length, take, drop}
use Rattle.std.proofs.Math.Bool.{cond}
use Rattle.std.proofs.Math.Logic.{⊎_elim}
use Rattle.std.proofs.Math.Path.{sym, ap, ap₂}
use Rattle.std.proofs.Common.{◌∙◌, subst, arith}
use Rattle.std.proofs.Math.Dec.{eqb}
use Rattle.std.proofs.Math.Seq.{take-nil, drop-length}
use Rattle.base_laws.specs.Bools.{either, lt_or_le, and_left, and_fails_left}
use Rattle.base_laws.specs.Below.{lowest_cong}
use Rattle.base_laws.specs.Definitions.{has}
use Rattle.base_laws.specs.Tables.{tabulate_cong}
use Rattle.settings_values.specs.Definitions.{shards}
use Rattle.base_ids.specs.declared.Node.{Node}
use Rattle.base_ids.specs.declared.Position.{Position}
use Rattle.message_format.specs.declared.Contents.{Contents}
use Rattle.message_format.specs.Definitions.{contents_of}
use Rattle.report_views.specs.declared.Layout.{Layout}
use Rattle.report_views.specs.declared.Termination.{Termination}
use Rattle.report_views.specs.Definitions.{start, end_of, has_update, slot, report_of, end_at, mask_at, position_at, candidate, best, target, able, holder, first_unheld, quorum_of, holders_of, targets_of}
use Rattle.report_views.specs.Shorthands.{has_at, unheld, view_of}
use Rattle.report_views.specs.Standings.{standing_of}
use Rattle.report_views.specs.Best.{best_cong, best_given, best_le}
use Rattle.report_views.specs.Agreeing.{SameReports}

-- past the desk there is nothing
slot_past : (d : List ℕ) → length d ≡ 16384 → slot d 32 ≡ []
unfolding slot
slot_past d h =
    ap (take 512) (ap (λ (n : ℕ). drop n d) (sym h) ∙ drop-length d) ∙ take-nil 512

report_past : (d e : List ℕ) → length d ≡ 16384 → length e ≡ 16384 → report_of d 32 ≡ report_of e 32
unfolding report_of
report_past d e h k = ap contents_of (slot_past d h ∙ sym (slot_past e k))

module _ (σ : List ℕ) (v : Layout) (t : Termination) (held : ℕ) (d e : List ℕ) (same : SameReports held d e) where
  candidate_held : (s n : ℕ) → candidate v held d s n ≡ true → has held n ≡ true
  unfolding candidate
  candidate_held s n h =
      and_left (has held n) (has (mask_at v s) n) (and_left (has held n && has (mask_at v s) n) (eqb (view_of d n) v.number.0) h)

  candidate_agrees : (s n : ℕ) → n < 32 → candidate v held d s n ≡ candidate v held e s n
  unfolding candidate
  candidate_agrees s n l =
      ⊎_elim (λ h. ap (λ (c : Contents). has held n && has (mask_at v s) n && eqb c.view.0 v.number.0) (same.told n l h))
      (λ h. rw h) (either (has held n))

  -- the end of a candidate's log
  end_agrees : (s n : ℕ) → n < 32 → candidate v held d s n ≡ true → end_at d s n ≡ end_at e s n
  end_agrees s n l h = ap (λ (c : Contents). end_of c.body s c.len) (same.told n l (candidate_held s n h))

  module _ (long : length d ≡ 16384) (wide : length e ≡ 16384) where
    -- that of the best candidate, or of none
    last_agrees : (s : ℕ) → end_at d s (best (candidate v held d s) (end_at d s) 32) ≡ end_at e s (best (candidate v held e s) (end_at e s) 32)
    last_agrees s =
        ⊎_elim (λ l. end_agrees s b l (best_given (candidate v held d s) (end_at d s) 32 l).picked)
        (λ l.
        let z : 32 ≡ b = omega (arith, best_le (candidate v held d s) (end_at d s) 32) in
        subst (λ (n : ℕ). end_at d s n ≡ end_at e s n) z (ap (λ (c : Contents). end_of c.body s c.len) (report_past d e long wide)))
        (lt_or_le b 32)
        ∙ ap (end_at e s) (best_cong (candidate v held d s) (candidate v held e s) (end_at d s) (end_at e s) 32 (candidate_agrees s) (end_agrees s))
      where
        b : ℕ
        b = best (candidate v held d s) (end_at d s) 32

    pub target_agrees : (s : ℕ) → target v t held d s ≡ target v t held e s
    unfolding target
    target_agrees s = ap (λ (p : Position). cond t.made (position_at t s) p) (last_agrees s)

    able_agrees : (s n : ℕ) → n < 32 → able v t held d s n ≡ able v t held e s n
    unfolding able
    able_agrees s n l =
        ⊎_elim
        (λ h.
        ap₂ (λ (b c : Bool). b && c) (candidate_agrees s n l)
        (ap (λ (c : Contents). has_update c.body c.len s (target v t held d s)) (same.told n l (candidate_held s n h))
        ∙ ap (λ (p : Position). has_at e s p n) (target_agrees s)))
        (λ h.
        and_fails_left (has_at d s (target v t held d s) n) h
        ∙ sym (and_fails_left (has_at e s (target v t held e s) n) (sym (candidate_agrees s n l) ∙ h)))
        (either (candidate v held d s n))

    pub holder_agrees : (s : ℕ) → holder v t held d s ≡ holder v t held e s
    unfolding holder able
    holder_agrees s =
        best_cong (able v t held d s) (able v t held e s) (end_at d s) (end_at e s) 32 (able_agrees s)
        (λ n l h. end_agrees s n l (and_left (candidate v held d s n) (has_at d s (target v t held d s) n) h))

    first_agrees : first_unheld σ v t held d ≡ first_unheld σ v t held e
    unfolding first_unheld
    first_agrees =
        lowest_cong (shards σ) (unheld v t held d) (unheld v t held e) (λ s l. ap (λ (n : ℕ). eqb n 32) (holder_agrees s))

    pub quorum_agrees : quorum_of σ v t held d ≡ quorum_of σ v t held e
    unfolding quorum_of
    quorum_agrees = rw first_agrees

    -- the quorum, holders and targets
    pub standing_agrees : standing_of σ v t held d ≡ standing_of σ v t held e
    unfolding standing_of holders_of targets_of
    standing_agrees =
        let a = quorum_agrees in
        let b : holders_of σ v t held d ≡ holders_of σ v t held e =
        tabulate_cong {A = Node} 16 (λ s. record { 0 = cond (ltb s (shards σ)) (holder v t held d s) 0 }) (λ s. record { 0 = cond (ltb s (shards σ)) (holder v t held e s) 0 })
        (λ s l. ap {B = Node} (λ (n : ℕ). record { 0 = cond (ltb s (shards σ)) n 0 }) (holder_agrees s)) in
        let c : targets_of σ v t held d ≡ targets_of σ v t held e =
        tabulate_cong {A = Position} 16 (λ s. cond (ltb s (shards σ)) (target v t held d s) start) (λ s. cond (ltb s (shards σ)) (target v t held e s) start)
        (λ s l. ap (λ (p : Position). cond (ltb s (shards σ)) p start) (target_agrees s)) in
        λ i. record { quorum = a i; holders = b i; targets = c i }
