-- The numbers that a report can be refused by beside what is kept and remembered: 5 to 7, 10 to 13 and 18 alone, and 8, 9, 16 and 17
-- with a record.
use Rattle.std.specs.Prelude.{ℕ, ◌≤◌, ◌<◌, Bool, true, ◌⊎◌, List, ◌≡◌, refl}
use Rattle.std.proofs.Common.{inl, inr, ⊎_elim, ap, ◌∙◌, arith}
use Rattle.std.proofs.Math.Path.{subst⁻¹}
use Rattle.base_laws.specs.Bools.{either}
use Rattle.base_ids.specs.declared.Refusal.{Refusal}
use Rattle.base_ids.specs.Definitions.{none, refused, accepted, located, unless, unless_at, first_of}
use Rattle.base_ids.specs.Refusals.{unless_true, unless_false, unless_at_true, unless_at_false, number_at, first_none, first_refused, accepted_none}
use Rattle.message_format.specs.declared.Form.TheVariants.{Report}
use Rattle.message_format.specs.Definitions.{records_refusal, head_refusal, message_refusal}
use Rattle.report_views.specs.declared.Layout.{Layout}
use Rattle.report_views.specs.declared.Termination.{Termination}
use Rattle.report_rows.specs.declared.latest.Latest.{Latest}
use Rattle.report_kept.specs.Definitions.{kept_refusal, refusal_beside}
use Rattle.program_run_laws.specs.Numbers.{OfReport}

-- no refusal, or one of these
abbrev InRows : Refusal → Type 0
InRows r = (r.code ≡ 0) ⊎ OfReport r

in-none : InRows none
in-none = inl refl

in_row : (ok : Bool) (k : ℕ) (rest : Refusal) → OfReport (refused k) → InRows rest → InRows (unless ok k rest)
in_row ok k rest h r =
    ⊎_elim (λ e. subst⁻¹ (λ (x : Refusal). InRows x) (unless_true ok k rest e) r)
    (λ e. subst⁻¹ (λ (x : Refusal). InRows x) (unless_false ok k rest e) (inr h))
    (either ok)

in-unless-at : (ok : Bool) (k i : ℕ) (rest : Refusal) → k < 256 → located k ≡ true → InRows rest → InRows (unless_at ok k i rest)
in-unless-at ok k i rest l h r =
    ⊎_elim (λ e. subst⁻¹ (λ (x : Refusal). InRows x) (unless_at_true ok k i rest e) r)
    (λ e. subst⁻¹ (λ (x : Refusal). InRows x) (unless_at_false ok k i rest e) (inr (inl (ap located (number_at k i l) ∙ h))))
    (either ok)

in-unless : (ok : Bool) (k : ℕ) (rest : Refusal) → 5 ≤ k → k ≤ 13 → InRows rest → InRows (unless ok k rest)
in-unless ok k rest l h = in_row ok k rest (inr (inl (l, h)))

in-first : (a b : Refusal) → InRows a → InRows b → InRows (first_of a b)
in-first a b p q =
    ⊎_elim (λ e. subst⁻¹ (λ (x : Refusal). InRows x) (first_none a b (accepted_none a e)) q)
    (λ e. subst⁻¹ (λ (x : Refusal). InRows x) (first_refused a b e) p)
    (either (accepted a))

in-message : (σ w : List ℕ) → InRows (message_refusal Report σ w)
unfolding message_refusal head_refusal records_refusal located
in-message σ w =
    in-unless _ 5 _ (omega arith) (omega arith)
    (in-first _ _ (in-unless _ 6 _ (omega arith) (omega arith) (in-unless _ 7 _ (omega arith) (omega arith) in-none))
    (in-unless-at _ 8 _ _ (omega arith) refl
    (in-unless-at _ 9 _ _ (omega arith) refl
    (in-unless-at _ 16 _ _ (omega arith) refl
    (in-unless-at _ 17 _ _ (omega arith) refl
    (in-unless-at _ 17 _ _ (omega arith) refl
    (in-unless _ 10 _ (omega arith) (omega arith) (in-unless _ 11 _ (omega arith) (omega arith) in-none))))))))

pub in-beside : (σ : List ℕ) (v : Layout) (t : Termination) (m : Latest) (w : List ℕ) → InRows (refusal_beside σ v t m w)
unfolding refusal_beside kept_refusal
in-beside σ v t m w =
    in-first _ _ (in-message σ w)
    (in_row _ 18 _ (inr (inr refl)) (in-unless _ 12 _ (omega arith) (omega arith) (in-unless _ 13 _ (omega arith) (omega arith) in-none)))
