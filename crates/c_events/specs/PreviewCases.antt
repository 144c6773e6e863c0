-- What the calls answer and leave, case by case; and that a wait's shard or subgroup fits its answer.
use Rattle.std.specs.Prelude.{ℕ, ◌≤◌, ◌<◌, Bool, true, false, ◌&&◌, List, [], ◌∷◌, ◌≡◌, refl, eqb, length, get_or, set, replicate}
use Rattle.std.proofs.Common.{⊎_elim, ◌∙◌, subst, arith, lit≤, length-set, get_or-set_same, get_or-set_other}
use Rattle.std.proofs.Math.Path.{sym, ap, subst⁻¹}
use Rattle.std.proofs.lemmas.List.{length-replicate, get_or-replicate}
use Rattle.std.proofs.Math.ListN.{get_or-eq_default}
use borrow.Author.Tests.{eqb-true, eq-eqb, ne_eqb}
use Rattle.base_laws.specs.Bools.{either, clash, eq_or_ne}
use Rattle.base_laws.specs.Definitions.{padded}
use Rattle.base_laws.specs.Tables.{padded_ext}
use Rattle.base_bytes.specs.Definitions.{bytes_of}
use Rattle.base_lent.specs.Definitions.{words_in, with_length}
use Rattle.base_ids.specs.declared.Refusal.{Refusal}
use Rattle.base_ids.specs.Definitions.{accepted}
use Rattle.base_ids.specs.Refusals.{first_refused}
use Rattle.settings_values.specs.Definitions.{settings_ok}
use Rattle.state_planner.specs.declared.State.{State}
use Rattle.state_planner.specs.declared.Decided.{Decided}
use Rattle.state_planner.specs.Definitions.{decide_refusal, after_drop}
use Rattle.state_preview.specs.declared.Warning.{Warning}
use Rattle.state_preview.specs.Definitions.{preview_refusal, Previews, Warns}
use Rattle.c_state_words.specs.Definitions.{is_state}
use Rattle.c_state.specs.declared.CallFinds.{CallFinds}
use Rattle.c_state.specs.Definitions.{state_lent, lengths_ok, by_planner, entry_refused, called}
use Rattle.c_state.specs.Calls.{entry}
use Rattle.c_state.specs.CallLaws.{buffer_entry, buffer_passes}
use Rattle.c_events.specs.Definitions.{decision_word, preview_leaves, preview_entry, PreviewCall, warn_refused, WarnCall}
use Rattle.c_events.specs.Decisions.{decision_value}
use Rattle.c_events.specs.DecideCases.{decision_small}

-- the shard or subgroup that a preview names is small
pub preview_small : (σ : List ℕ) (x : State) (d : List ℕ) (n : ℕ) (o : Decided) → settings_ok σ ≡ true → Previews σ x d n o → decision_value o.decision ≤ 16
preview_small σ x d n o ok w = ⊎_elim (λ t. decision_small σ (after_drop x n) d o ok (w.decides t)) refusing (either (accepted (preview_refusal σ x d n)))
  where
    refusing : accepted (preview_refusal σ x d n) ≡ false → decision_value o.decision ≤ 16
    refusing f = subst⁻¹ (λ (q : Decided). decision_value q.decision ≤ 16) (w.refused f) (lit≤ tt)

-- a mask before zeros
pub mask_padded : (m : ℕ) → set (replicate 512 0) 0 m ≡ padded 512 (m ∷ [])
mask_padded m =
    padded_ext 512 (m ∷ []) (set (replicate 512 0) 0 m) (length-set (replicate 512 0) 0 m ∙ length-replicate {A = ℕ} 512 0)
    (λ k l. ⊎_elim (λ e. first k e) (λ e. rest k l e) (eq_or_ne k 0))
  where
    first : (k : ℕ) → k ≡ 0 → get_or (set (replicate 512 0) 0 m) k 0 ≡ get_or (m ∷ []) k 0
    first k e =
        subst⁻¹ (λ (j : ℕ). get_or (set (replicate 512 0) 0 m) j 0 ≡ get_or (m ∷ []) j 0) e
        (get_or-set_same (replicate 512 0) 0 m 0 (omega (arith, length-replicate {A = ℕ} 512 0)))

    rest : (k : ℕ) → k < 512 → (k ≡ 0 → ⊥) → get_or (set (replicate 512 0) 0 m) k 0 ≡ get_or (m ∷ []) k 0
    rest k l e = get_or-set_other (replicate 512 0) 0 k m 0 e ∙ get_or-replicate 512 k 0 0 l ∙ sym (get_or-eq_default (m ∷ []) 0 {n = k} (omega arith))

module _ (role : ℕ) (settings state desk buffer : List ℕ) (lengths : Bool)
    (ok : lengths ≡ (eqb (length desk) 65536 && eqb (length buffer) 2048)) (e : CallFinds) (given : e ≡ entry (by_planner role) lengths settings state) where
  first_is : e.refusal ≡ entry_refused (by_planner role) (lengths_ok desk buffer) settings (is_state (words_in state))
  unfolding entry
  first_is = ap (λ (x : CallFinds). x.refusal) (buffer_entry (by_planner role) settings state desk buffer lengths ok e given)

  module _ (h : e.refusal.code ≡ 0) where
    state_is : e.state ≡ state_lent state
    state_is = (buffer_passes (by_planner role) settings state desk buffer lengths ok e given h).state_is

  -- ---- preview

  module _ (node : ℕ) where
    entry_is : e.refusal ≡ preview_entry role settings state desk buffer
    unfolding preview_entry
    entry_is = first_is

    pub preview_refused : (e.refusal.code ≡ 0 → ⊥) → PreviewCall role settings state desk node buffer e.refusal.code buffer
    preview_refused h =
        record {
          refused = λ n. (ap (λ (r : Refusal). r.code) entry_is, refl);
          previewed = λ a. absurd (h (ap (λ (r : Refusal). r.code) entry_is ∙ eqb-true (preview_entry role settings state desk buffer).code 0 a));
        }

    pub preview_done : e.refusal.code ≡ 0 → (o : Decided) → Previews (words_in settings) e.state (words_in desk) node o
        → (answer : ℕ) (left : List ℕ) → answer ≡ decision_word o.decision → left ≡ preview_leaves o.decision o.state buffer
        → PreviewCall role settings state desk node buffer answer left
    preview_done h o previews answer left f g =
        record {
          refused =
              λ n. clash (eq-eqb (preview_entry role settings state desk buffer).code 0 (sym (ap (λ (r : Refusal). r.code) entry_is) ∙ h)) n;
          previewed =
              λ a. record {
                outcome = o;
                previews = subst (λ (x : State). Previews (words_in settings) x (words_in desk) node o) (state_is h) previews;
                answers = f;
                leaves = g;
              };
        }

  -- ---- preview_all

  abbrev Warned : ℕ → List ℕ → Type 0
  Warned answer left = WarnCall role settings state desk buffer answer left

  refused_by : (r : Refusal) → warn_refused role settings state desk buffer ≡ r → (r.code ≡ 0 → ⊥) → Warned r.code buffer
  refused_by r i h =
      record {
        refused = λ n. (sym (ap (λ (x : Refusal). x.code) i), refl);
        warned = λ a. absurd (h (sym (ap (λ (x : Refusal). x.code) i) ∙ eqb-true (warn_refused role settings state desk buffer).code 0 a));
      }

  pub warn_not_entered : (e.refusal.code ≡ 0 → ⊥) → Warned e.refusal.code buffer
  unfolding warn_refused called
  warn_not_entered h =
      refused_by e.refusal
      (first_refused (entry_refused (by_planner role) (lengths_ok desk buffer) settings (is_state (words_in state))) _
      (ap accepted (sym first_is) ∙ ne_eqb e.refusal.code 0 h)
      ∙ sym first_is)
      h

  module _ (h : e.refusal.code ≡ 0) (w : Warning) (warns : Warns (words_in settings) e.state (words_in desk) w) where
    here : Warns (words_in settings) (state_lent state) (words_in desk) w
    here = subst (λ (x : State). Warns (words_in settings) x (words_in desk) w) (state_is h) warns

    refusal_is : warn_refused role settings state desk buffer ≡ w.refusal
    unfolding warn_refused
    refusal_is =
        (buffer_passes (by_planner role) settings state desk buffer lengths ok e given h).event
        (decide_refusal (words_in settings) (state_lent state) (words_in desk))
        ∙ sym here.answers

    pub warn-refused : (w.refusal.code ≡ 0 → ⊥) → Warned w.refusal.code buffer
    warn-refused n = refused_by w.refusal refusal_is n

    pub warn_told : w.refusal.code ≡ 0 → (answer : ℕ) (left : List ℕ) → answer ≡ with_length 1
        → left ≡ bytes_of (set (replicate 512 0) 0 w.lost) → Warned answer left
    warn_told n answer left a l =
        record {
          refused = λ r. clash (ap accepted refusal_is ∙ eq-eqb w.refusal.code 0 n) r;
          warned = λ _. record { warning = w; warns = here; answers = a; leaves = l ∙ ap bytes_of (mask_padded w.lost) };
        }
