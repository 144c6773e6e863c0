-- Rows 1 and 2 before the others: that a call which they refuse is refused so, and what is right where they do not.
use Rattle.std.specs.Prelude.{ℕ, Bool, List, ◌≡◌, length}
use Rattle.std.proofs.Math.Bool.{true, false}
use Rattle.std.proofs.Common.{sym, ap, ◌∙◌}
use borrow.Author.Tests.{eqb-true, ne_eqb}
use Rattle.settings_values.specs.Definitions.{settings_ok, Settings}
use Rattle.settings_values.specs.Laws.{settings_give}
use Rattle.base_ids.specs.declared.Refusal.{Refusal}
use Rattle.base_ids.specs.Definitions.{refused, none, unless}
use Rattle.base_ids.specs.Refusals.{unless_ok, unless_rest, rows_refused}
use Rattle.state_planner.specs.declared.State.{State}
use Rattle.state_planner.specs.Definitions.{sound, desk_ok, entry_refusal, event_refusal}
use Rattle.state_rows.specs.Definitions.{node_refusal}
use Rattle.state_planner.specs.Refusing.{call_refusal}

module _ (σ d : List ℕ) where
  pub call_length : desk_ok d ≡ false → refused 1 ≡ call_refusal σ d
  unfolding call_refusal unless
  call_length h = rw h

  pub call_settings : desk_ok d ≡ true → settings_ok σ ≡ false → refused 2 ≡ call_refusal σ d
  unfolding call_refusal unless
  call_settings h k = rw (h, k)

  pub call_none : desk_ok d ≡ true → settings_ok σ ≡ true → none ≡ call_refusal σ d
  unfolding call_refusal unless
  call_none h k = rw (h, k)

-- r is what the code found of rows 1 and 2
module _ (σ d : List ℕ) (r : Refusal) (e : r ≡ call_refusal σ d) where
  module _ (h : r.code ≡ 0) where
    calls : call_refusal σ d ≡ none
    calls = sym e ∙ ap refused h

    pub called_desk : length d ≡ 16384
    unfolding call_refusal
    called_desk = eqb-true (length d) 16384 (unless_ok (desk_ok d) 0 _ calls)

    pub called_settings : Settings σ
    unfolding call_refusal
    called_settings = settings_give σ (unless_ok (settings_ok σ) 1 none (unless_rest (desk_ok d) 0 _ calls))

  module _ (h : r.code ≡ 0 → ⊥) (x : State) (inPhase : Bool) where
    pub call_entry : r ≡ entry_refusal (desk_ok d) σ x d inPhase
    unfolding call_refusal entry_refusal unless
    call_entry = go (desk_ok d) (settings_ok σ) e
      where
        go : (a b : Bool) → r ≡ unless a 1 (unless b 2 none) → r ≡ unless a 1 (unless b 2 (unless (sound σ x d) 3 (unless inPhase 4 none)))
        go false b g = g
        go true false g = g
        go true true g = absurd (h (ap (λ (q : Refusal). q.code) g))

    pub call_event : (n : ℕ) (ok : Bool) → r ≡ event_refusal (desk_ok d) σ x d inPhase n ok
    unfolding event_refusal
    call_event n ok = rows_refused call_entry (node_refusal σ n ok) (ne_eqb r.code 0 h)
