-- What the page call answers and leaves, case by case: lengths, settings, role or state are wrong, the state is not sound, the page is written.
use Rattle.std.specs.Prelude.{ℕ, Bool, true, ◌&&◌, List, ◌≡◌, refl, eqb, length}
use Rattle.std.proofs.Math.Path.{sym, ap}
use Rattle.std.proofs.Common.{◌∙◌, subst}
use borrow.Author.Tests.{eqb-true, eq-eqb, ne_eqb}
use Rattle.base_laws.specs.Bools.{clash}
use Rattle.base_bytes.specs.Definitions.{bytes_of}
use Rattle.base_lent.specs.Definitions.{words_in, with_length}
use Rattle.base_ids.specs.declared.Refusal.{Refusal}
use Rattle.base_ids.specs.Definitions.{accepted}
use Rattle.base_ids.specs.Refusals.{first_refused}
use Rattle.state_planner.specs.declared.State.{State}
use Rattle.state_page.specs.declared.Paged.{Paged}
use Rattle.state_page.specs.Definitions.{sound_refusal, PageUnder}
use Rattle.c_state_words.specs.Definitions.{is_state, page_words}
use Rattle.c_state.specs.declared.CallFinds.{CallFinds}
use Rattle.c_state.specs.Definitions.{state_lent, lengths_ok, entry_refused, called}
use Rattle.c_state.specs.Calls.{entry}
use Rattle.c_state.specs.CallLaws.{buffer_entry, buffer_passes}
use Rattle.c_events.specs.Definitions.{readable, page_refused, PageCall}

module _ (role : ℕ) (settings state desk : List ℕ) (g : ℕ) (buffer : List ℕ) where
  abbrev Call : ℕ → List ℕ → Type 0
  Call answer left = PageCall role settings state desk g buffer answer left

  abbrev refused_page : Refusal
  refused_page = page_refused role settings state desk g buffer

  -- the call's refusal is r
  refused_by : (r : Refusal) → refused_page ≡ r → (r.code ≡ 0 → ⊥) → Call r.code buffer
  refused_by r e h =
      record {
        refused = λ n. (sym (ap (λ (x : Refusal). x.code) e), refl);
        shown = λ a. absurd (h (sym (ap (λ (x : Refusal). x.code) e) ∙ eqb-true refused_page.code 0 a));
      }

  module _ (allowed : Bool) (may : allowed ≡ readable role g) (lengths : Bool)
      (ok : lengths ≡ (eqb (length desk) 65536 && eqb (length buffer) 2048)) (e : CallFinds) (given : e ≡ entry allowed lengths settings state) where
    asked : e ≡ entry (readable role g) lengths settings state
    asked = given ∙ ap (λ (b : Bool). entry b lengths settings state) may

    pub page_not_entered : (e.refusal.code ≡ 0 → ⊥) → Call e.refusal.code buffer
    unfolding page_refused called entry
    page_not_entered h =
        let first : e.refusal ≡ entry_refused (readable role g) (lengths_ok desk buffer) settings (is_state (words_in state)) =
        ap (λ (x : CallFinds). x.refusal) (buffer_entry (readable role g) settings state desk buffer lengths ok e asked) in
        refused_by e.refusal
        (first_refused (entry_refused (readable role g) (lengths_ok desk buffer) settings (is_state (words_in state))) _
        (ap accepted (sym first) ∙ ne_eqb e.refusal.code 0 h)
        ∙ sym first)
        h

    module _ (h : e.refusal.code ≡ 0) (p : Paged) (under : PageUnder (words_in settings) e.state (words_in desk) g p) where
      same_state : e.state ≡ state_lent state
      same_state = (buffer_passes (readable role g) settings state desk buffer lengths ok e asked h).state_is

      here : PageUnder (words_in settings) (state_lent state) (words_in desk) g p
      here = subst (λ (x : State). PageUnder (words_in settings) x (words_in desk) g p) same_state under

      refusal_is : refused_page ≡ p.refusal
      unfolding page_refused
      refusal_is =
          (buffer_passes (readable role g) settings state desk buffer lengths ok e asked h).event
          (sound_refusal (words_in settings) (state_lent state) (words_in desk))
          ∙ sym here.answers

      pub page-refused : (p.refusal.code ≡ 0 → ⊥) → Call p.refusal.code buffer
      page-refused n = refused_by p.refusal refusal_is n

      pub page_shown : p.refusal.code ≡ 0 → (words : List ℕ) → words ≡ page_words p.page → (answer : ℕ) (left : List ℕ)
          → answer ≡ with_length 72 → left ≡ bytes_of words → Call answer left
      page_shown n words f answer left a l =
          let taken : accepted refused_page ≡ true = ap accepted refusal_is ∙ eq-eqb p.refusal.code 0 n in
          record {
            refused = λ r. clash taken r;
            shown =
                λ _. record {
                  page = p.page;
                  shows = here.shows (sym (ap accepted here.answers) ∙ eq-eqb p.refusal.code 0 n);
                  answers = a;
                  leaves = l ∙ ap bytes_of f;
                };
          }
