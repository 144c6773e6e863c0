-- Nothing but the subgroup shows, byte for byte: from what the call promises alone, so of any program that meets it.
use Rattle.std.specs.Prelude.{ℕ, Bool, true, false, List, ◌≡◌, refl, length}
use Rattle.std.proofs.Common.{⊎_elim, sym, ◌∙◌}
use Rattle.std.proofs.Math.Path.{ap}
use borrow.Author.Tests.{eqb-true}
use Rattle.base_laws.specs.Bools.{either, clash, and_left}
use Rattle.base_bytes.specs.Definitions.{bytes_of}
use Rattle.base_lent.specs.Definitions.{words_in}
use Rattle.base_ids.specs.declared.Refusal.{Refusal}
use Rattle.base_ids.specs.Definitions.{none, accepted, unless}
use Rattle.base_ids.specs.Refusals.{accepted_none, unless_ok, unless_rest, first_left, first_right}
use Rattle.base_roles.specs.Definitions.{role_of}
use Rattle.settings_values.specs.Definitions.{settings_ok}
use Rattle.settings_values.specs.Laws.{settings_give}
use Rattle.plan_page.specs.declared.Page.{Page}
use Rattle.state_planner.specs.declared.State.{State}
use Rattle.state_planner.specs.Definitions.{sound, desk_ok}
use Rattle.state_page.specs.declared.Paged.{Paged}
use Rattle.state_page.specs.Definitions.{sound_refusal, PageCalled}
use Rattle.state_page.specs.Watchers.{AgreeStates, Whole, whole_shown, readers_see}
use Rattle.c_state_words.specs.Definitions.{is_state, page_words}
use Rattle.c_state.specs.Definitions.{state_lent, lengths_ok, entry_refused, called}
use Rattle.c_state.specs.Barred.{barred, barred_refuses, called_barred, Bars}
use Rattle.c_events.specs.Definitions.{readable, page_refused, PageAt, PageCall}

-- what a call that is not refused was lent
module _ (role : ℕ) (settings state desk : List ℕ) (g : ℕ) (buffer : List ℕ) (h : accepted (page_refused role settings state desk g buffer) ≡ true) where
  abbrev before_state : Refusal
  before_state = entry_refused (readable role g) (lengths_ok desk buffer) settings (is_state (words_in state))

  none_is : called (readable role g) (lengths_ok desk buffer) settings state (sound_refusal (words_in settings) (state_lent state) (words_in desk)) ≡ none
  unfolding page_refused
  none_is = accepted_none _ h

  entered : before_state ≡ none
  unfolding called
  entered = first_left before_state _ none_is

  followed : unless (settings_ok (words_in settings)) 2 (unless (readable role g) 15 (unless (is_state (words_in state)) 3 none)) ≡ none
  unfolding entry_refused
  followed = unless_rest (lengths_ok desk buffer) 0 _ entered

  lengths_right : lengths_ok desk buffer ≡ true
  unfolding entry_refused
  lengths_right = unless_ok (lengths_ok desk buffer) 0 _ entered

  taken_role : readable role g ≡ true
  taken_role = unless_ok (readable role g) 14 _ (unless_rest (settings_ok (words_in settings)) 1 _ followed)

  taken_whole : Whole (words_in settings) (state_lent state) (words_in desk)
  unfolding called sound_refusal
  taken_whole =
      record {
        right = settings_give (words_in settings) (unless_ok (settings_ok (words_in settings)) 1 _ followed);
        desk = eqb-true (length (words_in desk)) 16384 (and_left (desk_ok (words_in desk)) _ lengths_right);
        safe = unless_ok (sound (words_in settings) (state_lent state) (words_in desk)) 2 none (first_right before_state _ none_is);
      }

-- the page call's promise over words, of a page that it shows
shows_called : (role : ℕ) {σ d : List ℕ} {x : State} (g : ℕ) {p : Page} → readable role g ≡ true → Whole σ x d → PageAt σ x d g p
    → PageCalled σ x d (role_of role) g (record { refusal = none; page = p })
shows_called role g m w s =
    record { answers = sym (whole_shown (role_of role) g w m); blank = λ n. clash (ap accepted (whole_shown (role_of role) g w m)) n; shows = λ _. s }

-- two accepted calls, by whatever roles, whose states agree on all that the subgroup's page may depend on: equal answers and equal bytes
module _ {role other : ℕ} {settings settings' state state' desk desk' : List ℕ} {g : ℕ} {buffer buffer' : List ℕ} {a b : ℕ} {l m : List ℕ}
    (p : PageCall role settings state desk g buffer a l) (q : PageCall other settings' state' desk' g buffer' b m)
    (h : accepted (page_refused role settings state desk g buffer) ≡ true) (k : accepted (page_refused other settings' state' desk' g buffer') ≡ true) where
  pub same_bytes : AgreeStates g (words_in settings) (words_in settings') (state_lent state) (state_lent state') (words_in desk) (words_in desk')
      → (a ≡ b) × (l ≡ m)
  same_bytes same =
      let v = p.shown h in
      let w = q.shown k in
      let whole = taken_whole role settings state desk g buffer h in
      let whole' = taken_whole other settings' state' desk' g buffer' k in
      let may = taken_role role settings state desk g buffer h in
      let may' = taken_role other settings' state' desk' g buffer' k in
      let one : v.page ≡ w.page =
      ap (λ (x : Paged). x.page)
      (readers_see whole whole' same (role_of role) (role_of other) may may' (shows_called role g may whole v.shows)
      (shows_called other g may' whole' w.shows)).1 in
      (v.answers ∙ sym w.answers, v.leaves ∙ ap (λ (x : Page). bytes_of (page_words x)) one ∙ sym w.leaves)

-- a state agrees with itself
agree_self : (g : ℕ) (σ : List ℕ) (x : State) (d : List ℕ) → AgreeStates g σ σ x x d d
agree_self g σ x d =
    record {
      phases = refl;
      holding = refl;
      parts =
          record {
            settings =
                record {
                  nodes_same = refl;
                  sets_same = λ n l. refl;
                  shards_same = λ s. refl;
                  needs_same = λ s o. refl;
                  caps_same = λ s o. refl;
                };
            number = refl;
            views = λ n l o. refl;
            made = refl;
            masks = λ s o. refl;
            positions = λ s o. refl;
            runs = λ s o n l f. refl;
            plan = λ s o. refl;
          };
    }

-- the promise leaves no freedom: one answer meets it, and the same bytes
pub page_unique : {role : ℕ} {settings state desk : List ℕ} {g : ℕ} {buffer : List ℕ} {a b : ℕ} {l m : List ℕ}
    → PageCall role settings state desk g buffer a l → PageCall role settings state desk g buffer b m → (a ≡ b) × (l ≡ m)
page_unique {role} {settings} {state} {desk} {g} {buffer} p q =
    ⊎_elim (λ h. same_bytes p q h h (agree_self g (words_in settings) (state_lent state) (words_in desk)))
    (λ h. ((p.refused h).0 ∙ sym (q.refused h).0, (p.refused h).1 ∙ sym (q.refused h).1))
    (either (accepted (page_refused role settings state desk g buffer)))

-- ---- a role to which the page is not allowed

module _ {role : ℕ} {settings : List ℕ} {g : ℕ} (n : readable role g ≡ false) where
  -- it is answered by lengths and settings alone, and no byte changes
  pub page_barred : {state desk buffer : List ℕ} {a : ℕ} {l : List ℕ} → PageCall role settings state desk g buffer a l
      → Bars (lengths_ok desk buffer) settings buffer a l
  unfolding page_refused
  page_barred {state} {desk} {buffer} p =
      let e = called_barred (readable role g) (lengths_ok desk buffer) settings state (sound_refusal (words_in settings) (state_lent state) (words_in desk)) n in
      let r = p.refused (ap accepted e ∙ barred_refuses (lengths_ok desk buffer) settings) in
      record { answers = r.0 ∙ ap (λ (x : Refusal). x.code) e; leaves = r.1 }

  -- so two calls beside whatever states and desks, of which only the lengths are looked at, answer the same and leave what was lent
  pub barred_blind : {state state' desk desk' buffer buffer' : List ℕ} {a b : ℕ} {l m : List ℕ} → lengths_ok desk buffer ≡ lengths_ok desk' buffer'
      → PageCall role settings state desk g buffer a l → PageCall role settings state' desk' g buffer' b m
      → (a ≡ b) × ((l ≡ buffer) × (m ≡ buffer'))
  barred_blind e p q =
      let x = page_barred p in
      let y = page_barred q in
      (x.answers ∙ ap (λ (w : Bool). (barred w settings).code) e ∙ sym y.answers, (x.leaves, y.leaves))
