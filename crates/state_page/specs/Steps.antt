-- The page call row by row, and what is handed back beside a refusal and without one.
use Rattle.std.specs.Prelude.{ℕ, Bool, List, ◌≡◌, length}
use Rattle.std.proofs.Math.Bool.{true, false}
use Rattle.std.proofs.Math.Path.{sym, ap}
use Rattle.std.proofs.Common.{◌∙◌, subst, eqb-true, eq-eqb}
use Rattle.base_laws.specs.Bools.{clash}
use Rattle.base_ids.specs.declared.Refusal.{Refusal}
use Rattle.base_ids.specs.Definitions.{refused, none, accepted, unless}
use Rattle.base_ids.specs.Refusals.{accepted_none, unless_ok, unless_rest}
use Rattle.base_roles.specs.declared.Role.{Role}
use Rattle.base_roles.specs.Definitions.{may_read}
use Rattle.settings_values.specs.Definitions.{settings_ok, Settings}
use Rattle.settings_values.specs.Laws.{settings_give, settings_of}
use Rattle.plan_seen.specs.declared.Seen.{Seen}
use Rattle.plan_seen.specs.Sight.{seen_of}
use Rattle.plan_page.specs.declared.Page.{Page}
use Rattle.plan_page.specs.Definitions.{blank_page}
use Rattle.plan_page.specs.Pages.{PageSeen}
use Rattle.plan_page.specs.Seeing.{page_seen}
use Rattle.state_planner.specs.declared.State.{State}
use Rattle.state_planner.specs.Definitions.{sound, desk_ok, entry_refusal}
use Rattle.state_planner.specs.Entry.{SoundState, sound_given}
use Rattle.state_page.specs.declared.Paged.{Paged}
use Rattle.state_page.specs.Definitions.{sound_refusal, page_refusal, PagedAs, PageCalled, PageUnder}
use Rattle.state_page.specs.Paging.{asked_refusal}

module _ (σ d : List ℕ) (role : Role) (g : ℕ) where
  pub asked_length : desk_ok d ≡ false → refused 1 ≡ asked_refusal σ d role g
  unfolding asked_refusal unless
  asked_length h = rw h

  pub asked_settings : desk_ok d ≡ true → settings_ok σ ≡ false → refused 2 ≡ asked_refusal σ d role g
  unfolding asked_refusal unless
  asked_settings h k = rw (h, k)

  pub asked_role : desk_ok d ≡ true → settings_ok σ ≡ true → may_read role g ≡ false → refused 15 ≡ asked_refusal σ d role g
  unfolding asked_refusal unless
  asked_role h k m = rw (h, k, m)

  pub asked_none : desk_ok d ≡ true → settings_ok σ ≡ true → may_read role g ≡ true → none ≡ asked_refusal σ d role g
  unfolding asked_refusal unless
  asked_none h k m = rw (h, k, m)

  -- a role that is not allowed, beside right lengths and settings: 15, whatever the state
  pub page_barred : (x : State) → may_read role g ≡ false → page_refusal σ x d role g ≡ asked_refusal σ d role g
  unfolding page_refusal asked_refusal unless
  page_barred x m = rw m

  pub page_allowed : (x : State) → desk_ok d ≡ true → settings_ok σ ≡ true → may_read role g ≡ true → page_refusal σ x d role g ≡ sound_refusal σ x d
  unfolding page_refusal unless
  page_allowed x h k m = rw (h, k, m)

-- r is what the code found of rows 1, 2 and 15
module _ (σ d : List ℕ) (role : Role) (g : ℕ) (r : Refusal) (e : r ≡ asked_refusal σ d role g) where
  pub record Passed : Type 0 where
    pub desk-ok : desk_ok d ≡ true
    pub settings-ok : settings_ok σ ≡ true
    pub allowed : may_read role g ≡ true

  module _ (h : r.code ≡ 0) where
    pub passed : Passed
    unfolding asked_refusal
    passed =
        let a : asked_refusal σ d role g ≡ none = sym e ∙ ap refused h in
        let b = unless_rest (desk_ok d) 0 _ a in
        let f = unless_rest (settings_ok σ) 1 _ b in
        record { desk-ok = unless_ok (desk_ok d) 0 _ a; settings-ok = unless_ok (settings_ok σ) 1 _ b; allowed = unless_ok (may_read role g) 14 none f }

    pub passed_settings : Settings σ
    passed_settings = settings_give σ passed.settings-ok

    pub passed_desk : length d ≡ 16384
    passed_desk = eqb-true (length d) 16384 passed.desk-ok

    pub passed_under : (x : State) {p : Paged} → PageUnder σ x d g p → PageCalled σ x d role g p
    passed_under x {p} w =
        subst (λ (q : Refusal). PagedAs q σ x d g p) (sym (page_allowed σ d role g x passed.desk-ok passed.settings-ok passed.allowed)) w

  pub asked_refuses : (x : State) → (r.code ≡ 0 → ⊥) → r ≡ page_refusal σ x d role g
  unfolding asked_refusal page_refusal unless
  asked_refuses x h = go (desk_ok d) (settings_ok σ) (may_read role g) e
    where
      go : (a b f : Bool) → r ≡ unless a 1 (unless b 2 (unless f 15 none)) → r ≡ unless a 1 (unless b 2 (unless f 15 (sound_refusal σ x d)))
      go false b f z = z
      go true false f z = z
      go true true false z = z
      go true true true z = absurd (h (ap (λ (q : Refusal). q.code) z))

-- row 3 as an event finds it, in whatever phase, where rows 1 and 2 do not refuse
pub sound_entry : (σ : List ℕ) (x : State) (d : List ℕ) → length d ≡ 16384 → Settings σ → entry_refusal (desk_ok d) σ x d true ≡ sound_refusal σ x d
unfolding entry_refusal sound_refusal unless
sound_entry σ x d l right = rw (eq-eqb (length d) 16384 l, settings_of σ right)

-- beside a refusal k
pub paged_refused : (σ : List ℕ) (x : State) (d : List ℕ) (g : ℕ) (k : Refusal) {r : Paged} {refusal : Refusal} → k ≡ refusal → (k.code ≡ 0 → ⊥)
    → (r.refusal ≡ k) × (r.page ≡ blank_page) → PagedAs refusal σ x d g r
paged_refused σ x d g k e h w =
    record {
      answers = w.0 ∙ e;
      blank = λ _. w.1;
      shows = λ t. absurd (h (eqb-true k.code 0 (ap accepted e ∙ t)));
    }

-- what row 3 gives where it does not refuse
pub sound_passed : (σ : List ℕ) (x : State) (d : List ℕ) → accepted (sound_refusal σ x d) ≡ true → SoundState σ x d
unfolding sound_refusal
sound_passed σ x d t = sound_given σ x d (unless_ok (sound σ x d) 2 none (accepted_none _ t))

pub paged_shown : (σ : List ℕ) (x : State) (d : List ℕ) (g : ℕ) (seen : Seen) {k : Refusal} {p : Page}
    → k ≡ sound_refusal σ x d → k.code ≡ 0 → seen ≡ seen_of σ x.kept x.termination x.held d
    → PageSeen σ x.phase x.kept x.held seen x.plan g p → PageUnder σ x d g (record { refusal = k; page = p })
paged_shown σ x d g seen {k} e h s w =
    record {
      answers = e;
      blank = λ f. clash (sym (ap accepted e) ∙ eq-eqb k.code 0 h) f;
      shows = λ t. page_seen σ x.kept x.termination x.held d (sound_passed σ x d t).slots-ok s w;
    }
