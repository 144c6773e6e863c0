-- What a watcher can learn: from what the page call promises alone, so of any program that meets it.
use Rattle.std.specs.Prelude.{ℕ, ◌^◌, ◌≤◌, ◌<◌, Bool, false, List, ◌≡◌, refl, length}
use Rattle.std.proofs.Math.Bool.{true}
use Rattle.std.proofs.Common.{sym, ap, ◌∙◌, subst, eq-eqb, le-leb}
use Rattle.base_laws.specs.Bools.{and_both}
use Rattle.base_ids.specs.declared.Refusal.{Refusal}
use Rattle.base_ids.specs.Definitions.{refused, none, accepted, unless}
use Rattle.base_roles.specs.declared.Role.{Role}
use Rattle.base_roles.specs.declared.Role.TheVariants.{Watcher}
use Rattle.base_roles.specs.Definitions.{may_read}
use Rattle.settings_values.specs.Definitions.{nodes, settings_ok, Settings}
use Rattle.settings_values.specs.Laws.{settings_of}
use Rattle.report_views.specs.declared.Phase.{Phase}
use Rattle.plan_restart.specs.Kept.{held_below}
use Rattle.plan_page.specs.declared.Page.{Page}
use Rattle.plan_page.specs.Definitions.{PageOf, blank_page}
use Rattle.plan_page.specs.Same.{AgreeOn}
use Rattle.plan_page.proofs.Same.{same_page}
use Rattle.state_planner.specs.declared.State.{State}
use Rattle.state_planner.specs.Definitions.{sound, desk_ok}
use Rattle.state_planner.specs.Entry.{sound_given}
use Rattle.state_page.specs.declared.Paged.{Paged}
use Rattle.state_page.specs.Definitions.{sound_refusal, page_refusal, PageCalled}
use Rattle.state_page.specs.Paging.{asked_refusal}
use Rattle.state_page.specs.Steps.{page_barred, page_allowed}

-- two states, each with its settings and desk, agree on all that the page of subgroup g may depend on
pub record AgreeStates (g : ℕ) (σ τ : List ℕ) (x y : State) (d e : List ℕ) : Type 0 where
  pub phases : x.phase ≡ y.phase
  pub holding : x.held ≡ y.held
  pub parts : AgreeOn g σ τ x.kept y.kept x.termination y.termination x.held d e x.plan y.plan

-- right settings, a whole desk and a sound state
pub record Whole (σ : List ℕ) (x : State) (d : List ℕ) : Type 0 where
  pub right : Settings σ
  pub desk : length d ≡ 16384
  pub safe : sound σ x d ≡ true

-- two pages that no row refuses
module _ {g : ℕ} {σ τ : List ℕ} {x y : State} {d e : List ℕ} (a : Whole σ x d) (b : Whole τ y e) (k : AgreeStates g σ τ x y d e) where
  pages_same : {p q : Page} → PageOf σ x.phase x.kept x.termination x.held d x.plan g p
      → PageOf τ y.phase y.kept y.termination y.held e y.plan g q → p ≡ q
  pages_same {p} {q} v w =
      same_page a.right b.right (subst (λ (h : ℕ). h < 2 ^ nodes τ) (sym k.holding) below) a.desk b.desk k.parts x.phase v
      (subst (λ (h : ℕ). PageOf τ x.phase y.kept y.termination h e y.plan g q) (sym k.holding)
      (subst (λ (at : Phase). PageOf τ at y.kept y.termination y.held e y.plan g q) (sym k.phases) w))
    where
      below : y.held < 2 ^ nodes τ
      below = held_below τ y.kept y.termination y.held (sound_given τ y e b.safe).kept-sound

-- the page of a whole state is refused to nobody to whom it is allowed
pub whole_shown : {σ : List ℕ} {x : State} {d : List ℕ} (role : Role) (g : ℕ) → Whole σ x d → may_read role g ≡ true → page_refusal σ x d role g ≡ none
unfolding sound_refusal unless
whole_shown {σ} {x} {d} role g a m =
    page_allowed σ d role g x (eq-eqb (length d) 16384 a.desk) (settings_of σ a.right) m ∙ rw a.safe

-- an answer is its refusal and its page
paged_is : {r q : Paged} → r.refusal ≡ q.refusal → r.page ≡ q.page → r ≡ q
paged_is a b = λ i. record { refusal = a i; page = b i }

-- two callers to whom the page of subgroup g is allowed get one page from states that agree on it, and neither is refused
module _ {g : ℕ} {σ τ : List ℕ} {x y : State} {d e : List ℕ} (a : Whole σ x d) (b : Whole τ y e) (k : AgreeStates g σ τ x y d e) where
  pub readers_see : (role other : Role) → may_read role g ≡ true → may_read other g ≡ true → {r q : Paged} → PageCalled σ x d role g r
      → PageCalled τ y e other g q → (r.refusal ≡ none) × (r ≡ q)
  readers_see role other m n v w =
      let s : page_refusal σ x d role g ≡ none = whole_shown role g a m in
      let t : page_refusal τ y e other g ≡ none = whole_shown other g b n in (
        v.answers ∙ s,
        paged_is (v.answers ∙ s ∙ sym (w.answers ∙ t)) (pages_same a b k (v.shows (ap accepted s)) (w.shows (ap accepted t))),
      )

  -- in particular the watcher of the subgroup
  pub watcher_sees : g ≤ 3 → {r q : Paged} → PageCalled σ x d (Watcher g) g r → PageCalled τ y e (Watcher g) g q → (r.refusal ≡ none) × (r ≡ q)
  unfolding may_read
  watcher_sees l = readers_see (Watcher g) (Watcher g) own own
    where
      own : may_read (Watcher g) g ≡ true
      own = and_both (le-leb g 3 l) (eq-eqb g g refl)

-- ---- a role to which the page is not allowed

-- what it is answered: 1 or 2 by lengths and settings, else 15
unfoldable pub barred_refusal : List ℕ → List ℕ → Refusal
barred_refusal σ d = unless (desk_ok d) 1 (unless (settings_ok σ) 2 (refused 15))

-- so the answer has nothing of the state, and of the desk its length alone
pub barred : (σ : List ℕ) (x : State) (d : List ℕ) (role : Role) (g : ℕ) → may_read role g ≡ false → {r : Paged} → PageCalled σ x d role g r
    → r ≡ record { refusal = barred_refusal σ d; page = blank_page }
unfolding barred_refusal asked_refusal unless
barred σ x d role g m v =
    let e : page_refusal σ x d role g ≡ barred_refusal σ d = page_barred σ d role g x m ∙ rw m in
    paged_is (v.answers ∙ e) (v.blank (ap accepted e ∙ go (desk_ok d) (settings_ok σ)))
  where
    go : (a b : Bool) → accepted (unless a 1 (unless b 2 (refused 15))) ≡ false
    go false b = refl
    go true false = refl
    go true true = refl
