-- Readiness row by row, and what is handed back beside a refusal and without one.
use Rattle.std.specs.Prelude.{ℕ, ◌-◌, ◌^◌, ◌<◌, Bool, true, false, ◌&&◌, List, ◌≡◌, leb, length}
use Rattle.std.proofs.Math.Path.{sym, ap}
use Rattle.std.proofs.Common.{◌∙◌, subst, eqb-true, eq-eqb, ne_eqb}
use Rattle.base_laws.specs.Bools.{clash}
use Rattle.base_laws.specs.Definitions.{subset}
use Rattle.base_laws.specs.Masks.{subset_of, has_full}
use Rattle.base_ids.specs.declared.Refusal.{Refusal}
use Rattle.base_ids.specs.Definitions.{refused, none, accepted, unless, first_of}
use Rattle.base_ids.specs.Refusals.{first_none, rows_refused}
use Rattle.settings_values.specs.Definitions.{nodes, settings_ok, Settings}
use Rattle.report_views.specs.declared.Layout.{Layout}
use Rattle.report_views.specs.declared.Termination.{Termination}
use Rattle.report_views.specs.declared.Quorum.{Quorum}
use Rattle.report_views.specs.Definitions.{slots_ok, is_gathering}
use Rattle.plan_masks.specs.declared.HolderMasks.{HolderMasks}
use Rattle.plan_masks.specs.Counting.{counted_of, Given, counted_ok, counted-masks, slots_fewer, quorum_given}
use Rattle.plan_masks.specs.Definitions.{Rows}
use Rattle.plan_masks.specs.Rows.{masks_say, rows_said}
use Rattle.state_planner.specs.declared.State.{State}
use Rattle.state_planner.specs.Definitions.{desk_ok, entry_refusal, decide_refusal}
use Rattle.state_readiness.specs.declared.ReadyRows.{ReadyRows}
use Rattle.state_readiness.specs.Definitions.{ready, slots_refusal, size_refusal, ready_refusal, desk_says, ReadiesAs}
use Rattle.state_readiness.specs.Readying.{not_ready}

-- ---- the rows

-- rows 1 to 4 as the code finds them
pub entered : (σ : List ℕ) (x : State) (d : List ℕ) (r : Refusal) {b : Bool} → b ≡ is_gathering x.phase → r ≡ entry_refusal (desk_ok d) σ x d b
    → r ≡ decide_refusal σ x d
unfolding decide_refusal
entered σ x d r g e = e ∙ ap (entry_refusal (desk_ok d) σ x d) g

module _ (limits : Bool) (σ : List ℕ) (x : State) (d : List ℕ) where
  pub length_refused : desk_ok d ≡ false → refused 1 ≡ ready_refusal limits σ x d
  unfolding ready_refusal decide_refusal entry_refusal unless first_of
  length_refused h = rw h

  pub settings_refused : desk_ok d ≡ true → settings_ok σ ≡ false → refused 2 ≡ ready_refusal limits σ x d
  unfolding ready_refusal decide_refusal entry_refusal unless first_of
  settings_refused h k = rw (h, k)

  -- r is what the code found of rows 1 to 4
  module _ (r : Refusal) (e : r ≡ decide_refusal σ x d) where
    pub entry-refused : (r.code ≡ 0 → ⊥) → r ≡ ready_refusal limits σ x d
    unfolding ready_refusal
    entry-refused h = rows_refused e (size_refusal limits σ x d) (ne_eqb r.code 0 h)

    entry_passed : r.code ≡ 0 → ready_refusal limits σ x d ≡ size_refusal limits σ x d
    unfolding ready_refusal
    entry_passed h = first_none (decide_refusal σ x d) (size_refusal limits σ x d) (sym e ∙ ap refused h)

    pub size_refused : r.code ≡ 0 → (leb (nodes σ) 10 && limits) ≡ false → refused 22 ≡ ready_refusal limits σ x d
    unfolding size_refusal unless
    size_refused h k = sym (entry_passed h ∙ rw k)

    pub size_passed : r.code ≡ 0 → (leb (nodes σ) 10 && limits) ≡ true → slots_refusal σ x d ≡ ready_refusal limits σ x d
    unfolding size_refusal unless
    size_passed h k = sym (entry_passed h ∙ rw k)

pub view_refused : (σ : List ℕ) (x : State) (d : List ℕ) → x.kept.number.0 ≡ 0 → refused 23 ≡ slots_refusal σ x d
unfolding slots_refusal ready unless
view_refused σ x d h = rw (eq-eqb x.kept.number.0 0 h)

pub slot_refused : (σ : List ℕ) (x : State) (d : List ℕ) → (x.kept.number.0 ≡ 0 → ⊥) → slots_ok σ x.kept x.termination (2 ^ nodes σ - 1) d ≡ false
    → refused 23 ≡ slots_refusal σ x d
unfolding slots_refusal ready unless
slot_refused σ x d h k = rw (ne_eqb x.kept.number.0 0 h, k)

slots_passed : (σ : List ℕ) (x : State) (d : List ℕ) → (x.kept.number.0 ≡ 0 → ⊥) → slots_ok σ x.kept x.termination (2 ^ nodes σ - 1) d ≡ true
    → none ≡ slots_refusal σ x d
unfolding slots_refusal ready unless
slots_passed σ x d h k = rw (ne_eqb x.kept.number.0 0 h, k)

-- ---- what is handed back

-- beside a refusal k
pub readies_refused : (σ : List ℕ) (q : ℕ → Quorum) (k : Refusal) {r : ReadyRows} {refusal : Refusal} → k ≡ refusal → (k.code ≡ 0 → ⊥) → r ≡ not_ready k
    → ReadiesAs refusal σ q r
readies_refused σ q k e h w =
    record {
      answers = ap (λ (y : ReadyRows). y.refusal) w ∙ e;
      blank = λ _. ap (λ (y : ReadyRows). y.rows) w;
      told = λ t. absurd (h (eqb-true k.code 0 (ap accepted e ∙ t)));
    }

-- by rows that come to the same
pub readies_by : (σ : List ℕ) (q : ℕ → Quorum) {r : ReadyRows} {a b : Refusal} → a ≡ b → ReadiesAs a σ q r → ReadiesAs b σ q r
readies_by σ q {r} e w = subst (λ (k : Refusal). ReadiesAs k σ q r) e w

-- the nodes that were counted are all of them
pub all_counted : (σ : List ℕ) (x : State) (d : List ℕ) (c : HolderMasks) {all n : ℕ} → c ≡ counted_of σ x.kept x.termination all d → all ≡ 2 ^ n - 1
    → n ≡ nodes σ → c ≡ counted_of σ x.kept x.termination (2 ^ nodes σ - 1) d
all_counted σ x d c e f g =
    e ∙ ap (λ (k : ℕ). counted_of σ x.kept x.termination k d) (f ∙ ap (λ (k : ℕ). 2 ^ k - 1) g)

-- every mask of the settings' nodes is among all of them
pub among_all : (n h : ℕ) → h < 2 ^ n → subset h (2 ^ n - 1) ≡ true
among_all n h l = subset_of n h (2 ^ n - 1) l (λ k m p. has_full n k m)

-- where every node's slot is sound the masks that were counted say of any held nodes what the desk says
module _ (σ : List ℕ) (v : Layout) (t : Termination) (d : List ℕ) (right : Settings σ) (whole : length d ≡ 16384)
    (sound : slots_ok σ v t (2 ^ nodes σ - 1) d ≡ true) (c : HolderMasks) (e : c ≡ counted_of σ v t (2 ^ nodes σ - 1) d) where
  pub given_all : (h : ℕ) → h < 2 ^ nodes σ → Given σ v t (2 ^ nodes σ - 1) h d c.masks
  given_all h l =
      record {
        whole = whole;
        sound = slots_fewer σ v t (2 ^ nodes σ - 1) h d (among_all (nodes σ) h l) sound;
        among = among_all (nodes σ) h l;
        counting = counted-masks σ v t (2 ^ nodes σ - 1) d c e right sound;
      }

-- the rows by these masks
pub readies_told : (σ : List ℕ) (x : State) (d : List ℕ) (c : HolderMasks) (l : List ℕ) → Settings σ → length d ≡ 16384 → (x.kept.number.0 ≡ 0 → ⊥)
    → c ≡ counted_of σ x.kept x.termination (2 ^ nodes σ - 1) d → c.ok ≡ true → Rows σ (masks_say σ x.kept c.masks) l
    → ReadiesAs (slots_refusal σ x d) σ (desk_says σ x d) (record { refusal = none; rows = l })
readies_told σ x d c l right whole kept e ok rows =
    let sound : slots_ok σ x.kept x.termination (2 ^ nodes σ - 1) d ≡ true = sym (counted_ok σ x.kept x.termination (2 ^ nodes σ - 1) d c e) ∙ ok in
    let passed : none ≡ slots_refusal σ x d = slots_passed σ x d kept sound in
    record {
      answers = passed;
      blank = λ f. clash (ap accepted (sym passed)) f;
      told = λ _.
          rows_said σ (masks_say σ x.kept c.masks) (desk_says σ x d) l
          (λ h i. quorum_given σ x.kept x.termination (2 ^ nodes σ - 1) h d c.masks right i
          (given_all σ x.kept x.termination d right whole sound c e h i)) rows;
    }
