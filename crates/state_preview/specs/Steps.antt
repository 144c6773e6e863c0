-- A preview row by row, and what is handed back beside a refusal and without one.
use Rattle.std.specs.Prelude.{ℕ, ◌^◌, Bool, List, ◌⊎◌, ◌≡◌, refl, length}
use Rattle.std.proofs.Math.Bool.{true, false}
use Rattle.std.proofs.Common.{inl, inr, sym, ◌∙◌, subst, arith}
use Rattle.std.proofs.Math.Logic.{⊎_elim}
use Rattle.std.proofs.Math.Path.{ap, ap₂}
use borrow.Author.Tests.{eqb-true, eq-eqb, lt-ltb}
use Rattle.base_laws.specs.Bools.{either, clash, no_true, and_fails_right, not_of_true}
use Rattle.base_laws.specs.Definitions.{has, minus, without}
use Rattle.base_laws.specs.Masks.{has_without, subset_of, within_has, width}
use Rattle.base_laws.proofs.Masks.{minus_subset}
use Rattle.base_ids.specs.declared.Refusal.{Refusal}
use Rattle.base_ids.specs.Definitions.{refused, none, accepted, unless, first_of}
use Rattle.settings_values.specs.Definitions.{nodes, Settings}
use Rattle.settings_values.specs.Laws.{settings_of}
use Rattle.report_views.specs.declared.Plan.{Plan}
use Rattle.report_views.specs.declared.Reason.{Reason}
use Rattle.report_views.specs.declared.Reason.TheVariants.{NoPlacement}
use Rattle.report_views.specs.declared.Quorum.{Quorum}
use Rattle.report_views.specs.declared.Quorum.TheVariants.{Met, Short}
use Rattle.report_views.specs.declared.Phase.{Phase}
use Rattle.report_views.specs.declared.Phase.TheVariants.{Gathering}
use Rattle.report_views.specs.Definitions.{quorum_of, is_gathering}
use Rattle.plan_restart.specs.Kept.{kept_given, held_below}
use Rattle.plan_masks.specs.declared.HolderMasks.{HolderMasks}
use Rattle.plan_masks.specs.Counting.{counted_of, counted-masks}
use Rattle.plan_losses.specs.Definitions.{Lost}
use Rattle.plan_losses.specs.Losses.{quorums_in, lost_desk}
use Rattle.state_rows.specs.Definitions.{node_refusal}
use Rattle.state_planner.specs.declared.State.{State}
use Rattle.state_planner.specs.declared.Decision.{Decision}
use Rattle.state_planner.specs.declared.Decision.TheVariants.{Planned, Wait, Refused}
use Rattle.state_planner.specs.declared.Decided.{Decided}
use Rattle.state_planner.specs.Definitions.{sound, holding, planned, desk_ok, entry_refusal, event_refusal, decide_refusal, check_refusal, dropped_in, after_drop, still, Decides}
use Rattle.state_planner.specs.Entry.{sound_given, node_given}
use Rattle.state_planner.specs.DecideLaws.{decide_settings, decide_desk, decide_kept, decide_slots}
use Rattle.state_laws.specs.Parts.{gathering_is}
use Rattle.state_preview.specs.Definitions.{preview_refusal, Previews, Warns}
use Rattle.state_preview.specs.Split.{sound_fewer, sound_both}

-- what is found before the copy decides: the preview's refusal, or that its node is held while gathering, and sound with the nodes that are
-- not among the fewer
pub record FirstFound (σ : List ℕ) (x : State) (d : List ℕ) (n fewer : ℕ) (r : Refusal) : Type 0 where
  pub refuses : (r.code ≡ 0 → ⊥) → r ≡ preview_refusal σ x d n
  pub gathers : r.code ≡ 0 → is_gathering x.phase ≡ true
  pub mine : r.code ≡ 0 → has x.held n ≡ true
  pub aside : r.code ≡ 0 → sound σ (holding x (minus x.held fewer)) d ≡ true

-- what the copy decided; where it was refused, the state itself
unfoldable pub handed_back : Decision → State → Decided → Decided
handed_back Planned x o = o
handed_back (Wait reason) x o = o
handed_back (Refused r) x o = still x (Refused r)

-- ---- decide answers a plan or a wait where it is not refused

pub decides_answers : (σ : List ℕ) (x : State) (d : List ℕ) (o : Decided) → Decides σ x d o → accepted (decide_refusal σ x d) ≡ true
    → ((plan : Plan) × (o ≡ still (planned x plan) Planned)) ⊎ ((reason : Reason) × (o ≡ still x (Wait reason)))
decides_answers σ x d o k t = by (quorum_of σ x.kept x.termination x.held d) refl
  where
    by : (q : Quorum) → quorum_of σ x.kept x.termination x.held d ≡ q
        → ((plan : Plan) × (o ≡ still (planned x plan) Planned)) ⊎ ((reason : Reason) × (o ≡ still x (Wait reason)))
    by (Short reason) h = inr (reason, k.waits t reason h)
    by Met h = ⊎_elim (λ w. inl (w.plan, w.given)) (λ s. inr (NoPlacement s.group, s.given)) (k.answers t h)

-- ---- rows 3, 4, 6 and 14, where 1 and 2 do not refuse

module _ (σ : List ℕ) (x : State) (d : List ℕ) (right : Settings σ) (whole : length d ≡ 16384) where
  pub decide_unsound : sound σ x d ≡ false → decide_refusal σ x d ≡ refused 3
  unfolding decide_refusal entry_refusal unless
  decide_unsound h = rw (eq-eqb (length d) 16384 whole, settings_of σ right, h)

  pub decide_sound : sound σ x d ≡ true → is_gathering x.phase ≡ true → decide_refusal σ x d ≡ none
  unfolding decide_refusal entry_refusal unless
  decide_sound h g = rw (eq-eqb (length d) 16384 whole, settings_of σ right, h, g)

  check_is : (b : Bool) → sound σ x d ≡ b → check_refusal σ x d ≡ unless b 3 none
  unfolding check_refusal entry_refusal unless
  check_is b h = rw (eq-eqb (length d) 16384 whole, settings_of σ right, h)

  module _ (n : ℕ) where
    pub preview_unsound : sound σ x d ≡ false → preview_refusal σ x d n ≡ refused 3
    unfolding preview_refusal event_refusal entry_refusal unless first_of
    preview_unsound h = rw (eq-eqb (length d) 16384 whole, settings_of σ right, h)

    pub preview_sound : sound σ x d ≡ true → is_gathering x.phase ≡ true → has x.held n ≡ true → preview_refusal σ x d n ≡ none
    unfolding preview_refusal event_refusal entry_refusal node_refusal unless first_of
    preview_sound h g m =
        let k = kept_given σ x.kept x.termination x.held (sound_given σ x d h).kept-sound in
        rw (eq-eqb (length d) 16384 whole, settings_of σ right, h, g, m, lt-ltb n (nodes σ) (within_has (nodes σ) x.held k.held_within n m))

-- ---- what is found before the copy decides

module _ (σ : List ℕ) (x : State) (d : List ℕ) (n fewer : ℕ) where
  -- another phase, or a node that is not held: the rows in their order
  pub found_event : (p q : Bool) (r : Refusal) → p ≡ is_gathering x.phase → q ≡ has x.held n → r ≡ event_refusal (desk_ok d) σ x d p n q
      → (p ≡ false) ⊎ (q ≡ false) → FirstFound σ x d n fewer r
  unfolding preview_refusal
  found_event p q r f g e off =
      record {
        refuses = λ h. e ∙ ap₂ (λ (a b : Bool). event_refusal (desk_ok d) σ x d a n b) f g;
        gathers = λ z. absurd (bad z);
        mine = λ z. absurd (bad z);
        aside = λ z. absurd (bad z);
      }
    where
      bad : r.code ≡ 0 → ⊥
      bad z =
          let t = node_given (desk_ok d) σ x d p n q (sym e ∙ ap refused z) in
          ⊎_elim (λ h. clash t.entered.in-phase h) (λ h. clash t.node-ok h) off

  -- else row 3, as far as the other held nodes play no part in it
  pub found_check : Settings σ → length d ≡ 16384 → is_gathering x.phase ≡ true → has x.held n ≡ true → (r : Refusal)
      → r ≡ check_refusal σ (holding x (minus x.held fewer)) d → FirstFound σ x d n fewer r
  unfolding unless
  found_check right whole g m r e = ⊎_elim is_sound is_not (either (sound σ (holding x (minus x.held fewer)) d))
    where
      is_sound : sound σ (holding x (minus x.held fewer)) d ≡ true → FirstFound σ x d n fewer r
      is_sound s =
          let z : r ≡ none = e ∙ check_is σ (holding x (minus x.held fewer)) d right whole true s in
          record { refuses = λ h. absurd (h (ap (λ (k : Refusal). k.code) z)); gathers = λ h. g; mine = λ h. m; aside = λ h. s }

      is_not : sound σ (holding x (minus x.held fewer)) d ≡ false → FirstFound σ x d n fewer r
      is_not s =
          let z : r ≡ refused 3 = e ∙ check_is σ (holding x (minus x.held fewer)) d right whole false s in
          let unsound : sound σ x d ≡ false =
          no_true (sound σ x d) (λ h. clash (sound_fewer σ x d (gathering_is x.phase g) (minus x.held fewer) (minus_subset x.held fewer) h) s) in
          record {
            refuses = λ h. z ∙ sym (preview_unsound σ x d right whole n unsound);
            gathers = λ h. g;
            mine = λ h. m;
            aside = λ h. absurd (let k : ◌≡◌ {A = ℕ} 3 0 = sym (ap (λ (q : Refusal). q.code) z) ∙ h in omega arith);
          }

-- ---- what a preview hands back

module _ (σ : List ℕ) (x : State) (d : List ℕ) (n : ℕ) where
  -- a refusal
  pub previews_refused : (k : Refusal) {r : Decided} → k ≡ preview_refusal σ x d n → (k.code ≡ 0 → ⊥) → r ≡ still x (Refused k) → Previews σ x d n r
  previews_refused k e h i =
      record {
        refused = λ f. i ∙ ap (λ (q : Refusal). still x (Refused q)) e;
        decides = λ t. absurd (h (ap (λ (q : Refusal). q.code) e ∙ eqb-true (preview_refusal σ x d n).code 0 t));
      }

  -- while gathering, the node is dropped by holding the others
  pub dropped_is : is_gathering x.phase ≡ true → after_drop x n ≡ holding x (without x.held n)
  unfolding dropped_in
  dropped_is g = ap (λ (p : Phase). dropped_in p x n) (gathering_is x.phase g)

  -- what the copy decided
  module _ (right : Settings σ) (whole : length d ≡ 16384) (fewer : ℕ) (is : fewer ≡ without x.held n) (k : Refusal) (found : FirstFound σ x d n fewer k)
      (h : k.code ≡ 0) (o : Decided) (decides : Decides σ (holding x fewer) d o) {r : Decided} (back : r ≡ handed_back o.decision x o) where
    phase_is : x.phase ≡ Gathering
    phase_is = gathering_is x.phase (found.gathers h)

    pub previews_copy : Previews σ x d n r
    unfolding holding handed_back
    previews_copy = ⊎_elim is_sound is_not (either (sound σ (holding x fewer) d))
      where
        gone : has fewer n ≡ false
        gone =
            ap (λ (m : ℕ). has m n) is ∙ has_without x.held n n
            ∙ and_fails_right (has x.held n) (not_of_true (eq-eqb n n refl))

        is_sound : sound σ (holding x fewer) d ≡ true → Previews σ x d n r
        is_sound s =
            let whole-sound = sound_both σ x d phase_is fewer n (found.mine h) gone s (found.aside h) in
            let taken : preview_refusal σ x d n ≡ none = preview_sound σ x d right whole n whole-sound (found.gathers h) (found.mine h) in
            let free : decide_refusal σ (holding x fewer) d ≡ none = decide_sound σ (holding x fewer) d right whole s (found.gathers h) in
            let same : r ≡ o =
            back
            ∙ ⊎_elim (λ e. ap (λ (p : Decided). handed_back p.decision x o) e.1)
            (λ e. ap (λ (p : Decided). handed_back p.decision x o) e.1) (decides_answers σ (holding x fewer) d o decides (ap accepted free)) in
            record {
              refused = λ f. clash (ap accepted taken) f;
              decides = λ t.
                  subst (λ (p : Decided). Decides σ (after_drop x n) d p) (sym same)
                  (subst (λ (y : State). Decides σ y d o) (ap (holding x) is ∙ sym (dropped_is (found.gathers h))) decides);
            }

        is_not : sound σ (holding x fewer) d ≡ false → Previews σ x d n r
        is_not s =
            let unsound : sound σ x d ≡ false =
            no_true (sound σ x d)
            (λ w. clash (sound_fewer σ x d phase_is (without x.held n) (minus_subset x.held (2 ^ n)) w) (subst (λ (m : ℕ). sound σ (holding x m) d ≡ false) is s)) in
            let e = decide_unsound σ (holding x fewer) d right whole s in
            let gave : o ≡ still (holding x fewer) (Refused (refused 3)) =
            decides.refused (ap accepted e) ∙ ap (λ (q : Refusal). still (holding x fewer) (Refused q)) e in
            previews_refused (refused 3) (sym (preview_unsound σ x d right whole n unsound)) (λ z. omega arith)
            (back ∙ ap (λ (p : Decided). handed_back p.decision x o) gave)

-- ---- what the preview of all held nodes hands back

module _ (σ : List ℕ) (x : State) (d : List ℕ) (k : Refusal) (e : k ≡ decide_refusal σ x d) where
  pub warns_refused : (k.code ≡ 0 → ⊥) → Warns σ x d (record { refusal = k; lost = 0 })
  warns_refused h =
      record {
        answers = e;
        blank = λ f. refl;
        told = λ t. absurd (h (ap (λ (q : Refusal). q.code) e ∙ eqb-true (decide_refusal σ x d).code 0 t));
      }

  module _ (h : k.code ≡ 0) where
    taken : accepted (decide_refusal σ x d) ≡ true
    taken = sym (ap accepted e) ∙ eq-eqb k.code 0 h

    pub warns_told : (counted : HolderMasks) → counted ≡ counted_of σ x.kept x.termination x.held d → (m : ℕ)
        → Lost σ x.held (quorums_in σ x.kept counted.masks) m → Warns σ x d (record { refusal = k; lost = m })
    warns_told counted c m w =
        let right = decide_settings σ x d taken in
        let slots = decide_slots σ x d taken in
        record {
          answers = e;
          blank = λ f. clash taken f;
          told = λ t.
              lost_desk σ x.kept x.termination x.held x.held d counted.masks m right
              (held_below σ x.kept x.termination x.held (decide_kept σ x d taken))
              (record {
                whole = decide_desk σ x d taken;
                sound = slots;
                among = subset_of x.held x.held x.held (width x.held) (λ n l p. p);
                counting = counted-masks σ x.kept x.termination x.held d counted c right slots;
              }) w;
        }
