-- The states and desks that accepted events lead to from the fresh state. Each is sound, so rows 1 to 3 refuse no event of a run
-- that goes by what the planner hands back. (An order changes neither state nor desk.)
use Rattle.std.specs.Prelude.{ℕ, max, ◌<◌, true, List, ◌≡◌, eqb, length, get_or}
use Rattle.std.proofs.Math.Bool.{cond}
use Rattle.std.proofs.Math.Logic.{⊎_elim}
use Rattle.std.proofs.Math.Path.{ap}
use Rattle.std.proofs.Common.{◌∙◌, eq-eqb}
use Rattle.settings_values.specs.Definitions.{settings_ok}
use Rattle.base_ids.specs.Definitions.{none}
use Rattle.message_format.specs.Definitions.{contents_of}
use Rattle.report_rows.specs.declared.latest.Latest.{Latest}
use Rattle.report_rows.specs.Definitions.{latest_at}
use Rattle.report_rows.specs.Laws.{noted-at, none_latest}
use Rattle.state_planner.specs.declared.State.{State}
use Rattle.state_planner.specs.declared.Decided.{Decided}
use Rattle.state_planner.specs.declared.DecidedWithin.{DecidedWithin}
use Rattle.state_planner.specs.Definitions.{fresh, keeping, marked, planned, desk_ok, report_refusal, drop_refusal, decide_refusal, fetched_refusal, prepared_refusal, after_report, after_drop, after_fetched, after_prepared, Decides, DecidesWithin}
use Rattle.report_desk.specs.Definitions.{desk_with}
use Rattle.state_laws.specs.AfterReport.{report-desk}
use Rattle.state_laws.specs.AfterDrop.{drop_latest}
use Rattle.state_laws.specs.AfterDecide.{SoundPlanned, decided_state, within_state}

pub data Reached (σ : List ℕ) : State → List ℕ → Type 0 where
  starting : (d : List ℕ) → settings_ok σ ≡ true → desk_ok d ≡ true → Reached σ fresh d
  reporting : (x : State) (d w : List ℕ) → Reached σ x d → report_refusal σ x d w ≡ none
      → Reached σ (after_report σ x (contents_of w)) (desk_with d (get_or w 0 0) w)
  dropping : (x : State) (d : List ℕ) (n : ℕ) → Reached σ x d → drop_refusal σ x d n ≡ none → Reached σ (after_drop x n) d
  deciding : (x : State) (d : List ℕ) (a : Decided) → Reached σ x d → decide_refusal σ x d ≡ none → Decides σ x d a → Reached σ a.state d
  improving : (x : State) (d : List ℕ) (n : ℕ) (a : DecidedWithin) → Reached σ x d → decide_refusal σ x d ≡ none → DecidesWithin σ x d n a → Reached σ a.state d
  fetching : (x : State) (d : List ℕ) (n : ℕ) → Reached σ x d → fetched_refusal σ x d n ≡ none → Reached σ (after_fetched x n) d
  preparing : (x : State) (d : List ℕ) (n : ℕ) → Reached σ x d → prepared_refusal σ x d n ≡ none → Reached σ (after_prepared x n) d

module _ (σ : List ℕ) where
  pub reached_settings : {x : State} {d : List ℕ} → Reached σ x d → settings_ok σ ≡ true
  reached_settings (starting d s l) = s
  reached_settings (reporting x d w r h) = reached_settings r
  reached_settings (dropping x d n r h) = reached_settings r
  reached_settings (deciding x d a r h w) = reached_settings r
  reached_settings (improving x d n a r h w) = reached_settings r
  reached_settings (fetching x d n r h) = reached_settings r
  reached_settings (preparing x d n r h) = reached_settings r

  pub reached_desk : {x : State} {d : List ℕ} → Reached σ x d → desk_ok d ≡ true
  reached_desk (starting d s l) = l
  reached_desk (reporting x d w r h) = eq-eqb (length (desk_with d (get_or w 0 0) w)) 16384 (report-desk σ x d w h)
  reached_desk (dropping x d n r h) = reached_desk r
  reached_desk (deciding x d a r h w) = reached_desk r
  reached_desk (improving x d n a r h w) = reached_desk r
  reached_desk (fetching x d n r h) = reached_desk r
  reached_desk (preparing x d n r h) = reached_desk r

  latest_on : (x y : State) (d : List ℕ) → SoundPlanned σ x d y → y.latest ≡ x.latest
  unfolding planned
  latest_on x y d k = ⊎_elim (λ e. ap (λ (z : State). z.latest) e) (λ b. ap (λ (z : State). z.latest) b.1) k

  -- the greatest view that node n has reported on the way, 0: none
  unfoldable pub greatest_reported : {x : State} {d : List ℕ} → Reached σ x d → ℕ → ℕ
  greatest_reported (starting d s l) n = 0
  greatest_reported (reporting x d w r h) n = cond (eqb n (get_or w 0 0)) (max (greatest_reported r n) (get_or w 1 0)) (greatest_reported r n)
  greatest_reported (dropping x d m r h) n = greatest_reported r n
  greatest_reported (deciding x d a r h w) n = greatest_reported r n
  greatest_reported (improving x d m a r h w) n = greatest_reported r n
  greatest_reported (fetching x d m r h) n = greatest_reported r n
  greatest_reported (preparing x d m r h) n = greatest_reported r n

  -- it is what the state remembers, through drops as well
  pub reached_greatest : {x : State} {d : List ℕ} (r : Reached σ x d) (n : ℕ) → n < 32 → latest_at x.latest n ≡ greatest_reported r n
  unfolding greatest_reported fresh after_report keeping contents_of planned after_fetched after_prepared marked
  reached_greatest (starting d s l) n k = none_latest n k
  reached_greatest (reporting x d w r h) n k =
      noted-at x.latest (get_or w 0 0) (get_or w 1 0) n k
      ∙ ap (λ (v : ℕ). cond (eqb n (get_or w 0 0)) (max v (get_or w 1 0)) v) (reached_greatest r n k)
  reached_greatest (dropping x d m r h) n k = ap (λ (q : Latest). latest_at q n) (drop_latest x.phase x m) ∙ reached_greatest r n k
  reached_greatest (deciding x d a r h w) n k = ap (λ (q : Latest). latest_at q n) (latest_on x a.state d (decided_state σ x d a h w)) ∙ reached_greatest r n k
  reached_greatest (improving x d m a r h w) n k = ap (λ (q : Latest). latest_at q n) (latest_on x a.state d (within_state σ x d m a h w)) ∙ reached_greatest r n k
  reached_greatest (fetching x d m r h) n k = reached_greatest r n k
  reached_greatest (preparing x d m r h) n k = reached_greatest r n k
