-- The page that is told by what was seen of a desk is the page of the desk.
use Rattle.std.specs.Prelude.{ℕ, ◌<◌, Bool, true, cond, List, ◌≡◌, get_or}
use Rattle.std.proofs.Math.Logic.{⊎_elim}
use Rattle.std.proofs.Common.{ap, ◌∙◌, lt-ltb}
use Rattle.base_laws.specs.Bools.{either}
use Rattle.base_laws.specs.Tables.{tabulate_cong}
use Rattle.base_ids.specs.declared.Node.{Node}
use Rattle.base_ids.specs.declared.Position.{Position}
use Rattle.settings_values.specs.Definitions.{shards}
use Rattle.place_groups.specs.Definitions.{of_group}
use Rattle.place_laws.specs.Cases.{group_shard}
use Rattle.report_views.specs.declared.Layout.{Layout}
use Rattle.report_views.specs.declared.Termination.{Termination}
use Rattle.report_views.specs.declared.Plan.{Plan}
use Rattle.report_views.specs.declared.Phase.{Phase}
use Rattle.report_views.specs.Definitions.{start, target, holder, node_at, slots_ok}
use Rattle.report_views.specs.PlanLaws.{holders_at, targets_at}
use Rattle.plan_seen.specs.declared.Seen.{Seen}
use Rattle.plan_seen.specs.Sight.{seen_of, seen_holders, seen_targets}
use Rattle.plan_page.specs.declared.Page.{Page}
use Rattle.plan_page.specs.Definitions.{shown, holder_shown, target_shown, PageBy, PageOf}
use Rattle.plan_page.specs.Pages.{PageSeen}
use Rattle.plan_page.specs.Turns.{mask_cong}

-- the same holders and targets of the subgroup's shards give the same page
module _ (σ : List ℕ) (g : ℕ) (a b : ℕ → ℕ) (x y : ℕ → Position) (nodes : (s : ℕ) → s < 16 → of_group σ g s ≡ true → a s ≡ b s)
    (ends : (s : ℕ) → s < 16 → of_group σ g s ≡ true → x s ≡ y s) where
  shown_by : (s : ℕ) → s < 16 → shown σ g a s ≡ shown σ g b s
  unfolding shown
  shown_by s l = ⊎_elim (λ o. rw (o, nodes s l o)) (λ o. rw o) (either (of_group σ g s))

  holder_by : (s : ℕ) → s < 16 → holder_shown σ g a s ≡ holder_shown σ g b s
  unfolding holder_shown shown
  holder_by s l = ⊎_elim (λ o. rw (o, nodes s l o)) (λ o. rw o) (either (of_group σ g s))

  target_by : (s : ℕ) → s < 16 → target_shown σ g a x s ≡ target_shown σ g b y s
  unfolding target_shown shown
  target_by s l = ⊎_elim (λ o. rw (o, nodes s l o, ends s l o)) (λ o. rw o) (either (of_group σ g s))

  page_by : {at : Phase} {v : Layout} {held : ℕ} {pl : Plan} {p : Page} → PageBy σ at v held a x pl g p → PageBy σ at v held b y pl g p
  page_by w =
      record {
        phase = w.phase;
        view = w.view;
        shards = w.shards;
        known = w.known ∙ mask_cong 16 (shown σ g a) (shown σ g b) shown_by;
        holders = w.holders ∙ tabulate_cong 16 (holder_shown σ g a) (holder_shown σ g b) holder_by;
        targets = w.targets ∙ tabulate_cong 16 (target_shown σ g a x) (target_shown σ g b y) target_by;
        placement = w.placement;
      }

-- where the held slots are sound, the page told by what was seen is the desk's
pub page_seen : (σ : List ℕ) (v : Layout) (t : Termination) (held : ℕ) (d : List ℕ) {at : Phase} {pl : Plan} {g : ℕ} {x : Seen} {p : Page}
    → slots_ok σ v t held d ≡ true → x ≡ seen_of σ v t held d → PageSeen σ at v held x pl g p → PageOf σ at v t held d pl g p
page_seen σ v t held d {g = g} {x = x} ok e w =
    page_by σ g (node_at x.holders) (holder v t held d) (λ s. get_or x.targets s start) (target v t held d)
    (λ s l o.
    ap (λ (h : List Node). node_at h s) (seen_holders σ v t held d x e ok)
    ∙ holders_at σ v t held d s l
    ∙ ap (λ (b : Bool). cond b (holder v t held d s) 0) (lt-ltb s (shards σ) (group_shard σ g s o)))
    (λ s l o.
    ap (λ (h : List Position). get_or h s start) (seen_targets σ v t held d x e ok)
    ∙ targets_at σ v t held d s l
    ∙ ap (λ (b : Bool). cond b (target v t held d s) start) (lt-ltb s (shards σ) (group_shard σ g s o)))
    w
