-- The page of subgroup g, from the settings σ, the phase, the kept view v, the mask of held nodes, each shard's holder and target, and the
-- plan. Holder 32 is none.
use Rattle.std.specs.Prelude.{ℕ, Bool, true, false, cond, not, ◌&&◌, List, ◌≡◌, eqb, replicate}
use Rattle.base_laws.specs.Definitions.{tabulate}
use Rattle.base_sum_laws.specs.Definitions.{mask_below}
use Rattle.base_ids.specs.declared.Node.{Node}
use Rattle.base_ids.specs.declared.Position.{Position}
use Rattle.place_groups.specs.Definitions.{group_moves, of_group}
use Rattle.place_layout.specs.declared.Offer.{Offer}
use Rattle.place_layout.specs.Definitions.{PlacedAlone}
use Rattle.report_views.specs.declared.Layout.{Layout}
use Rattle.report_views.specs.declared.Termination.{Termination}
use Rattle.report_views.specs.declared.Plan.{Plan}
use Rattle.report_views.specs.declared.Phase.{Phase}
use Rattle.report_views.specs.declared.Phase.TheVariants.{Gathering, Ordered, Preparing, Committed}
use Rattle.report_views.specs.Definitions.{start, mask_at, target, holder}
use Rattle.plan_page.specs.declared.Page.{Page}

-- shard s is of subgroup g and has a holder
unfoldable pub shown : List ℕ → ℕ → (ℕ → ℕ) → ℕ → Bool
shown σ g holder s = of_group σ g s && not (eqb (holder s) 32)

-- its holder and target, where it is shown
unfoldable pub holder_shown : List ℕ → ℕ → (ℕ → ℕ) → ℕ → Node
holder_shown σ g holder s = record { 0 = cond (shown σ g holder s) (holder s) 0 }

unfoldable pub target_shown : List ℕ → ℕ → (ℕ → ℕ) → (ℕ → Position) → ℕ → Position
target_shown σ g holder target s = cond (shown σ g holder s) (target s) start

-- the mask of shard s, if it is of subgroup g
unfoldable pub mask_shown : List ℕ → ℕ → (ℕ → ℕ) → ℕ → ℕ
mask_shown σ g mask s = cond (of_group σ g s) (mask s) 0

-- the plan's placement of subgroup g, and its moves
pub record Repeats (σ : List ℕ) (old new : Layout) (g : ℕ) (p : Offer) : Type 0 where
  pub found : p.found ≡ true
  pub masks : p.masks ≡ tabulate 16 (mask_shown σ g (mask_at new))
  pub counted : p.moves ≡ group_moves σ (mask_at old) (mask_at new) g

-- the placement in each phase: what decide would place in subgroup g, its waits aside, or that none exists; outside gathering the plan's
abbrev pub PlacedAs : Phase → List ℕ → Layout → ℕ → Plan → ℕ → Offer → Type 0
PlacedAs Gathering σ v held pl g p = PlacedAlone σ held (mask_at v) g p
PlacedAs Ordered σ v held pl g p = Repeats σ v pl.layout g p
PlacedAs Preparing σ v held pl g p = Repeats σ v pl.layout g p
PlacedAs Committed σ v held pl g p = Repeats σ v pl.layout g p

-- the page
pub record PageBy (σ : List ℕ) (at : Phase) (v : Layout) (held : ℕ) (holder : ℕ → ℕ) (target : ℕ → Position) (pl : Plan) (g : ℕ) (p : Page) : Type 0 where
  pub phase : p.phase ≡ at
  pub view : p.view ≡ v.number
  pub shards : p.shards ≡ mask_below 16 (of_group σ g)
  pub known : p.known ≡ mask_below 16 (shown σ g holder)
  pub holders : p.holders ≡ tabulate 16 (holder_shown σ g holder)
  pub targets : p.targets ≡ tabulate 16 (target_shown σ g holder target)
  pub placement : PlacedAs at σ v held pl g (record { found = p.found; masks = p.masks; moves = p.moves })

-- from the kept view's termination t and the desk d: holders and targets are those of the held reports
abbrev pub PageOf : List ℕ → Phase → Layout → Termination → ℕ → List ℕ → Plan → ℕ → Page → Type 0
PageOf σ at v t held d pl g p = PageBy σ at v held (holder v t held d) (target v t held d) pl g p

-- the page that tells nothing
unfoldable pub blank_page : Page
blank_page =
    record {
      phase = Gathering;
      view = record { 0 = 0 };
      shards = 0;
      known = 0;
      holders = replicate 16 (record { 0 = 0 });
      targets = replicate 16 start;
      found = false;
      masks = replicate 16 0;
      moves = 0;
    }
