-- What the desk d tells of the held nodes, beside the settings σ, the kept view v and its termination t.
use Rattle.std.specs.Prelude.{ℕ, ◌<◌, Bool, cond, ◌≡◌, get_or, replicate}
use Rattle.std.proofs.Math.Bool.{true, false}
use mathlib.Core.List.{List}
use Rattle.std.proofs.Math.Path.{refl, sym, ap}
use Rattle.std.proofs.Common.{◌∙◌, arith, lt-ltb}
use Rattle.std.proofs.Math.Dec.{eqb}
use Rattle.base_laws.specs.Below.{lowest_cong}
use Rattle.base_laws.specs.Definitions.{has, tabulate}
use Rattle.base_laws.specs.Tables.{get_d_tabulate}
use Rattle.base_ids.specs.declared.View.{View}
use Rattle.settings_values.specs.Definitions.{shards, Settings}
use Rattle.report_views.specs.Definitions.{start, holder, majority, first_unheld, quorum_of, node_at, slots_ok, holders_of, targets_of}
use Rattle.report_views.specs.Shorthands.{unheld, view_of}
use Rattle.report_views.specs.PlanLaws.{holders_at}
use Rattle.report_views.specs.declared.Layout.{Layout}
use Rattle.report_views.specs.declared.Termination.{Termination}
use Rattle.plan_quorum.specs.Quorum.{first_without, quorum_by}
use Rattle.plan_seen.specs.declared.Seen.{Seen}

-- nothing
unfoldable pub none_seen : Seen
none_seen = record { ok = false; views = replicate 32 (record { 0 = 0 }); holders = replicate 16 (record { 0 = 0 }); targets = replicate 16 start }

-- the view that node n reported, if it is held, else 0
unfoldable pub view_seen : ℕ → List ℕ → ℕ → View
view_seen held d n = record { 0 = cond (has held n) (view_of d n) 0 }

unfoldable pub views_seen : ℕ → List ℕ → List View
views_seen held d = tabulate 32 (view_seen held d)

-- all, where every held node's slot is sound, else nothing
unfoldable pub seen_of : List ℕ → Layout → Termination → ℕ → List ℕ → Seen
seen_of σ v t held d =
    cond (slots_ok σ v t held d)
    (record { ok = true; views = views_seen held d; holders = holders_of σ v t held d; targets = targets_of σ v t held d }) none_seen

-- ---- what a caller takes from it

module _ (σ : List ℕ) (v : Layout) (t : Termination) (held : ℕ) (d : List ℕ) (x : Seen) (e : x ≡ seen_of σ v t held d) where
  pub seen_ok : x.ok ≡ slots_ok σ v t held d
  unfolding seen_of none_seen
  seen_ok = ap (λ (y : Seen). y.ok) e ∙ go (slots_ok σ v t held d)
    where
      go : (b : Bool) → (cond b (record { ok = true; views = views_seen held d; holders = holders_of σ v t held d; targets = targets_of σ v t held d }) none_seen).ok ≡ b
      go true = refl
      go false = refl

  pub seen_holders : slots_ok σ v t held d ≡ true → x.holders ≡ holders_of σ v t held d
  unfolding seen_of
  seen_holders h = ap (λ (y : Seen). y.holders) e ∙ rw h

  pub seen_targets : slots_ok σ v t held d ≡ true → x.targets ≡ targets_of σ v t held d
  unfolding seen_of
  seen_targets h = ap (λ (y : Seen). y.targets) e ∙ rw h

  pub seen_view : slots_ok σ v t held d ≡ true → (n : ℕ) → n < 32 → has held n ≡ true → (get_or x.views n (record { 0 = 0 })).0 ≡ view_of d n
  unfolding seen_of views_seen view_seen
  seen_view h n l m =
      let same : x.views ≡ tabulate 32 (view_seen held d) = ap (λ (y : Seen). y.views) e ∙ rw h in
      ap (λ (k : List View). (get_or k n (record { 0 = 0 })).0) same ∙ ap (λ (y : View). y.0) (get_d_tabulate 32 (view_seen held d) n (record { 0 = 0 }) l) ∙ rw m

  -- the quorum of the holders is that of the held reports
  module _ (right : Settings σ) where
    without_is : first_without (holders_of σ v t held d) (shards σ) ≡ first_unheld σ v t held d
    unfolding first_without first_unheld
    without_is =
        lowest_cong (shards σ) (λ s. eqb (node_at (holders_of σ v t held d) s) 32) (unheld v t held d)
        (λ s l.
        let at : node_at (holders_of σ v t held d) s ≡ holder v t held d s =
        holders_at σ v t held d s (omega (arith, right.sizes.shards_to)) ∙ rw (lt-ltb s (shards σ) l) in
        ap (λ (k : ℕ). eqb k 32) at)

    pub quorum_seen : slots_ok σ v t held d ≡ true → quorum_by σ v held x.holders ≡ quorum_of σ v t held d
    unfolding quorum_by quorum_of majority
    quorum_seen h = rw (seen_holders h, without_is)

-- ---- what is told

module _ (σ : List ℕ) (v : Layout) (t : Termination) (held : ℕ) (d : List ℕ) where
  pub seen_none : slots_ok σ v t held d ≡ false → none_seen ≡ seen_of σ v t held d
  unfolding seen_of
  seen_none h = rw h

  pub seen_all : slots_ok σ v t held d ≡ true → (x : Seen) → x.ok ≡ true → x.views ≡ views_seen held d → x.holders ≡ holders_of σ v t held d
      → x.targets ≡ targets_of σ v t held d → x ≡ seen_of σ v t held d
  unfolding seen_of
  seen_all h x a b c e = rw (h, sym a, sym b, sym c, sym e)

module _ (held : ℕ) (d : List ℕ) (n : ℕ) where
  pub view_unheld : has held n ≡ false → record { 0 = 0 } ≡ view_seen held d n
  unfolding view_seen
  view_unheld h = rw h

  pub view_held : has held n ≡ true → (x : ℕ) → x ≡ view_of d n → record { 0 = x } ≡ view_seen held d n
  unfolding view_seen
  view_held h x e = rw (h, e)
