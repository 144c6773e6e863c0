-- A plan's holders and targets shard by shard: they are the definitions' just where they equal the entries of the standing's
-- tables.
use Prim.Native.Nat.{ℕ, ◌<◌}
use Rattle.std.specs.Prelude.{Bool, ◌&&◌, List, ◌≡◌, refl, eqb}
use Rattle.std.proofs.Math.Bool.{true, false, cond}
use Rattle.std.proofs.Math.Dec.{ltb}
use Rattle.settings_values.specs.Definitions.{shards}
use Rattle.report_views.specs.declared.Layout.{Layout}
use Rattle.report_views.specs.declared.Termination.{Termination}
use Rattle.report_views.specs.declared.Plan.{Plan}
use Rattle.report_views.specs.Definitions.{start, holder_at, target_at, same_position, target, holder, holders_of, targets_of, shard_planned}
use Rattle.report_views.specs.PlanLaws.{same_shard, holders_at, targets_at}

module _ (σ : List ℕ) (v : Layout) (t : Termination) (held : ℕ) (d : List ℕ) where
  pub planned_same : (p : Plan) (s : ℕ) → s < 16
      → same_shard p (holders_of σ v t held d) (targets_of σ v t held d) s ≡ shard_planned σ v t held d p s
  unfolding same_shard shard_planned
  planned_same p s l = simp ((holders_at σ v t held d) s l, (targets_at σ v t held d) s l) (by (ltb s (shards σ)) refl)
    where
      by : (b : Bool) → ltb s (shards σ) ≡ b
          → (eqb (holder_at p s) (cond (ltb s (shards σ)) (holder v t held d s) 0)
          && same_position (target_at p s) (cond (ltb s (shards σ)) (target v t held d s) start))
          ≡ shard_planned σ v t held d p s
      by true e = simp e
      by false e = simp e
