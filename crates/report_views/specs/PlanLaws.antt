-- A plan's holders and targets shard by shard: they are the definitions' just where they equal the entries of the standing's
-- tables.
use Prim.Native.Nat.{ℕ, ◌<◌}
use Rattle.std.specs.Prelude.{Bool, ◌&&◌, List, ◌≡◌, eqb, get_or}
use Rattle.std.proofs.Math.Bool.{cond}
use Rattle.std.proofs.Math.Path.{ap}
use Rattle.std.proofs.Math.Dec.{ltb}
use Rattle.base_laws.specs.Tables.{get_d_tabulate}
use Rattle.settings_values.specs.Definitions.{shards}
use Rattle.base_ids.specs.declared.Node.{Node}
use Rattle.base_ids.specs.declared.Position.{Position}
use Rattle.report_views.specs.declared.Layout.{Layout}
use Rattle.report_views.specs.declared.Termination.{Termination}
use Rattle.report_views.specs.declared.Plan.{Plan}
use Rattle.report_views.specs.Definitions.{start, node_at, holder_at, target_at, same_position, target, holder, holders_of, targets_of}

-- the entries of a plan and of the standing's tables are equal at shard s
unfoldable pub same_shard : Plan → List Node → List Position → ℕ → Bool
same_shard p holders targets s = eqb (holder_at p s) (node_at holders s) && same_position (target_at p s) (get_or targets s start)

module _ (σ : List ℕ) (v : Layout) (t : Termination) (held : ℕ) (d : List ℕ) where
  pub holders_at : (s : ℕ) → s < 16 → node_at (holders_of σ v t held d) s ≡ cond (ltb s (shards σ)) (holder v t held d s) 0
  unfolding holders_of
  holders_at s l =
      let f : ℕ → Node = λ i. record { 0 = cond (ltb i (shards σ)) (holder v t held d i) 0 } in
      ap (λ (n : Node). n.0) (get_d_tabulate 16 f s (record { 0 = 0 }) l)

  pub targets_at : (s : ℕ) → s < 16 → get_or (targets_of σ v t held d) s start ≡ cond (ltb s (shards σ)) (target v t held d s) start
  unfolding targets_of
  targets_at s l = get_d_tabulate 16 (λ i. cond (ltb i (shards σ)) (target v t held d i) start) s start l
