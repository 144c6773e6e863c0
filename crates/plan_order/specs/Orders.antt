-- The cuts of a held node as the code lays them out.
use Rattle.std.specs.Prelude.{ℕ, ◌*◌, cond, List, ltb}
use Rattle.base_laws.specs.Definitions.{tabulate}
use Rattle.base_ids.specs.declared.Position.{Position}
use Rattle.settings_values.specs.Definitions.{shards}
use Rattle.report_views.specs.declared.Plan.{Plan}
use Rattle.report_views.specs.Definitions.{start, position_word}
use Rattle.plan_order.specs.Definitions.{carries, cut_of}

-- the same where the node carries the shard, else (0, 0)
abbrev pub cut_carried : Plan → List ℕ → ℕ → ℕ → Position
cut_carried p d n s = cond (carries p n s) (cut_of p d n s) start

-- the cuts of node n, two words for each shard, with zeros after them
unfoldable pub cuts_of : List ℕ → Plan → List ℕ → ℕ → List ℕ
cuts_of σ p d n = tabulate 32 (λ k. cond (ltb k (2 * shards σ)) (position_word (cut_carried p d n) k) 0)
