-- Waits 1 to 4 for any set of held nodes, from the settings σ, the kept view v and for each shard the mask of the nodes that count for it (ms).
use Rattle.std.specs.Prelude.{ℕ, ◌<◌, Bool, true, false, cond, not, List, ◌≡◌, refl, eqb, ltb, get_or}
use Rattle.std.proofs.Common.{ap, ◌∙◌, arith}
use Rattle.base_laws.specs.Definitions.{lowest, count, disjoint, tabulate}
use Rattle.base_laws.specs.Below.{lowest_cong}
use Rattle.base_laws.specs.Tables.{get_d_tabulate}
use Rattle.base_ids.specs.declared.Node.{Node}
use Rattle.settings_values.specs.Definitions.{least, shards, Settings}
use Rattle.report_views.specs.Definitions.{majority, node_at}
use Rattle.report_views.specs.declared.Layout.{Layout}
use Rattle.report_views.specs.declared.Quorum.{Quorum}
use Rattle.report_views.specs.declared.Quorum.TheVariants.{Met, Short}
use Rattle.report_views.specs.declared.Reason.TheVariants.{NoView, NoMajority, TooFew, NoHolder}
use Rattle.plan_quorum.specs.Quorum.{first_without, quorum_by}

-- none of the nodes that count for shard s is held
abbrev pub unheld_in : ℕ → List ℕ → ℕ → Bool
unheld_in held ms s = disjoint held (get_or ms s 0)

-- the lowest such shard, or S
unfoldable pub first_unheld_in : List ℕ → ℕ → List ℕ → ℕ
first_unheld_in σ held ms = lowest (shards σ) (unheld_in held ms)

-- waits 1 to 4: the first that applies
unfoldable pub quorum_in : List ℕ → Layout → ℕ → List ℕ → Quorum
quorum_in σ v held ms =
    cond (eqb v.number.0 0) (Short NoView)
    (cond (not (majority v held)) (Short NoMajority)
    (cond (ltb (count held) (least σ)) (Short TooFew)
    (cond (ltb (first_unheld_in σ held ms) (shards σ)) (Short (NoHolder (record { 0 = first_unheld_in σ held ms }))) Met)))

-- ---- by holders as far as waits ask: 32 where no held node counts

unfoldable pub some_holder : ℕ → ℕ → ℕ
some_holder held mask = cond (disjoint held mask) 32 0

unfoldable pub some_holders : ℕ → List ℕ → List Node
some_holders held ms = tabulate 16 (λ s. record { 0 = some_holder held (get_or ms s 0) })

pub quorum-in : (σ : List ℕ) (v : Layout) (held : ℕ) (ms : List ℕ) → Settings σ → quorum_by σ v held (some_holders held ms) ≡ quorum_in σ v held ms
unfolding quorum_by quorum_in majority some_holders some_holder first_without first_unheld_in
quorum-in σ v held ms right = rw without_is
  where
    at : (s : ℕ) → s < shards σ → eqb (node_at (some_holders held ms) s) 32 ≡ unheld_in held ms s
    at s l =
        let g : ℕ → Node = λ i. record { 0 = cond (disjoint held (get_or ms i 0)) 32 0 } in
        ap (λ (x : Node). eqb x.0 32) (get_d_tabulate 16 g s (record { 0 = 0 }) (omega (arith, right.sizes.shards_to)))
        ∙ go (disjoint held (get_or ms s 0))
      where
        go : (b : Bool) → eqb (cond b 32 0) 32 ≡ b
        go true = refl
        go false = refl

    without_is : first_without (some_holders held ms) (shards σ) ≡ first_unheld_in σ held ms
    without_is = lowest_cong (shards σ) (λ s. eqb (node_at (some_holders held ms) s) 32) (unheld_in held ms) at
