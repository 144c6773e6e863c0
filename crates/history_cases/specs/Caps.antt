-- Cases of caps. A shard that needs members from two sets and had four keeps all four. Of three shards one lacks a member: it gets one of those
-- whose shard keeps another, and where moves and stays are equal the shorter list, a prefix of the other, decides whose.
use Rattle.std.specs.Prelude.{ℕ, true, ◌&&◌, ◌||◌, List, [], ◌∷◌, ◌≡◌, refl, ltb}
use Rattle.std.proofs.Math.Bool.{Bool}
use Rattle.std.specs.Int.Count.{ones, ones_in}
use Rattle.std.proofs.Math.Dec.{eqb}
use Rattle.base_laws.specs.Definitions.{all_below, any_below, count_below}
use Rattle.base_sum_laws.specs.Definitions.{sum_below, list_from, list_before}
use Rattle.settings_values.specs.Definitions.{cap}
use Rattle.place_groups.specs.Definitions.{meets_set, sets_in, shard_valid, group_moves_at, group_moves, group_stays_at, group_stays, nodes_in}
use Rattle.history_cases.specs.Placed.{three, everywhere}

-- ---- four nodes, two of each of two sets, all held; one shard that needs two sets and may have four nodes had them all

abbrev pub cap_of_four : List ℕ
cap_of_four = 4 ∷ 2 ∷ 1 ∷ 1 ∷ 0 ∷ 0 ∷ 1 ∷ 1 ∷ 262146 ∷ []

pub four_move : group_moves cap_of_four (λ s. 15) (λ s. 15) 0 ≡ 0
unfolding ones ones_in sum_below group_moves group_moves_at
four_move = refl

pub four_stay : group_stays cap_of_four (λ s. 15) (λ s. 15) 0 ≡ 4
unfolding ones ones_in sum_below group_stays group_stays_at
four_stay = refl

-- ---- a choice among the placements of three shards, from a test of them all

-- masks x, y and z do not come after a, b and c
unfoldable pub not_after : ℕ → ℕ → ℕ → ℕ → ℕ → ℕ → Bool
not_after x y z a b c =
    list_before (nodes_in x) (nodes_in a)
    || (eqb x a && (list_before (nodes_in y) (nodes_in b) || (eqb y b && (list_before (nodes_in z) (nodes_in c) || eqb z c))))

-- more than these moves; or as many, and fewer than these stays; or as many, and r
unfoldable pub no_better : ℕ → ℕ → ℕ → ℕ → Bool → Bool
no_better few many m s r = ltb few m || (eqb m few && (ltb s many || (eqb s many && r)))

-- ---- four nodes of one set, all held; shards 0 and 1, which had two nodes each, may keep them, and shard 2 has none

abbrev pub prefix_settings : List ℕ
prefix_settings = 4 ∷ 1 ∷ 1 ∷ 3 ∷ 0 ∷ 0 ∷ 0 ∷ 0 ∷ 131073 ∷ 131073 ∷ 1 ∷ []

pub prefix_moves : group_moves prefix_settings (three 3 12 0) (three 1 12 2) 0 ≡ 1
unfolding ones ones_in sum_below group_moves group_moves_at
prefix_moves = refl

pub prefix_stays : group_stays prefix_settings (three 3 12 0) (three 1 12 2) 0 ≡ 3
unfolding ones ones_in sum_below group_stays group_stays_at
prefix_stays = refl

pub prefix-test : everywhere prefix_settings 15
    (λ a b c. no_better 1 3 (group_moves prefix_settings (three 3 12 0) (three a b c) 0) (group_stays prefix_settings (three 3 12 0) (three a b c) 0) (not_after 1 12 2 a b c))
    ≡ true
unfolding no_better not_after all_below any_below ones ones_in count_below sum_below cap meets_set sets_in shard_valid group_moves group_moves_at group_stays group_stays_at list_from list_before nodes_in
prefix-test = refl
