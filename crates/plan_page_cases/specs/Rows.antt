-- Pages of case A and of worlds beside it: with a clause of the definition left out or turned round a row would be false.
use Rattle.std.specs.Prelude.{ℕ, zero, suc, ◌^◌, ◌<◌, ◌≤◌, Bool, true, false, List, [], ◌∷◌, ◌≡◌, refl, eqb, length, replicate}
use Rattle.std.proofs.Common.{⊎_elim, sym, arith}
use Rattle.std.specs.Int.Count.{ones, ones_in}
use Rattle.std.proofs.lemmas.List.{length-replicate, get_or-replicate}
use Rattle.std.proofs.Math.ListN.{get_or-eq_default}
use Rattle.base_laws.specs.Bools.{clash, lt_or_le}
use Rattle.base_laws.specs.Definitions.{all_below, any_below, count_below, lowest, pair_not_after, tabulate}
use Rattle.base_sum_laws.specs.Definitions.{mask_below, sum_below}
use Rattle.base_ids.specs.declared.Node.{Node}
use Rattle.base_ids.specs.declared.Position.{Position}
use Rattle.settings_values.specs.Definitions.{nodes, shards, subgroup, cap, sizes_ok, nodes_ok, shard_ok, shards_ok, settings_ok, Settings}
use Rattle.settings_values.specs.Laws.{settings_give}
use Rattle.message_format.specs.Definitions.{place, following, body_word, body_of, contents_of}
use Rattle.place_groups.specs.Definitions.{meets_set, sets_in, shard_valid, group_moves, group_moves_at, Impossible, of_group}
use Rattle.place_laws.specs.Definitions.{masks_of}
use Rattle.place_laws.specs.Cases.{group_shard, group_past}
use Rattle.place_laws.specs.Choice.{chosen_local, chosen_none, none_moves}
use Rattle.place_layout.specs.Definitions.{PlacedAlone}
use Rattle.report_views.specs.declared.Layout.{Layout}
use Rattle.report_views.specs.declared.Termination.{Termination}
use Rattle.report_views.specs.declared.Plan.{Plan}
use Rattle.report_views.specs.declared.Phase.{Phase}
use Rattle.report_views.specs.declared.Phase.TheVariants.{Gathering, Ordered, Preparing, Committed}
use Rattle.report_views.specs.Definitions.{no_view, no_termination, no_plan, pos, start, end_of, reaches, holds, has_update, slot, report_of, mask_at, candidate, greatest, best, target, able, holder}
use Rattle.report_cases.specs.Kept.{ended_at}
use Rattle.report_cases.specs.Sound.{plan_of_case_a}
use Rattle.history_cases.specs.Runs.{case_settings, settings_with, desk, view7}
use Rattle.history_cases.specs.Placed.{plan_a, everywhere, OneGroup, placed_at, one_group, a_chosen, i_none}
use Rattle.plan_page.specs.declared.Page.{Page}
use Rattle.plan_page.specs.Definitions.{shown, holder_shown, target_shown, mask_shown, PageOf}
use Rattle.plan_page.proofs.Same.{one_page}

-- ---- pages of three shards

-- node n
abbrev pub node_named : ℕ → Node
node_named n = record { 0 = n }

abbrev pub nodes3 : ℕ → ℕ → ℕ → List Node
nodes3 a b c = node_named a ∷ node_named b ∷ node_named c ∷ replicate 13 (node_named 0)

-- a target of shard 1, and none of any other
abbrev pub ends3 : Position → List Position
ends3 p = start ∷ p ∷ replicate 14 start

abbrev pub masks3 : ℕ → ℕ → ℕ → List ℕ
masks3 a b c = a ∷ b ∷ c ∷ replicate 13 0

abbrev pub page3 : Phase → ℕ → ℕ → ℕ → List Node → List Position → Bool → List ℕ → ℕ → Page
page3 at view shards known holders targets found masks moves =
    record {
      phase = at;
      view = record { 0 = view };
      shards = shards;
      known = known;
      holders = holders;
      targets = targets;
      found = found;
      masks = masks;
      moves = moves;
    }

-- the page is p, and nothing else is
pub record PageIs (σ : List ℕ) (at : Phase) (v : Layout) (t : Termination) (held : ℕ) (d : List ℕ) (pl : Plan) (g : ℕ) (p : Page) : Type 0 where
  pub is : PageOf σ at v t held d pl g p
  pub only : (q : Page) → PageOf σ at v t held d pl g q → q ≡ p

pub page_is : (σ : List ℕ) (v : Layout) (t : Termination) (held : ℕ) (d : List ℕ) (pl : Plan) → Settings σ → held < 2 ^ nodes σ → length d ≡ 16384
    → {g : ℕ} {p : Page} (at : Phase) → PageOf σ at v t held d pl g p → PageIs σ at v t held d pl g p
page_is σ v t held d pl right inside long at w = record { is = w; only = λ q x. one_page σ v t held d pl right inside long at x w }

-- ---- placements

-- past the third a mask is 0
rest-zero : (a b c s : ℕ) → 3 ≤ s → masks_of (masks3 a b c) s ≡ 0
rest-zero a b c zero l = absurd (omega arith)
rest-zero a b c (suc zero) l = absurd (omega arith)
rest-zero a b c (suc (suc zero)) l = absurd (omega arith)
rest-zero a b c (suc (suc (suc s))) l =
    ⊎_elim (λ m. get_or-replicate 13 s 0 0 m) (λ m. get_or-eq_default (replicate 13 0) 0 {n = s} (omega (arith, length-replicate {A = ℕ} 13 0))) (lt_or_le s 13)

zero_mask : (s : ℕ) → masks_of (replicate 16 0) s ≡ 0
zero_mask s =
    ⊎_elim (λ m. get_or-replicate 16 s 0 0 m) (λ m. get_or-eq_default (replicate 16 0) 0 {n = s} (omega (arith, length-replicate {A = ℕ} 16 0))) (lt_or_le s 16)

-- none
none_placed : (σ : List ℕ) (held : ℕ) (old : ℕ → ℕ) (g : ℕ) → Impossible σ held g
    → PlacedAlone σ held old g (record { found = false; masks = replicate 16 0; moves = 0 })
none_placed σ held old g i =
    record {
      chosen = λ e. clash e refl;
      counted = λ e. clash e refl;
      others = λ s o. zero_mask s;
      sized = refl;
      none = λ e. i;
      blank = λ e. refl;
      still = λ e. refl;
    }

-- of a subgroup without shards
empty_placed : (σ : List ℕ) (held : ℕ) (old : ℕ → ℕ) (g : ℕ) → ((s : ℕ) → of_group σ g s ≡ false)
    → PlacedAlone σ held old g (record { found = true; masks = replicate 16 0; moves = 0 })
empty_placed σ held old g empty =
    record {
      chosen = λ e. chosen_none σ g empty held old (masks_of (replicate 16 0));
      counted = λ e. sym (none_moves σ g empty old (masks_of (replicate 16 0)));
      others = λ s o. zero_mask s;
      sized = refl;
      none = λ e. clash refl e;
      blank = λ e. clash refl e;
      still = λ e. clash refl e;
    }

-- all three shards are of subgroup 0
three_others : (g : ℕ) → (eqb 0 g ≡ false) → (s : ℕ) → of_group case_settings g s ≡ false
unfolding of_group
three_others g e zero = e
three_others g e (suc zero) = e
three_others g e (suc (suc zero)) = e
three_others g e (suc (suc (suc s))) = group_past case_settings g (suc (suc (suc s))) (omega arith)

all_ours : (s : ℕ) → s < 3 → of_group case_settings 0 s ≡ true
unfolding of_group
all_ours s l = one_group s (λ n. of_group case_settings 0 n ≡ true) refl refl refl l

a_moved : group_moves case_settings (mask_at view7) (masks_of (masks3 5 50 8)) 0 ≡ 2
unfolding ones ones_in sum_below group_moves group_moves_at
a_moved = refl

-- case A: the chosen placement
a_placed : PlacedAlone case_settings 63 (mask_at view7) 0 (record { found = true; masks = masks3 5 50 8; moves = 2 })
a_placed =
    record {
      chosen = λ e.
          chosen_local {a = plan_a}
          (record { at = λ s o. one_group s (λ n. plan_a n ≡ masks_of (masks3 5 50 8) n) refl refl refl (group_shard case_settings 0 s o) }) a_chosen;
      counted = λ e. sym a_moved;
      others = λ s o. ⊎_elim (λ l. clash (all_ours s l) o) (λ l. rest-zero 5 50 8 s l) (lt_or_le s 3);
      sized = refl;
      none = λ e. clash refl e;
      blank = λ e. clash refl e;
      still = λ e. clash refl e;
    }

a_shards : OneGroup case_settings
a_shards = record { all = refl; group = λ s l. one_group s (λ n. subgroup case_settings n ≡ 0) refl refl refl l }

-- without node 5, and with nobody, no placement exists
five-test : everywhere case_settings 31 (λ a b c. false) ≡ true
unfolding all_below ones ones_in any_below count_below cap meets_set sets_in shard_valid
five-test = refl

nobody-test : everywhere case_settings 0 (λ a b c. false) ≡ true
unfolding all_below ones ones_in any_below count_below cap meets_set sets_in shard_valid
nobody-test = refl

five_none : Impossible case_settings 31 0
five_none = record { none = λ P v. clash (placed_at case_settings 31 (λ a b c. false) five-test a_shards P v) refl }

nobody_none : Impossible case_settings 0 0
nobody_none = record { none = λ P v. clash (placed_at case_settings 0 (λ a b c. false) nobody-test a_shards P v) refl }

-- ---- the rows

-- shard 1 in subgroup 1
abbrev pub split_settings : List ℕ
split_settings = 7 ∷ 3 ∷ 4 ∷ 3 ∷ 0 ∷ 0 ∷ 1 ∷ 1 ∷ 1 ∷ 2 ∷ 2 ∷ 2 ∷ 259 ∷ 1 ∷ []

abbrev pub page_a : Phase → Page
page_a at = page3 at 7 7 7 (nodes3 0 1 5) (ends3 (pos 7 5)) true (masks3 5 50 8) 2

pub record WorkedPages : Type 0 where
  -- case A: in gathering what decide would place, in every later phase the plan's
  pub gathering : PageIs case_settings Gathering view7 no_termination 63 desk no_plan 0 (page_a Gathering)
  pub ordered : PageIs case_settings Ordered view7 no_termination 63 desk plan_of_case_a 0 (page_a Ordered)
  pub preparing : PageIs case_settings Preparing view7 no_termination 63 desk plan_of_case_a 0 (page_a Preparing)
  pub committed : PageIs case_settings Committed view7 no_termination 63 desk plan_of_case_a 0 (page_a Committed)
  -- a subgroup without shards has the empty placement, and nothing of the others is shown
  pub no_shards : PageIs case_settings Gathering view7 no_termination 63 desk no_plan 1 (page3 Gathering 7 0 0 (nodes3 0 0 0) (ends3 start) true (masks3 0 0 0) 0)
  -- node 5 is absent: shard 2 has no holder, and its place shows 0 and not 32; no placement exists
  pub absent : PageIs case_settings Gathering view7 no_termination 31 desk no_plan 0 (page3 Gathering 7 7 3 (nodes3 0 1 0) (ends3 (pos 7 5)) false (masks3 0 0 0) 0)
  -- shard 0 needs three sets: all holders, and no placement
  pub unplaced : PageIs (settings_with 4 3) Gathering view7 no_termination 63 desk no_plan 0 (page3 Gathering 7 7 7 (nodes3 0 1 5) (ends3 (pos 7 5)) false (masks3 0 0 0) 0)
  -- no view is kept
  pub fresh : PageIs case_settings Gathering no_view no_termination 0 desk no_plan 0 (page3 Gathering 0 7 0 (nodes3 0 0 0) (ends3 start) false (masks3 0 0 0) 0)
  pub fresh_none : PageIs case_settings Gathering no_view no_termination 0 desk no_plan 2 (page3 Gathering 0 0 0 (nodes3 0 0 0) (ends3 start) true (masks3 0 0 0) 0)
  -- a kept termination ends shard 1 where nobody's log does: neither holder nor position is shown
  pub ended : PageIs case_settings Ordered view7 (ended_at 7 9 0 0) 63 desk plan_of_case_a 0 (page3 Ordered 7 7 5 (nodes3 0 0 5) (ends3 start) true (masks3 5 50 8) 2)
  -- shard 1 in a subgroup of its own: each page has its own shards, masks and moves, and not the plan's total of two
  pub split_0 : PageIs split_settings Ordered view7 no_termination 63 desk plan_of_case_a 0 (page3 Ordered 7 5 5 (nodes3 0 0 5) (ends3 start) true (masks3 5 0 8) 1)
  pub split_1 : PageIs split_settings Ordered view7 no_termination 63 desk plan_of_case_a 1 (page3 Ordered 7 2 2 (nodes3 0 1 0) (ends3 (pos 7 5)) true (masks3 0 50 0) 1)

case-settings : Settings case_settings
unfolding all_below sizes_ok nodes_ok cap shard_ok shards_ok settings_ok
case-settings = settings_give case_settings refl

three_settings : Settings (settings_with 4 3)
unfolding all_below sizes_ok nodes_ok cap shard_ok shards_ok settings_ok
three_settings = settings_give (settings_with 4 3) refl

split-settings : Settings split_settings
unfolding all_below sizes_ok nodes_ok cap shard_ok shards_ok settings_ok
split-settings = settings_give split_settings refl

desk_whole : length desk ≡ 16384
unfolding desk
desk_whole = refl

-- a page whose placement is given, and the rest computed
gathering_page : PageOf case_settings Gathering view7 no_termination 63 desk no_plan 0 (page_a Gathering)
unfolding desk ones ones_in all_below any_below lowest tabulate mask_below pair_not_after place following body_word body_of contents_of end_of reaches holds has_update slot report_of candidate greatest best target able holder of_group shown holder_shown target_shown
gathering_page =
    record { phase = refl; view = refl; shards = refl; known = refl; holders = refl; targets = refl; placement = a_placed }

ordered_page : PageOf case_settings Ordered view7 no_termination 63 desk plan_of_case_a 0 (page_a Ordered)
unfolding desk ones ones_in all_below any_below lowest tabulate mask_below pair_not_after place following body_word body_of contents_of end_of reaches holds has_update slot report_of candidate greatest best target able holder of_group shown holder_shown target_shown mask_shown sum_below group_moves_at group_moves
ordered_page =
    record { phase = refl; view = refl; shards = refl; known = refl; holders = refl; targets = refl; placement = record { found = refl; masks = refl; counted = refl } }

preparing_page : PageOf case_settings Preparing view7 no_termination 63 desk plan_of_case_a 0 (page_a Preparing)
unfolding desk ones ones_in all_below any_below lowest tabulate mask_below pair_not_after place following body_word body_of contents_of end_of reaches holds has_update slot report_of candidate greatest best target able holder of_group shown holder_shown target_shown mask_shown sum_below group_moves_at group_moves
preparing_page =
    record { phase = refl; view = refl; shards = refl; known = refl; holders = refl; targets = refl; placement = record { found = refl; masks = refl; counted = refl } }

committed_page : PageOf case_settings Committed view7 no_termination 63 desk plan_of_case_a 0 (page_a Committed)
unfolding desk ones ones_in all_below any_below lowest tabulate mask_below pair_not_after place following body_word body_of contents_of end_of reaches holds has_update slot report_of candidate greatest best target able holder of_group shown holder_shown target_shown mask_shown sum_below group_moves_at group_moves
committed_page =
    record { phase = refl; view = refl; shards = refl; known = refl; holders = refl; targets = refl; placement = record { found = refl; masks = refl; counted = refl } }

no_shards_page : PageOf case_settings Gathering view7 no_termination 63 desk no_plan 1 (page3 Gathering 7 0 0 (nodes3 0 0 0) (ends3 start) true (masks3 0 0 0) 0)
unfolding desk ones ones_in all_below any_below lowest tabulate mask_below pair_not_after place following body_word body_of contents_of end_of reaches holds has_update slot report_of candidate greatest best target able holder of_group shown holder_shown target_shown
no_shards_page =
    record { phase = refl; view = refl; shards = refl; known = refl; holders = refl; targets = refl; placement = empty_placed case_settings 63 (mask_at view7) 1 (three_others 1 refl) }

absent_page : PageOf case_settings Gathering view7 no_termination 31 desk no_plan 0 (page3 Gathering 7 7 3 (nodes3 0 1 0) (ends3 (pos 7 5)) false (masks3 0 0 0) 0)
unfolding desk ones ones_in all_below any_below lowest tabulate mask_below pair_not_after place following body_word body_of contents_of end_of reaches holds has_update slot report_of candidate greatest best target able holder of_group shown holder_shown target_shown
absent_page =
    record { phase = refl; view = refl; shards = refl; known = refl; holders = refl; targets = refl; placement = none_placed case_settings 31 (mask_at view7) 0 five_none }

unplaced_page : PageOf (settings_with 4 3) Gathering view7 no_termination 63 desk no_plan 0 (page3 Gathering 7 7 7 (nodes3 0 1 5) (ends3 (pos 7 5)) false (masks3 0 0 0) 0)
unfolding desk ones ones_in all_below any_below lowest tabulate mask_below pair_not_after place following body_word body_of contents_of end_of reaches holds has_update slot report_of candidate greatest best target able holder of_group shown holder_shown target_shown
unplaced_page =
    record { phase = refl; view = refl; shards = refl; known = refl; holders = refl; targets = refl; placement = none_placed (settings_with 4 3) 63 (mask_at view7) 0 i_none }

fresh_page : PageOf case_settings Gathering no_view no_termination 0 desk no_plan 0 (page3 Gathering 0 7 0 (nodes3 0 0 0) (ends3 start) false (masks3 0 0 0) 0)
unfolding desk ones ones_in all_below any_below lowest tabulate mask_below pair_not_after place following body_word body_of contents_of end_of reaches holds has_update slot report_of candidate greatest best target able holder of_group shown holder_shown target_shown
fresh_page =
    record { phase = refl; view = refl; shards = refl; known = refl; holders = refl; targets = refl; placement = none_placed case_settings 0 (mask_at no_view) 0 nobody_none }

fresh_none_page : PageOf case_settings Gathering no_view no_termination 0 desk no_plan 2 (page3 Gathering 0 0 0 (nodes3 0 0 0) (ends3 start) true (masks3 0 0 0) 0)
unfolding desk ones ones_in all_below any_below lowest tabulate mask_below pair_not_after place following body_word body_of contents_of end_of reaches holds has_update slot report_of candidate greatest best target able holder of_group shown holder_shown target_shown
fresh_none_page =
    record { phase = refl; view = refl; shards = refl; known = refl; holders = refl; targets = refl; placement = empty_placed case_settings 0 (mask_at no_view) 2 (three_others 2 refl) }

ended_page : PageOf case_settings Ordered view7 (ended_at 7 9 0 0) 63 desk plan_of_case_a 0 (page3 Ordered 7 7 5 (nodes3 0 0 5) (ends3 start) true (masks3 5 50 8) 2)
unfolding desk ones ones_in all_below any_below lowest tabulate mask_below pair_not_after place following body_word body_of contents_of end_of reaches holds has_update slot report_of candidate greatest best target able holder of_group shown holder_shown target_shown mask_shown sum_below group_moves_at group_moves
ended_page =
    record { phase = refl; view = refl; shards = refl; known = refl; holders = refl; targets = refl; placement = record { found = refl; masks = refl; counted = refl } }

split_0_page : PageOf split_settings Ordered view7 no_termination 63 desk plan_of_case_a 0 (page3 Ordered 7 5 5 (nodes3 0 0 5) (ends3 start) true (masks3 5 0 8) 1)
unfolding desk ones ones_in all_below any_below lowest tabulate mask_below pair_not_after place following body_word body_of contents_of end_of reaches holds has_update slot report_of candidate greatest best target able holder of_group shown holder_shown target_shown mask_shown sum_below group_moves_at group_moves
split_0_page =
    record { phase = refl; view = refl; shards = refl; known = refl; holders = refl; targets = refl; placement = record { found = refl; masks = refl; counted = refl } }

split_1_page : PageOf split_settings Ordered view7 no_termination 63 desk plan_of_case_a 1 (page3 Ordered 7 2 2 (nodes3 0 1 0) (ends3 (pos 7 5)) true (masks3 0 50 0) 1)
unfolding desk ones ones_in all_below any_below lowest tabulate mask_below pair_not_after place following body_word body_of contents_of end_of reaches holds has_update slot report_of candidate greatest best target able holder of_group shown holder_shown target_shown mask_shown sum_below group_moves_at group_moves
split_1_page =
    record { phase = refl; view = refl; shards = refl; known = refl; holders = refl; targets = refl; placement = record { found = refl; masks = refl; counted = refl } }

pub worked_pages : WorkedPages
worked_pages =
    record {
      gathering = page_is case_settings view7 no_termination 63 desk no_plan case-settings (omega arith) desk_whole Gathering gathering_page;
      ordered = page_is case_settings view7 no_termination 63 desk plan_of_case_a case-settings (omega arith) desk_whole Ordered ordered_page;
      preparing = page_is case_settings view7 no_termination 63 desk plan_of_case_a case-settings (omega arith) desk_whole Preparing preparing_page;
      committed = page_is case_settings view7 no_termination 63 desk plan_of_case_a case-settings (omega arith) desk_whole Committed committed_page;
      no_shards = page_is case_settings view7 no_termination 63 desk no_plan case-settings (omega arith) desk_whole Gathering no_shards_page;
      absent = page_is case_settings view7 no_termination 31 desk no_plan case-settings (omega arith) desk_whole Gathering absent_page;
      unplaced = page_is (settings_with 4 3) view7 no_termination 63 desk no_plan three_settings (omega arith) desk_whole Gathering unplaced_page;
      fresh = page_is case_settings no_view no_termination 0 desk no_plan case-settings (omega arith) desk_whole Gathering fresh_page;
      fresh_none = page_is case_settings no_view no_termination 0 desk no_plan case-settings (omega arith) desk_whole Gathering fresh_none_page;
      ended = page_is case_settings view7 (ended_at 7 9 0 0) 63 desk plan_of_case_a case-settings (omega arith) desk_whole Ordered ended_page;
      split_0 = page_is split_settings view7 no_termination 63 desk plan_of_case_a split-settings (omega arith) desk_whole Ordered split_0_page;
      split_1 = page_is split_settings view7 no_termination 63 desk plan_of_case_a split-settings (omega arith) desk_whole Ordered split_1_page;
    }
