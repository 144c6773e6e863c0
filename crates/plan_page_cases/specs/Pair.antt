-- Two worlds that agree on subgroup 0, which has shard 0 alone, and on nothing else: the first has one shard more, the second two, with
-- other sets, least size, subgroups, needs, masks and runs. The first would be planned, the second waits for nodes; page 0 is the same.
use Rattle.std.specs.Prelude.{ℕ, zero, suc, ◌<◌, ◌≤◌, true, false, not, ◌&&◌, ◌||◌, List, [], ◌∷◌, ◌++◌, ◌≡◌, refl, eqb, leb, length, replicate}
use Rattle.std.proofs.Common.{inl, ⊎_elim, sym, ap, ◌∙◌, arith, eqb-true, ne_eqb, le-leb}
use Rattle.std.specs.Int.Bits.{bit_and}
use Rattle.std.specs.Int.Count.{ones, ones_in}
use Rattle.std.proofs.lemmas.List.{length-replicate, get_or-replicate}
use Rattle.std.proofs.Math.ListN.{get_or-eq_default}
use Rattle.base_laws.specs.Bools.{clash, and_both, or-holds, of_not_true, lt_or_le}
use Rattle.base_laws.specs.Definitions.{all_below, any_below, count_below, lowest, has, count, pair_not_after, tabulate}
use Rattle.base_laws.specs.Below.{all_at}
use Rattle.base_laws.specs.Masks.{subset_le, within_has}
use Rattle.base_laws.proofs.Masks.{and_subset_right, count_subset}
use Rattle.base_sum_laws.specs.Definitions.{mask_below, sum_below}
use Rattle.settings_values.specs.Definitions.{set_of, need, cap, sizes_ok, nodes_ok, shard_ok, shards_ok, settings_ok, Settings}
use Rattle.settings_values.specs.Laws.{settings_give}
use Rattle.message_format.specs.Definitions.{place, following, shard_apart, body_word, body_of, contents_of}
use Rattle.place_groups.specs.Definitions.{meets_set, sets_in, shard_valid, group_valid, group_valid_at, group_moves, group_moves_at, group_stays, group_stays_at, of_group, nodes_in, Chosen}
use Rattle.place_laws.specs.Definitions.{masks_of}
use Rattle.place_laws.specs.Cases.{group_past}
use Rattle.place_laws.specs.Shards.{shard_placed}
use Rattle.place_layout.specs.Definitions.{PlacedAlone}
use Rattle.report_views.specs.declared.Layout.{Layout}
use Rattle.report_views.specs.declared.Phase.TheVariants.{Gathering}
use Rattle.report_views.specs.declared.Reason.TheVariants.{TooFew}
use Rattle.report_views.specs.declared.Quorum.TheVariants.{Met, Short}
use Rattle.report_views.specs.Definitions.{no_termination, no_plan, pos, start, end_of, runs_from, runs_of, reaches, holds, has_update, slot, report_of, mask_at, candidate, greatest, best, target, able, holder, majority, first_unheld, quorum_of}
use Rattle.report_views.specs.Shorthands.{view_of}
use Rattle.history_cases.specs.Runs.{slot_of}
use Rattle.plan_page.specs.Holders.{runs_at}
use Rattle.plan_page.specs.Choices.{AlikeGroup}
use Rattle.plan_page.proofs.Choices.{chosen_alike}
use Rattle.plan_page.specs.declared.Page.{Page}
use Rattle.plan_page.specs.Definitions.{shown, holder_shown, target_shown, PageOf}
use Rattle.plan_page.specs.Same.{AgreeOn}
use Rattle.plan_page_cases.specs.Rows.{node_named, page3, PageIs, page_is}

-- three nodes; the first world has shards of subgroups 0 and 1, the second of subgroups 0, 2 and 1
abbrev pub first_settings : List ℕ
first_settings = 3 ∷ 2 ∷ 1 ∷ 2 ∷ 0 ∷ 1 ∷ 1 ∷ 1 ∷ 257 ∷ []

abbrev pub second_settings : List ℕ
second_settings = 3 ∷ 3 ∷ 3 ∷ 3 ∷ 0 ∷ 1 ∷ 1 ∷ 1 ∷ 514 ∷ 257 ∷ []

abbrev pub first_view : Layout
first_view = record { number = record { 0 = 7 }; members = 7; masks = 1 ∷ 2 ∷ replicate 14 0 }

abbrev pub second_view : Layout
second_view = record { number = record { 0 = 7 }; members = 7; masks = 1 ∷ 6 ∷ 2 ∷ replicate 13 0 }

-- nodes 0 and 1 have reported; node 0 has run (7, 2) of shard 0, and what follows is of other shards
unfoldable pub first_desk : List ℕ
first_desk =
    slot_of (0 ∷ 7 ∷ 7 ∷ 1 ∷ 256 ∷ 1 ∷ 0 ∷ 2 ∷ 257 ∷ 2 ∷ 0 ∷ 3 ∷ 768 ∷ 7 ∷ 2 ∷ 0 ∷ [])
    ++ slot_of (1 ∷ 7 ∷ 7 ∷ 1 ∷ 256 ∷ 1 ∷ 0 ∷ 2 ∷ 257 ∷ 2 ∷ 0 ∷ 3 ∷ 769 ∷ 7 ∷ 9 ∷ 0 ∷ [])
    ++ replicate 15360 0

unfoldable pub second_desk : List ℕ
second_desk =
    slot_of
    (0 ∷ 7 ∷ 7 ∷ 1 ∷ 256 ∷ 1 ∷ 0 ∷ 2 ∷ 257 ∷ 6 ∷ 0 ∷ 3 ∷ 258 ∷ 2 ∷ 0 ∷ 4 ∷ 768 ∷ 7 ∷ 2 ∷ 5 ∷ 769 ∷ 5 ∷ 1 ∷ 6 ∷ 769 ∷ 7 ∷ 1 ∷ 0 ∷ [])
    ++ slot_of (1 ∷ 7 ∷ 7 ∷ 1 ∷ 256 ∷ 1 ∷ 0 ∷ 2 ∷ 257 ∷ 6 ∷ 0 ∷ 3 ∷ 258 ∷ 2 ∷ 0 ∷ 4 ∷ 770 ∷ 6 ∷ 3 ∷ 0 ∷ [])
    ++ replicate 15360 0

-- page 0: shard 0 has holder 0 and target (7, 2), and node 0 stays
abbrev pub pair_page : Page
pair_page = page3 Gathering 7 1 1 (replicate 16 (node_named 0)) (pos 7 2 ∷ replicate 15 start) true (1 ∷ replicate 15 0) 0

pub record PairRows : Type 0 where
  -- the first would be planned: no wait applies, and each subgroup has a placement; the second waits for nodes
  pub first_met : quorum_of first_settings first_view no_termination 3 first_desk ≡ Met
  pub first_placed : (g : ℕ) → g < 4 → group_valid first_settings 3 (mask_at first_view) g ≡ true
  pub second_waits : quorum_of second_settings second_view no_termination 3 second_desk ≡ Short TooFew
  -- they agree on subgroup 0, and both have this page of it
  pub agree : AgreeOn 0 first_settings second_settings first_view second_view no_termination no_termination 3 first_desk second_desk no_plan no_plan
  pub first_page : PageIs first_settings Gathering first_view no_termination 3 first_desk no_plan 0 pair_page
  pub second_page : PageIs second_settings Gathering second_view no_termination 3 second_desk no_plan 0 pair_page
  -- and other shards of subgroup 1
  pub first_other : mask_below 16 (of_group first_settings 1) ≡ 2
  pub second_other : mask_below 16 (of_group second_settings 1) ≡ 4

pub first_right : Settings first_settings
unfolding all_below sizes_ok nodes_ok cap shard_ok shards_ok settings_ok
first_right = settings_give first_settings refl

pub second_right : Settings second_settings
unfolding all_below sizes_ok nodes_ok cap shard_ok shards_ok settings_ok
second_right = settings_give second_settings refl

pub first_whole : length first_desk ≡ 16384
unfolding first_desk
first_whole = refl

pub second_whole : length second_desk ≡ 16384
unfolding second_desk
second_whole = refl

-- ---- they agree

-- the held nodes are 0 and 1, the nodes 0 to 2
of_two : (P : ℕ → Type 0) → P 0 → P 1 → (n : ℕ) → has 3 n ≡ true → P n
of_two P a b n h = go n (within_has 2 3 refl n h)
  where
    go : (n : ℕ) → n < 2 → P n
    go zero l = a
    go (suc zero) l = b
    go (suc (suc n)) l = absurd (omega arith)

of_three : (P : ℕ → Type 0) → P 0 → P 1 → P 2 → (n : ℕ) → n < 3 → P n
of_three P a b c zero l = a
of_three P a b c (suc zero) l = b
of_three P a b c (suc (suc zero)) l = c
of_three P a b c (suc (suc (suc n))) l = absurd (omega arith)

-- subgroup 0 has shard 0 in both worlds, and no other
first_own : (s : ℕ) → of_group first_settings 0 s ≡ eqb s 0
unfolding of_group
first_own zero = refl
first_own (suc zero) = refl
first_own (suc (suc s)) = group_past first_settings 0 (suc (suc s)) (omega arith) ∙ sym (ne_eqb (suc (suc s)) 0 (λ z. omega arith))

second_own : (s : ℕ) → of_group second_settings 0 s ≡ eqb s 0
unfolding of_group
second_own zero = refl
second_own (suc zero) = refl
second_own (suc (suc zero)) = refl
second_own (suc (suc (suc s))) =
    group_past second_settings 0 (suc (suc (suc s))) (omega arith) ∙ sym (ne_eqb (suc (suc (suc s))) 0 (λ z. omega arith))

is_first : (s : ℕ) → of_group first_settings 0 s ≡ true → s ≡ 0
is_first s o = eqb-true s 0 (sym (first_own s) ∙ o)

at-first : (P : ℕ → Type 0) → P 0 → (s : ℕ) → of_group first_settings 0 s ≡ true → P s
at-first P a zero o = a
at-first P a (suc s) o = absurd (let z : suc s ≡ 0 = is_first (suc s) o in omega arith)

alike : AlikeGroup first_settings second_settings 0
unfolding cap
alike =
    record {
      nodes_same = refl;
      sets_same = λ n l. of_three (λ m. set_of first_settings m ≡ set_of second_settings m) refl refl refl n l;
      shards_same = λ s. first_own s ∙ sym (second_own s);
      needs_same = λ s o. at-first (λ i. need first_settings i ≡ need second_settings i) refl s o;
      caps_same = λ s o. at-first (λ i. cap first_settings i ≡ cap second_settings i) refl s o;
    }

views_same : (n : ℕ) → has 3 n ≡ true → view_of first_desk n ≡ view_of second_desk n
unfolding first_desk second_desk tabulate place following body_word body_of contents_of slot report_of
views_same n h = of_two (λ m. view_of first_desk m ≡ view_of second_desk m) refl refl n h

runs_same : (n : ℕ) → has 3 n ≡ true → runs_at first_desk 0 n ≡ runs_at second_desk 0 n
unfolding first_desk second_desk any_below lowest tabulate place following body_word body_of contents_of slot report_of runs_from runs_of
runs_same n h = of_two (λ m. runs_at first_desk 0 m ≡ runs_at second_desk 0 m) refl refl n h

pub pair_agree : AgreeOn 0 first_settings second_settings first_view second_view no_termination no_termination 3 first_desk second_desk no_plan no_plan
pair_agree =
    record {
      settings = alike;
      number = refl;
      views = λ n l h. views_same n h;
      made = refl;
      masks = λ s o. at-first (λ i. mask_at first_view i ≡ mask_at second_view i) refl s o;
      positions = λ s o. refl;
      runs = λ s o n l h. at-first (λ i. runs_at first_desk i n ≡ runs_at second_desk i n) (runs_same n h) s o;
      plan = λ s o. refl;
    }

-- ---- the choice: node 0 stays

abbrev pair_masks : ℕ → ℕ
pair_masks = masks_of (1 ∷ replicate 15 0)

kept_valid : group_valid first_settings 3 pair_masks 0 ≡ true
unfolding all_below any_below ones ones_in count_below cap meets_set sets_in shard_valid shard_apart group_valid_at group_valid
kept_valid = refl

kept-moves : group_moves first_settings (mask_at first_view) pair_masks 0 ≡ 0
unfolding ones ones_in sum_below group_moves group_moves_at
kept-moves = refl

kept-stays : group_stays first_settings (mask_at first_view) pair_masks 0 ≡ 1
unfolding ones ones_in sum_below group_stays group_stays_at
kept-stays = refl

stays_are : (P : ℕ → ℕ) → group_stays first_settings (mask_at first_view) P 0 ≡ count (bit_and (P 0) 1)
unfolding sum_below group_stays group_stays_at
stays_are P = omega arith

-- one node of those held that stays is node 0
stays-test : all_below 4 (λ m. not (leb (count m) 1 && leb 1 (count (bit_and m 1))) || eqb m 1) ≡ true
unfolding all_below ones ones_in
stays-test = refl

kept-only : (P : ℕ → ℕ) → group_valid first_settings 3 P 0 ≡ true → 1 ≤ group_stays first_settings (mask_at first_view) P 0 → P 0 ≡ 1
unfolding cap of_group
kept-only P v l =
    let w = shard_placed first_settings 3 P 0 v 0 refl in
    let both : (leb (count (P 0)) 1 && leb 1 (count (bit_and (P 0) 1))) ≡ true =
    and_both (le-leb (count (P 0)) 1 w.sized) (le-leb 1 (count (bit_and (P 0) 1)) (omega (arith, l, stays_are P))) in
    ⊎_elim (λ n. clash both (of_not_true (leb (count (P 0)) 1 && leb 1 (count (bit_and (P 0) 1))) n)) (λ e. eqb-true (P 0) 1 e)
    (or-holds (not (leb (count (P 0)) 1 && leb 1 (count (bit_and (P 0) 1)))) (eqb (P 0) 1)
    (all_at 4 (λ m. not (leb (count m) 1 && leb 1 (count (bit_and m 1))) || eqb m 1) stays-test (P 0) (omega (arith, subset_le (P 0) 3 w.inside))))

count_one : count 1 ≡ 1
unfolding ones ones_in
count_one = refl

first_chosen : Chosen first_settings 3 (mask_at first_view) pair_masks 0
first_chosen =
    record {
      least = record { valid = kept_valid; least = λ other v. omega (arith, kept-moves) };
      most = λ other l. omega (arith, kept-stays, stays_are other, count_one, count_subset (bit_and (other 0) 1) 1 (and_subset_right (other 0) 1));
      first = λ other l e.
          inl (record { alike = λ s o. ap nodes_in (at-first (λ i. pair_masks i ≡ other i) (sym (kept-only other l.valid (omega (arith, e, kept-stays)))) s o) });
    }

second_chosen : Chosen second_settings 3 (mask_at second_view) pair_masks 0
second_chosen =
    chosen_alike first_right.sizes.shards_to second_right.sizes.shards_to alike 3 pair_agree.masks first_chosen

second_moves : group_moves second_settings (mask_at second_view) pair_masks 0 ≡ 0
unfolding ones ones_in sum_below group_moves group_moves_at
second_moves = refl

-- past shard 0 a mask is 0
kept_rest : (s : ℕ) → eqb s 0 ≡ false → pair_masks s ≡ 0
kept_rest zero e = clash refl e
kept_rest (suc s) e =
    ⊎_elim (λ m. get_or-replicate 15 s 0 0 m) (λ m. get_or-eq_default (replicate 15 0) 0 {n = s} (omega (arith, length-replicate {A = ℕ} 15 0))) (lt_or_le s 15)

placed_of : (σ : List ℕ) (v : Layout) → Chosen σ 3 (mask_at v) pair_masks 0 → group_moves σ (mask_at v) pair_masks 0 ≡ 0 → ((s : ℕ) → of_group σ 0 s ≡ eqb s 0)
    → PlacedAlone σ 3 (mask_at v) 0 (record { found = true; masks = 1 ∷ replicate 15 0; moves = 0 })
placed_of σ v c m own =
    record {
      chosen = λ e. c;
      counted = λ e. sym m;
      others = λ s o. kept_rest s (sym (own s) ∙ o);
      sized = refl;
      none = λ e. clash refl e;
      blank = λ e. clash refl e;
      still = λ e. clash refl e;
    }

-- ---- the pages

first_is : PageOf first_settings Gathering first_view no_termination 3 first_desk no_plan 0 pair_page
unfolding first_desk ones ones_in all_below any_below lowest tabulate mask_below pair_not_after place following body_word body_of contents_of end_of reaches holds has_update slot report_of candidate greatest best target able holder of_group shown holder_shown target_shown
first_is =
    record {
      phase = refl;
      view = refl;
      shards = refl;
      known = refl;
      holders = refl;
      targets = refl;
      placement = placed_of first_settings first_view first_chosen kept-moves first_own;
    }

second_is : PageOf second_settings Gathering second_view no_termination 3 second_desk no_plan 0 pair_page
unfolding second_desk ones ones_in all_below any_below lowest tabulate mask_below pair_not_after place following body_word body_of contents_of end_of reaches holds has_update slot report_of candidate greatest best target able holder of_group shown holder_shown target_shown
second_is =
    record {
      phase = refl;
      view = refl;
      shards = refl;
      known = refl;
      holders = refl;
      targets = refl;
      placement = placed_of second_settings second_view second_chosen second_moves second_own;
    }

met : quorum_of first_settings first_view no_termination 3 first_desk ≡ Met
unfolding first_desk ones ones_in all_below any_below lowest tabulate pair_not_after place following body_word body_of contents_of end_of reaches holds has_update slot report_of candidate greatest best target able holder majority first_unheld quorum_of
met = refl

waits : quorum_of second_settings second_view no_termination 3 second_desk ≡ Short TooFew
unfolding second_desk ones ones_in all_below any_below lowest tabulate majority quorum_of
waits = refl

all_placed : (g : ℕ) → g < 4 → group_valid first_settings 3 (mask_at first_view) g ≡ true
unfolding all_below any_below ones ones_in count_below cap meets_set sets_in shard_valid shard_apart group_valid_at group_valid
all_placed zero l = refl
all_placed (suc zero) l = refl
all_placed (suc (suc zero)) l = refl
all_placed (suc (suc (suc zero))) l = refl
all_placed (suc (suc (suc (suc g)))) l = absurd (omega arith)

pub pair_rows : PairRows
unfolding mask_below of_group
pair_rows =
    record {
      first_met = met;
      first_placed = all_placed;
      second_waits = waits;
      agree = pair_agree;
      first_page = page_is first_settings first_view no_termination 3 first_desk no_plan first_right (omega arith) first_whole Gathering first_is;
      second_page = page_is second_settings second_view no_termination 3 second_desk no_plan second_right (omega arith) second_whole Gathering second_is;
      first_other = refl;
      second_other = refl;
    }
