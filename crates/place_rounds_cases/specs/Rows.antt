-- Two nodes of one set, both held; shard 0 is of subgroup 1, shard 1 of subgroup 0, and both had node 1. The start gives both node 0. The first
-- round is subgroup 0's, so shard 1's, the second subgroup 1's, and there is no third.
use Rattle.std.specs.Prelude.{ℕ, zero, suc, ◌≤◌, ◌<◌, true, false, cond, List, [], ◌∷◌, ◌⊎◌, ◌≡◌, refl, eqb}
use Rattle.std.proofs.Common.{inl, inr, ⊎_elim, sym, ap, ◌∙◌, subst, arith, eqb-true, ne_eqb}
use Rattle.std.specs.Int.Count.{ones, ones_in}
use Rattle.base_laws.specs.Bools.{clash}
use Rattle.base_laws.specs.Definitions.{all_below, any_below, count_below, count}
use Rattle.base_laws.specs.Masks.{subset_le}
use Rattle.base_sum_laws.specs.Definitions.{sum_below, list_from, list_before}
use Rattle.settings_values.specs.Definitions.{cap}
use Rattle.message_format.specs.Definitions.{shard_apart}
use Rattle.place_groups.specs.Definitions.{meets_set, sets_in, shard_valid, group_valid, group_valid_at, group_moves, group_moves_at, of_group, nodes_in, NotLater}
use Rattle.place_laws.specs.Cases.{group_past}
use Rattle.place_laws.specs.Local.{AlikeInGroup, moves_local}
use Rattle.place_laws.specs.Shards.{shard_placed}
use Rattle.place_laws.specs.Definitions.{lacking}
use Rattle.place_rounds.specs.Definitions.{FirstValid, NoneFewer, Round, over, done, more, plan_floor, gap_of, Bettered}

abbrev pub pair_settings : List ℕ
pair_settings = 2 ∷ 1 ∷ 1 ∷ 2 ∷ 0 ∷ 0 ∷ 257 ∷ 1 ∷ []

-- shard 0 has a, shard 1 has b
abbrev pub two_masks : ℕ → ℕ → ℕ → ℕ
two_masks a b s = cond (eqb s 0) a b

abbrev pub pair_old : ℕ → ℕ
pair_old s = 2

-- three nodes, of sets 1, 0, 0; both shards are of subgroup 1: shard 0 needs both sets and may have three nodes, shard 1 needs one and may have two
abbrev pub wide_settings : List ℕ
wide_settings = 3 ∷ 2 ∷ 1 ∷ 2 ∷ 1 ∷ 0 ∷ 0 ∷ 196866 ∷ 131329 ∷ []

pub record RoundRows : Type 0 where
  -- the start; one round in the lowest subgroup; one more; and no more than these
  pub none : Bettered pair_settings 3 pair_old 0 (two_masks 1 1)
  pub one : Bettered pair_settings 3 pair_old 1 (two_masks 1 2)
  pub two : Bettered pair_settings 3 pair_old 2 (two_masks 2 2)
  pub most : Bettered pair_settings 3 pair_old 128 (two_masks 2 2)
  -- their gaps
  pub gap_none : gap_of pair_settings 3 pair_old (two_masks 1 1) ≡ 2
  pub gap_one : gap_of pair_settings 3 pair_old (two_masks 1 2) ≡ 1
  pub gap_two : gap_of pair_settings 3 pair_old (two_masks 2 2) ≡ 0
  -- an old member that is not held does not count
  pub gap_lost : gap_of pair_settings 1 pair_old (two_masks 1 1) ≡ 0
  -- the need counts, not the cap, and sets, not nodes
  pub floor_need : plan_floor wide_settings 7 (two_masks 2 1) ≡ 1
  pub floor_sets : plan_floor wide_settings 7 (two_masks 6 1) ≡ 1
  pub gap_wide : gap_of wide_settings 7 (two_masks 2 1) (two_masks 3 4) ≡ 1

-- ---- who is of which subgroup

low_own : (s : ℕ) → of_group pair_settings 0 s ≡ eqb s 1
unfolding of_group
low_own zero = refl
low_own (suc zero) = refl
low_own (suc (suc s)) = group_past pair_settings 0 (suc (suc s)) (omega arith) ∙ sym (ne_eqb (suc (suc s)) 1 (λ z. omega arith))

high_own : (s : ℕ) → of_group pair_settings 1 s ≡ eqb s 0
unfolding of_group
high_own zero = refl
high_own (suc zero) = refl
high_own (suc (suc s)) = group_past pair_settings 1 (suc (suc s)) (omega arith) ∙ sym (ne_eqb (suc (suc s)) 0 (λ z. omega arith))

third_none : (s : ℕ) → of_group pair_settings 2 s ≡ false
unfolding of_group
third_none zero = refl
third_none (suc zero) = refl
third_none (suc (suc s)) = group_past pair_settings 2 (suc (suc s)) (omega arith)

last_none : (s : ℕ) → of_group pair_settings 3 s ≡ false
unfolding of_group
last_none zero = refl
last_none (suc zero) = refl
last_none (suc (suc s)) = group_past pair_settings 3 (suc (suc s)) (omega arith)

is_low : (s : ℕ) → of_group pair_settings 0 s ≡ true → s ≡ 1
is_low s o = eqb-true s 1 (sym (low_own s) ∙ o)

is_high : (s : ℕ) → of_group pair_settings 1 s ≡ true → s ≡ 0
is_high s o = eqb-true s 0 (sym (high_own s) ∙ o)

-- a shard of theirs has node 0 or node 1
one_or_two : (m : ℕ) → m ≤ 3 → count m ≤ 1 → 1 ≤ sets_in pair_settings m → (m ≡ 1) ⊎ (m ≡ 2)
unfolding ones ones_in any_below count_below meets_set sets_in
one_or_two zero l c n = absurd (omega arith)
one_or_two (suc zero) l c n = inl refl
one_or_two (suc (suc zero)) l c n = inr refl
one_or_two (suc (suc (suc zero))) l c n = absurd (omega arith)
one_or_two (suc (suc (suc (suc m)))) l c n = absurd (omega arith)

low_valid : (other : ℕ → ℕ) → group_valid pair_settings 3 other 0 ≡ true → (other 1 ≡ 1) ⊎ (other 1 ≡ 2)
unfolding cap
low_valid other v =
    let w = shard_placed pair_settings 3 other 0 v 1 (low_own 1) in
    one_or_two (other 1) (subset_le (other 1) 3 w.inside) w.sized w.spreads

high_valid : (other : ℕ → ℕ) → group_valid pair_settings 3 other 1 ≡ true → (other 0 ≡ 1) ⊎ (other 0 ≡ 2)
unfolding cap
high_valid other v =
    let w = shard_placed pair_settings 3 other 1 v 0 (high_own 0) in
    one_or_two (other 0) (subset_le (other 0) 3 w.inside) w.sized w.spreads

-- a placement by the one shard of its subgroup
low_alike : (other : ℕ → ℕ) (m : ℕ) → other 1 ≡ m → AlikeInGroup pair_settings 0 other (λ s. m)
low_alike other m e = record { at = λ s o. ap other (is_low s o) ∙ e }

high_alike : (other : ℕ → ℕ) (m : ℕ) → other 0 ≡ m → AlikeInGroup pair_settings 1 other (λ s. m)
high_alike other m e = record { at = λ s o. ap other (is_high s o) ∙ e }

-- node 0 before node 1
before : list_before (nodes_in 1) (nodes_in 2) ≡ true
unfolding nodes_in list_from list_before
before = refl

low_same : {a other : ℕ → ℕ} → a 1 ≡ other 1 → NotLater (of_group pair_settings 0) a other
low_same {a} {other} e = inl (record { alike = λ s o. ap (λ (t : ℕ). nodes_in (a t)) (is_low s o) ∙ (ap nodes_in e ∙ sym (ap (λ (t : ℕ). nodes_in (other t)) (is_low s o))) })

high_same : {a other : ℕ → ℕ} → a 0 ≡ other 0 → NotLater (of_group pair_settings 1) a other
high_same {a} {other} e = inl (record { alike = λ s o. ap (λ (t : ℕ). nodes_in (a t)) (is_high s o) ∙ (ap nodes_in e ∙ sym (ap (λ (t : ℕ). nodes_in (other t)) (is_high s o))) })

low_sooner : {other : ℕ → ℕ} → other 1 ≡ 2 → NotLater (of_group pair_settings 0) (two_masks 1 1) other
low_sooner {other} e =
    inr (record {
      shard = 1;
      picked = low_own 1;
      alike = λ s l o. absurd (omega (arith, is_low s o));
      smaller = subst (λ (m : ℕ). list_before (nodes_in 1) (nodes_in m) ≡ true) (sym e) before;
    })

high_sooner : {other : ℕ → ℕ} → other 0 ≡ 2 → NotLater (of_group pair_settings 1) (two_masks 1 1) other
high_sooner {other} e =
    inr (record {
      shard = 0;
      picked = high_own 0;
      alike = λ s l o. absurd (omega arith);
      smaller = subst (λ (m : ℕ). list_before (nodes_in 1) (nodes_in m) ≡ true) (sym e) before;
    })

-- ---- start and rounds

starts : (g : ℕ) → g < 4 → FirstValid pair_settings 3 (two_masks 1 1) g
unfolding ones ones_in all_below any_below count_below cap meets_set sets_in shard_valid shard_apart group_valid_at group_valid
starts zero l =
    record { valid = refl; first = λ other v. ⊎_elim (λ e. low_same (sym e)) (λ e. low_sooner e) (low_valid other v) }
starts (suc zero) l =
    record { valid = refl; first = λ other v. ⊎_elim (λ e. high_same (sym e)) (λ e. high_sooner e) (high_valid other v) }
starts (suc (suc zero)) l = record { valid = refl; first = λ other v. inl (record { alike = λ s o. clash o (third_none s) }) }
starts (suc (suc (suc zero))) l = record { valid = refl; first = λ other v. inl (record { alike = λ s o. clash o (last_none s) }) }
starts (suc (suc (suc (suc g)))) l = absurd (omega arith)

-- what node 0 moves, and node 1 does not
low_moves : group_moves pair_settings pair_old (λ s. 1) 0 ≡ 1
unfolding ones ones_in sum_below group_moves group_moves_at
low_moves = refl

high_moves : group_moves pair_settings pair_old (λ s. 1) 1 ≡ 1
unfolding ones ones_in sum_below group_moves group_moves_at
high_moves = refl

first_round : Round pair_settings 3 pair_old (two_masks 1 1) (two_masks 1 2)
unfolding ones ones_in all_below any_below sum_below count_below cap meets_set sets_in shard_valid shard_apart group_valid_at group_valid group_moves group_moves_at
first_round =
    record {
      at = 0;
      below = omega arith;
      better =
          record {
            valid = refl;
            fewer = omega arith;
            first = λ other v l.
                ⊎_elim (λ e. absurd (omega (arith, moves_local (low_alike other 1 e) pair_old, low_moves))) (λ e. low_same (sym e)) (low_valid other v);
          };
      lower = λ h l. absurd (omega arith);
      else = λ s l o. keeps s l o;
    }
  where
    keeps : (s : ℕ) → s < 2 → of_group pair_settings 0 s ≡ false → two_masks 1 2 s ≡ two_masks 1 1 s
    keeps zero l o = refl
    keeps (suc zero) l o = clash (low_own 1) o
    keeps (suc (suc s)) l o = absurd (omega arith)

low_none : NoneFewer pair_settings 3 pair_old (two_masks 1 2) 0
unfolding ones ones_in sum_below group_moves group_moves_at
low_none = record { none = λ other v. omega arith }

second_round : Round pair_settings 3 pair_old (two_masks 1 2) (two_masks 2 2)
unfolding ones ones_in all_below any_below sum_below count_below cap meets_set sets_in shard_valid shard_apart group_valid_at group_valid group_moves group_moves_at
second_round =
    record {
      at = 1;
      below = omega arith;
      better =
          record {
            valid = refl;
            fewer = omega arith;
            first = λ other v l.
                ⊎_elim (λ e. absurd (omega (arith, moves_local (high_alike other 1 e) pair_old, high_moves))) (λ e. high_same (sym e)) (high_valid other v);
          };
      lower = λ h l. let z : 0 ≡ h = omega arith in subst (NoneFewer pair_settings 3 pair_old (two_masks 1 2)) z low_none;
      else = λ s l o. keeps s l o;
    }
  where
    keeps : (s : ℕ) → s < 2 → of_group pair_settings 1 s ≡ false → two_masks 2 2 s ≡ two_masks 1 2 s
    keeps zero l o = clash (high_own 0) o
    keeps (suc zero) l o = refl
    keeps (suc (suc s)) l o = absurd (omega arith)

ends : (g : ℕ) → g < 4 → NoneFewer pair_settings 3 pair_old (two_masks 2 2) g
unfolding ones ones_in sum_below group_moves group_moves_at
ends zero l = record { none = λ other v. omega arith }
ends (suc zero) l = record { none = λ other v. omega arith }
ends (suc (suc zero)) l = record { none = λ other v. omega arith }
ends (suc (suc (suc zero))) l = record { none = λ other v. omega arith }
ends (suc (suc (suc (suc g)))) l = absurd (omega arith)

pub round_rows : RoundRows
unfolding ones ones_in any_below sum_below count_below meets_set sets_in group_moves_at group_moves lacking plan_floor gap_of
round_rows =
    record {
      none = record { start = two_masks 1 1; first = starts; rounds = over (λ s l. refl) };
      one = record { start = two_masks 1 1; first = starts; rounds = more first_round (over (λ s l. refl)) };
      two = record { start = two_masks 1 1; first = starts; rounds = more first_round (more second_round (over (λ s l. refl))) };
      most = record { start = two_masks 1 1; first = starts; rounds = more first_round (more second_round (done ends (λ s l. refl))) };
      gap_none = refl;
      gap_one = refl;
      gap_two = refl;
      gap_lost = refl;
      floor_need = refl;
      floor_sets = refl;
      gap_wide = refl;
    }
