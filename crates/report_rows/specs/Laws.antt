-- What is remembered after a report, node by node, and what a sound memory gives.
use Rattle.std.specs.Prelude.{ℕ, max, ◌<◌, ◌≤◌, Bool, false, cond, not, ◌&&◌, ◌||◌, List, ◌⊎◌, ◌≡◌, refl, ltb, get_or}
use Rattle.std.proofs.Math.Bool.{true}
use Rattle.std.proofs.Common.{inl, inr, ◌∙◌, arith}
use Rattle.std.proofs.Math.Logic.{⊎_elim}
use Rattle.std.proofs.Math.Path.{sym, ap}
use Rattle.std.proofs.Math.Dec.{eqb, leb}
use Rattle.std.proofs.lemmas.List.{get_or-replicate}
use borrow.Author.Tests.{eqb-true, eq-eqb, ne_eqb, leb-true, le-leb, ltb-true, lt-ltb}
use Rattle.base_laws.specs.Bools.{either, asked, lt_or_le, and_both, and_left, and_right, and_fails_left, and_rest, or_left, or_right, or-holds, not_of_false}
use Rattle.base_laws.specs.Definitions.{all_below, has}
use Rattle.base_laws.specs.Below.{all_at, all_of, all_cong}
use Rattle.base_laws.specs.Tables.{get_d_tabulate}
use Rattle.settings_values.specs.Definitions.{nodes}
use Rattle.base_ids.specs.declared.View.{View}
use Rattle.report_views.specs.Shorthands.{view_of}
use Rattle.report_rows.specs.declared.latest.Latest.{Latest}
use Rattle.report_rows.specs.Definitions.{no_latest, latest_at, noted_at, noted, recalled, latest_sound}

-- ---- after a report

module _ (m : Latest) (n v : ℕ) where
  pub noted-at : (i : ℕ) → i < 32 → latest_at (noted m n v) i ≡ cond (eqb i n) (max (latest_at m i) v) (latest_at m i)
  unfolding noted
  noted-at i l = ap (λ (w : View). w.0) (get_d_tabulate 32 (noted_at m n v) i (record { 0 = 0 }) l)

  -- of the node that reports
  pub noted_own : n < 32 → latest_at (noted m n v) n ≡ max (latest_at m n) v
  noted_own l = noted-at n l ∙ rw (eq-eqb n n refl)

  -- of another
  pub noted_other : (i : ℕ) → i < 32 → (i ≡ n → ⊥) → latest_at (noted m n v) i ≡ latest_at m i
  noted_other i l h = noted-at i l ∙ rw (ne_eqb i n h)

-- nothing is remembered of any node
pub none_latest : (n : ℕ) → n < 32 → latest_at no_latest n ≡ 0
unfolding no_latest
none_latest n l = ap (λ (w : View). w.0) (get_or-replicate {A = View} 32 n (record { 0 = 0 }) (record { 0 = 0 }) l)

-- ---- a sound memory

pub record Recalls (σ : List ℕ) (number held : ℕ) (d : List ℕ) (m : Latest) : Type 0 where
  pub from_report : (n : ℕ) → n < 32 → has held n ≡ true → view_of d n ≤ latest_at m n
  pub to_kept : (n : ℕ) → n < 32 → has held n ≡ true → latest_at m n ≤ number
  pub none_past : (n : ℕ) → n < 32 → nodes σ ≤ n → latest_at m n ≡ 0

module _ (σ : List ℕ) (number held : ℕ) (d : List ℕ) (m : Latest) where
  -- the two halves of what is asked of node n
  tidy : ℕ → Bool
  tidy n = ltb n (nodes σ) || eqb (latest_at m n) 0

  limits : ℕ → Bool
  limits n = leb (view_of d n) (latest_at m n) && leb (latest_at m n) number

  pub latest_given : latest_sound σ number held d m ≡ true → Recalls σ number held d m
  unfolding latest_sound recalled tidy limits
  latest_given h =
      record {
        from_report = λ n l p. leb-true _ _ (and_left (leb (view_of d n) (latest_at m n)) (leb (latest_at m n) number) (held_limits n l p));
        to_kept = λ n l p. leb-true _ _ (and_right (leb (view_of d n) (latest_at m n)) (leb (latest_at m n) number) (held_limits n l p));
        none_past = λ n l p.
            ⊎_elim (λ e. absurd (omega (arith, ltb-true n (nodes σ) e))) (λ e. eqb-true (latest_at m n) 0 e)
            (or-holds (ltb n (nodes σ)) (eqb (latest_at m n) 0) (and_left (tidy n) (not (has held n) || limits n) (all_at 32 (recalled σ number held d m) h n l)));
      }
    where
      held_limits : (n : ℕ) → n < 32 → has held n ≡ true → limits n ≡ true
      held_limits n l p =
          asked (limits n) p ∙ and_right (tidy n) (not (has held n) || limits n) (all_at 32 (recalled σ number held d m) h n l)

  pub latest-test : Recalls σ number held d m → latest_sound σ number held d m ≡ true
  unfolding latest_sound recalled
  latest-test r =
      all_of 32 (recalled σ number held d m) (λ n l.
      and_both
      (⊎_elim (λ i. or_left (eqb (latest_at m n) 0) (lt-ltb n (nodes σ) i))
      (λ i. or_right (ltb n (nodes σ)) (eq-eqb (latest_at m n) 0 (r.none_past n l i))) (lt_or_le n (nodes σ)))
      (⊎_elim
      (λ p. or_right (not (has held n)) (and_both (le-leb _ _ (r.from_report n l p)) (le-leb _ _ (r.to_kept n l p))))
      (λ p. or_left (leb (view_of d n) (latest_at m n) && leb (latest_at m n) number) (not_of_false p)) (either (has held n))))

-- ---- one node, from the view that it reported and the remembered one

unfoldable pub recalled_by : List ℕ → ℕ → ℕ → ℕ → ℕ → ℕ → Bool
recalled_by σ number held reported view n =
    (ltb n (nodes σ) || eqb view 0) && (not (has held n) || (leb reported view && leb view number))

module _ (σ : List ℕ) (number held reported view n : ℕ) where
  pub not_known : (ltb n (nodes σ) || eqb view 0) ≡ false → false ≡ recalled_by σ number held reported view n
  unfolding recalled_by
  not_known h = sym (and_fails_left _ h)

  pub not_held : (ltb n (nodes σ) || eqb view 0) ≡ true → has held n ≡ false → true ≡ recalled_by σ number held reported view n
  unfolding recalled_by
  not_held h p = sym (and_both h (or_left _ (not_of_false p)))

  pub is_held : (ltb n (nodes σ) || eqb view 0) ≡ true → has held n ≡ true
      → (leb reported view && leb view number) ≡ recalled_by σ number held reported view n
  unfolding recalled_by
  is_held h p = asked _ p ∙ and_rest _ h

abbrev pub recalled_at : List ℕ → ℕ → ℕ → List View → List View → ℕ → Bool
recalled_at σ number held reported views n = recalled_by σ number held (get_or reported n (record { 0 = 0 })).0 (get_or views n (record { 0 = 0 })).0 n

-- what is remembered is sound beside the views that the held nodes reported
abbrev pub latest_by : List ℕ → ℕ → ℕ → List View → Latest → Bool
latest_by σ number held reported m = all_below 32 (recalled_at σ number held reported m.views)

-- the views are those that the held nodes of the desk d reported
module _ (σ : List ℕ) (number held : ℕ) (views : List View) (m : Latest) (d : List ℕ) (told : (n : ℕ) → n < 32 → has held n ≡ true → (get_or views n (record { 0 = 0 })).0 ≡ view_of d n) where
  recalled_told : (n : ℕ) → n < 32 → recalled_at σ number held views m.views n ≡ recalled σ number held d m n
  unfolding recalled_by recalled
  recalled_told n l = go (either (has held n))
    where
      go : (has held n ≡ true) ⊎ (has held n ≡ false)
          → ((ltb n (nodes σ) || eqb (latest_at m n) 0) && (not (has held n) || (leb (get_or views n (record { 0 = 0 })).0 (latest_at m n) && leb (latest_at m n) number)))
          ≡ ((ltb n (nodes σ) || eqb (latest_at m n) 0) && (not (has held n) || (leb (view_of d n) (latest_at m n) && leb (latest_at m n) number)))
      go (inl p) = rw (told n l p)
      go (inr p) = rw p

  pub latest_told : latest_by σ number held views m ≡ latest_sound σ number held d m
  unfolding latest_sound
  latest_told = all_cong 32 (recalled_at σ number held views m.views) (recalled σ number held d m) recalled_told
