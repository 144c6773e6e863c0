-- More held nodes never harm: where no wait applies with some nodes held, none does with more.
use Rattle.std.specs.Prelude.{ℕ, ◌*◌, ◌^◌, ◌<◌, ◌≤◌, Bool, ◌&&◌, List, ◌≡◌, get_or}
use Rattle.std.proofs.Math.Bool.{true, false}
use Rattle.std.proofs.Math.Logic.{⊎_elim}
use Rattle.std.proofs.Math.Path.{refl, sym}
use Rattle.std.proofs.Common.{◌∙◌, arith, lt_of_le_of_lt}
use Rattle.std.specs.Int.Bits.{bit_and}
use Rattle.std.proofs.Math.Dec.{eqb, ltb}
use borrow.Author.Tests.{ltb-true, ltb-false, lt-ltb, le-ltb}
use Rattle.base_laws.specs.Bools.{either, clash, and_both, and_left, and_right}
use Rattle.base_laws.specs.Definitions.{lowest, any_below, has, count, subset}
use Rattle.base_laws.specs.Below.{any_at, any_witness, lowest_below, lowest_none}
use Rattle.base_laws.specs.Masks.{width, has_and, subset_has, subset_of, subset_le, disjoint_has, disjoint_of}
use Rattle.base_laws.proofs.Masks.{count_subset}
use Rattle.settings_values.specs.Definitions.{nodes, least, shards, Settings}
use Rattle.place_laws.specs.Shards.{group_valid_of, shard_placed}
use Rattle.report_views.specs.Definitions.{majority}
use Rattle.report_views.specs.declared.Layout.{Layout}
use Rattle.report_views.specs.declared.Termination.{Termination}
use Rattle.report_views.specs.declared.Quorum.TheVariants.{Met}
use Rattle.report_views.specs.declared.Reason.TheVariants.{NoView, NoMajority, TooFew, NoHolder}
use Rattle.plan_masks.specs.Masks.{unheld_in, first_unheld_in, quorum_in}
use Rattle.plan_masks.specs.Counting.{Given, subset_through, fewer_given, quorum_given}
use Rattle.plan_masks.specs.Definitions.{Placeable, Allowed, Restartable}
use Rattle.plan_masks.specs.Numbered.{short_met}

-- a placement of some held nodes is one of more
pub placeable_more : (σ : List ℕ) (held more : ℕ) → subset held more ≡ true → Placeable σ held → Placeable σ more
placeable_more σ held more s p g l =
    let w = p g l in (
      w.0,
      group_valid_of σ more w.0 g (λ i o.
          let a = shard_placed σ held w.0 g w.1 i o in
          record { inside = subset_through (w.0 i) held more a.inside s; sized = a.sized; spreads = a.spreads; shares = a.shares }),
    )

-- what it means that no quorum condition fails
pub record Enough (σ : List ℕ) (v : Layout) (held : ℕ) (ms : List ℕ) : Type 0 where
  pub kept : eqb v.number.0 0 ≡ false
  pub most : majority v held ≡ true
  pub enough : ltb (count held) (least σ) ≡ false
  pub holders : ltb (first_unheld_in σ held ms) (shards σ) ≡ false

module _ (σ : List ℕ) (v : Layout) (held : ℕ) (ms : List ℕ) where
  met_enough : quorum_in σ v held ms ≡ Met → Enough σ v held ms
  unfolding quorum_in
  met_enough e = by (eqb v.number.0 0) (majority v held) (ltb (count held) (least σ)) (ltb (first_unheld_in σ held ms) (shards σ)) refl refl refl refl
    where
      by : (z a b c : Bool) → eqb v.number.0 0 ≡ z → majority v held ≡ a → ltb (count held) (least σ) ≡ b
          → ltb (first_unheld_in σ held ms) (shards σ) ≡ c → Enough σ v held ms
      by true a b c ez ea eb ec = absurd (short_met NoView (rw ez at e))
      by false false b c ez ea eb ec = absurd (short_met NoMajority (rw (ez, ea) at e))
      by false true true c ez ea eb ec = absurd (short_met TooFew (rw (ez, ea, eb) at e))
      by false true false true ez ea eb ec = absurd (short_met (NoHolder (record { 0 = first_unheld_in σ held ms })) (rw (ez, ea, eb, ec) at e))
      by false true false false ez ea eb ec = record { kept = ez; most = ea; enough = eb; holders = ec }

  enough_met : Enough σ v held ms → quorum_in σ v held ms ≡ Met
  unfolding quorum_in
  enough_met w = rw (w.kept, w.most, w.enough, w.holders)

module _ (σ : List ℕ) (v : Layout) (held more : ℕ) (ms : List ℕ) (s : subset held more ≡ true) where
  -- a shard that has a holder keeps one
  has_holder : (i : ℕ) → unheld_in more ms i ≡ true → unheld_in held ms i ≡ true
  has_holder i h = disjoint_of held held (get_or ms i 0) (width held) (λ n l p. disjoint_has more (get_or ms i 0) h n (subset_has held more s n p))

  more_enough : Enough σ v held ms → Enough σ v more ms
  unfolding majority first_unheld_in
  more_enough w =
      record {
        kept = w.kept;
        most = lt-ltb (count v.members) (2 * count (bit_and more v.members))
            (omega (arith, ltb-true (count v.members) (2 * count (bit_and held v.members)) w.most, members_more));
        enough = le-ltb (count more) (least σ) (omega (arith, ltb-false (count held) (least σ) w.enough, count_subset held more s));
        holders = ⊎_elim
            (λ e. clash (lt-ltb (lowest (shards σ) (unheld_in held ms)) (shards σ) (lowest_below (shards σ) (unheld_in held ms) (some e))) w.holders)
            (λ e. le-ltb (lowest (shards σ) (unheld_in more ms)) (shards σ) (omega (arith, lowest_none (shards σ) (unheld_in more ms) e)))
            (either (any_below (shards σ) (unheld_in more ms)));
      }
    where
      members_more : count (bit_and held v.members) ≤ count (bit_and more v.members)
      members_more =
          count_subset (bit_and held v.members) (bit_and more v.members)
          (subset_of (bit_and held v.members) (bit_and held v.members) (bit_and more v.members) (width (bit_and held v.members))
          (λ n l p.
          let q : (has held n && has v.members n) ≡ true = sym (has_and held v.members n) ∙ p in
          has_and more v.members n ∙ and_both (subset_has held more s n (and_left (has held n) (has v.members n) q)) (and_right (has held n) (has v.members n) q)))

      some : any_below (shards σ) (unheld_in more ms) ≡ true → any_below (shards σ) (unheld_in held ms) ≡ true
      some e = let k = any_witness (shards σ) (unheld_in more ms) e in any_at (shards σ) (unheld_in held ms) k.0 k.1 (has_holder k.0 k.2)

  -- by the masks
  pub masks_never_harm : Allowed σ held (quorum_in σ v held ms) → Allowed σ more (quorum_in σ v more ms)
  masks_never_harm a =
      record {
        quorum = enough_met σ v more ms (more_enough (met_enough σ v held ms a.quorum));
        placements = placeable_more σ held more s a.placements;
      }

-- by the desk, wherever the slots are sound
pub more_never_harm : (σ : List ℕ) (v : Layout) (t : Termination) (all held more : ℕ) (d ms : List ℕ) → Settings σ → more < 2 ^ nodes σ
    → subset held more ≡ true → Given σ v t all more d ms → Restartable σ v t held d → Restartable σ v t more d
more_never_harm σ v t all held more d ms right small s g r =
    let low : held < 2 ^ nodes σ = lt_of_le_of_lt (subset_le held more s) small in
    let here = quorum_given σ v t all held d ms right low (fewer_given σ v t all more held d ms s g) in
    let there = quorum_given σ v t all more d ms right small g in
    let a = masks_never_harm σ v held more ms s (record { quorum = here ∙ r.quorum; placements = r.placements }) in
    record { quorum = sym there ∙ a.quorum; placements = a.placements }
