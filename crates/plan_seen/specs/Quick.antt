-- A slot that the walk tells: it is sound, and the indexes of the last runs give the ends.
use Rattle.std.specs.Prelude.{ℕ, ◌+◌, ◌<◌, ◌≤◌, Bool, true, false, ◌≡◌, length, get_or, set, replicate}
use mathlib.Core.List.{List}
use Rattle.std.proofs.Common.{⊎_elim, sym, ap, ◌∙◌, subst, arith, get_or-set_same, get_or-set_other}
use Rattle.std.proofs.Math.Path.{refl, subst⁻¹}
use Rattle.base_laws.specs.Bools.{eq_or_ne}
use Rattle.base_laws.specs.Definitions.{has}
use Rattle.base_ids.specs.declared.View.{View}
use Rattle.settings_values.specs.Definitions.{Settings}
use Rattle.report_views.specs.declared.Layout.{Layout}
use Rattle.report_views.specs.declared.Termination.{Termination}
use Rattle.report_views.specs.Definitions.{slot, report_of, slot_ok}
use Rattle.report_quick.specs.Accepts.{length_slot}
use Rattle.report_walk.specs.Seen as Walk
use Rattle.report_walk.specs.Sound.{Walked, told_sound, told_view}
use Rattle.report_walk.specs.Ends.{told_few, told_key, told_len, told_records}
use Rattle.report_walk.specs.Kept.{TablesOf, ready_means}
use Rattle.report_walk.specs.declared.Frame.{Frame}
use Rattle.report_views.specs.Numbers.{as_number}
use Rattle.plan_seen.specs.Nodes.{SlotIs, EndsTold, slot_words}
use Rattle.plan_seen.specs.Fold.{Stepped}

-- what the walk compares with is that of the kept view and its termination
pub record KeptAs (σ : List ℕ) (v : Layout) (t : Termination) (frame : Frame) (masks records positions : List ℕ) : Type 0 where
  pub right : Settings σ
  pub tables : TablesOf σ v t (record { frame = frame; masks = records; positions = positions })
  pub masks_are : masks ≡ v.masks

-- the end of shard s is the one that the walk's list l gives, if the node is a member of it
abbrev pub EndIs : List ℕ → List ℕ → List ℕ → ℕ → ℕ → ℕ → Type 0
EndIs masks b l n s x = has (get_or masks s 0) n ≡ true → get_or l s 0 ≤ 127 → x ≡ Walk.end_key b l s

-- one end more
pub ends_more : (masks b l : List ℕ) (n s x : ℕ) (ends : List ℕ) → length ends ≡ 16 → s < 16 → EndIs masks b l n s x
    → ((j : ℕ) → j < s → EndIs masks b l n j (get_or ends j 0)) → (j : ℕ) → j < s + 1 → EndIs masks b l n j (get_or (set ends s x) j 0)
ends_more masks b l n s x ends long few here below j m =
    ⊎_elim
    (λ e. subst⁻¹ (λ (k : ℕ). EndIs masks b l n k (get_or (set ends s x) k 0)) e
    (subst⁻¹ (λ (y : ℕ). EndIs masks b l n s y) (get_or-set_same ends s x 0 (omega arith)) here))
    (λ e. subst⁻¹ (λ (y : ℕ). EndIs masks b l n j y) (get_or-set_other ends s j x 0 e) (below j (omega (arith, e))))
    (eq_or_ne j s)

module _ (σ : List ℕ) (v : Layout) (t : Termination) (frame : Frame) (masks records positions : List ℕ)
    (kept : KeptAs σ v t frame masks records positions) (d : List ℕ) (n : ℕ) (b l : List ℕ) (r : ℕ) (is : SlotIs d n b) (below : n < 32)
    (seen : (frame.ready ≡ true) × Walk.SlotTold frame.number.0 frame.members records frame.made positions frame.count b n (replicate 16 0) l r) where
  walked : Walked σ v t (slot d n) b records positions (replicate 16 0) l n r
  walked =
      record {
        right = kept.right;
        kept = ready_means σ v t (sym kept.tables.ready ∙ seen.0);
        words = slot_words d n is.words is.whole below;
        pairs = is.pairs;
        members = kept.tables.masks;
        ends = kept.tables.positions;
        seen =
            subst (λ (x : ℕ). Walk.SlotTold v.number.0 v.members records t.made positions x b n (replicate 16 0) l r) kept.tables.count
            (subst (λ (x : Bool). Walk.SlotTold v.number.0 v.members records x positions frame.count b n (replicate 16 0) l r) kept.tables.made
            (subst (λ (x : ℕ). Walk.SlotTold v.number.0 x records frame.made positions frame.count b n (replicate 16 0) l r) kept.tables.members
            (subst (λ (x : View). Walk.SlotTold x.0 frame.members records frame.made positions frame.count b n (replicate 16 0) l r) kept.tables.number seen.1)));
      }

  pub walked_sound : slot_ok σ v t d n ≡ true
  walked_sound = told_sound walked d refl (length_slot d n is.whole below)

  pub walked_ends : (ends : List ℕ) → ((s : ℕ) → s < frame.count → EndIs masks b l n s (get_or ends s 0)) → EndsTold σ v t d n b r ends
  unfolding report_of as_number
  walked_ends ends given =
      record {
        whole = is.whole;
        words = is.words;
        below = below;
        sound = walked_sound;
        kept = told_view walked;
        length_is = told_len walked;
        records = told_records walked;
        ends_are = λ s m h.
            let small : s < 16 = omega (arith, kept.right.sizes.shards_to) in
            given s (omega (arith, kept.tables.count)) (ap (λ (x : List ℕ). has (get_or x s 0) n) kept.masks_are ∙ h) (told_few walked refl s small)
            ∙ told_key walked refl s small;
      }

-- the step by the walk, where it tells the slot
pub record QuickStep (frame : Frame) (masks records positions b : List ℕ) (n : ℕ) (r : Bool) (hs ts hs' ts' : List ℕ) : Type 0 where
  pub same : r ≡ false → (hs' ≡ hs) × (ts' ≡ ts)
  pub done : r ≡ true → (σ : List ℕ) (v : Layout) (t : Termination) (d : List ℕ) → KeptAs σ v t frame masks records positions → SlotIs d n b → n < 32
      → Stepped σ v t d n true hs ts hs' ts'

pub stepped_from : (σ : List ℕ) (v : Layout) (t : Termination) (d : List ℕ) (n : ℕ) (r : Bool) {hs ts hs1 ts1 hs2 ts2 : List ℕ} → hs1 ≡ hs → ts1 ≡ ts
    → Stepped σ v t d n r hs1 ts1 hs2 ts2 → Stepped σ v t d n r hs ts hs2 ts2
stepped_from σ v t d n r {hs} {ts} {hs1} {ts1} {hs2} {ts2} p q s =
    subst (λ (x : List ℕ). Stepped σ v t d n r hs x hs2 ts2) q (subst (λ (x : List ℕ). Stepped σ v t d n r x ts1 hs2 ts2) p s)

-- the walk, then the reading of what it did not tell
pub stepped_both : (σ : List ℕ) (v : Layout) (t : Termination) (d : List ℕ) (n : ℕ) (told r : Bool) {hs ts hs1 ts1 hs2 ts2 : List ℕ}
    → (told ≡ true → Stepped σ v t d n true hs ts hs1 ts1) → (told ≡ false → (hs1 ≡ hs) × (ts1 ≡ ts))
    → (told ≡ true → (r ≡ true) × (hs2 ≡ hs1) × (ts2 ≡ ts1)) → (told ≡ false → Stepped σ v t d n r hs1 ts1 hs2 ts2)
    → Stepped σ v t d n r hs ts hs2 ts2
stepped_both σ v t d n true r {hs} {ts} {hs1} {ts1} {hs2} {ts2} walked same left step =
    let p = left refl in
    subst⁻¹ (λ (x : Bool). Stepped σ v t d n x hs ts hs2 ts2) p.0
    (subst⁻¹ (λ (x : List ℕ). Stepped σ v t d n true hs ts x ts2) p.1
    (subst⁻¹ (λ (x : List ℕ). Stepped σ v t d n true hs ts hs1 x) p.2 (walked refl)))
stepped_both σ v t d n false r walked same left step = stepped_from σ v t d n r (same refl).0 (same refl).1 (step refl)
