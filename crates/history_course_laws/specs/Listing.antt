-- The kept view stands in the list: the holder of a shard reported it truly.
use Rattle.std.specs.Prelude.{ℕ, ◌<◌, Bool, true, ◌&&◌, List, ◌≡◌, eqb}
use Rattle.std.proofs.Common.{⊎_elim, sym, ◌∙◌, eqb-true, eq-eqb}
use Rattle.base_laws.specs.Bools.{clash, and_left, and_right, or-holds, of_not_true}
use Rattle.base_laws.specs.Definitions.{all_below, has}
use Rattle.base_laws.specs.Below.{all_at}
use Rattle.settings_values.specs.Definitions.{shards}
use Rattle.message_format.specs.declared.Contents.{Contents}
use Rattle.message_format.specs.Definitions.{members_of}
use Rattle.report_views.specs.declared.Layout.{Layout}
use Rattle.report_views.specs.declared.Termination.{Termination}
use Rattle.report_views.specs.Definitions.{report_of, mask_at, same_view, row12, slots_ok, holder}
use Rattle.report_views.specs.Meets.{QuorumMet, slot_given, candidate_given, holder_given, able_candidate}
use Rattle.history_laws.specs.Definitions.{History, True, Listed}

-- a report of the kept number that passes row 12 has the kept view
same_given : (σ : List ℕ) (v : Layout) (c : Contents) → c.view.0 ≡ v.number.0 → row12 σ v c ≡ true
    → (c.members ≡ v.members) × ((s : ℕ) → s < shards σ → members_of c.body s ≡ mask_at v s)
unfolding row12 same_view
same_given σ v c e h =
    let all : Bool = all_below (shards σ) (λ s. eqb (members_of c.body s) (mask_at v s)) in
    let w : (eqb c.members v.members && all) ≡ true =
    ⊎_elim (λ n. clash (eq-eqb _ _ e) (of_not_true _ n)) (λ k. k) (or-holds _ (eqb c.members v.members && all) h) in (
      eqb-true c.members v.members (and_left (eqb c.members v.members) all w),
      λ s l. eqb-true _ _ (all_at (shards σ) (λ i. eqb (members_of c.body i) (mask_at v i)) (and_right (eqb c.members v.members) all w) s l),
    )

pub listed_held : (σ : List ℕ) (v : Layout) (t : Termination) (held : ℕ) (d : List ℕ) (H : History) → 0 < shards σ → slots_ok σ v t held d ≡ true
    → QuorumMet σ v t held d → ((n : ℕ) → n < 32 → has held n ≡ true → True σ H (report_of d n)) → (place : ℕ) × Listed σ H v place
listed_held σ v t held d H some slots met reports =
    let h : ℕ = holder v t held d 0 in
    let top = holder_given v t held d 0 (met.holders 0 some) in
    let c = candidate_given v held d 0 h (able_candidate v t held d 0 h top.picked) in
    let slot = slot_given σ v t held d slots h top.below c.is_held in
    let report = reports h top.below c.is_held in
    let same = same_given σ v (report_of d h) c.of-kept slot.masks-same in (
      report.at,
      record {
        listed = report.listed;
        number = sym c.of-kept ∙ report.same.number;
        members = sym same.0 ∙ report.same.members;
        masks = λ s l. sym (same.1 s l) ∙ report.same.masks s l;
      },
    )
