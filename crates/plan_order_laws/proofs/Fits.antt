-- What a sound plan and sound slots give a held node's order: its targets, holders and cuts are as row 11 asks, its masks as row
-- 10 does, the slots that it is made from can be read, and a node that follows it has the holder's log up to the target.
use Rattle.std.specs.Prelude.{ℕ, ◌<◌, Bool, cond, List, ◌++◌, ◌≡◌, length}
use Rattle.std.proofs.Common.{arith}
use Rattle.std.proofs.Math.Bool.{true, false}
use Rattle.std.proofs.Math.Path.{refl, subst⁻¹}
use Rattle.base_laws.specs.Definitions.{has}
use Rattle.settings_values.specs.Definitions.{shards, Settings}
use Rattle.message_format.specs.Definitions.{row10}
use Rattle.report_views.specs.declared.Layout.{Layout}
use Rattle.report_views.specs.declared.Termination.{Termination}
use Rattle.report_views.specs.declared.Plan.{Plan}
use Rattle.report_views.specs.Definitions.{report_of, end_at, mask_at, position_at, slot, holder_at, target_at, slots_ok, candidate, best, target, holder}
use Rattle.report_views.specs.Shorthands.{view_of}
use Rattle.report_views.specs.Best.{best_found}
use Rattle.report_views.specs.RunLaws.{Runs, passed_runs}
use Rattle.report_views.specs.Updates.{updates_at, up_to, kept_updates, fetched_updates}
use Rattle.report_log_laws.specs.CutLaws.{cut_view}
use Rattle.report_log_laws.proofs.CutLaws.{cut_position, kept_fetched}
use Rattle.report_views.specs.Meets.{slot_given, report_records, candidate_given, holder_given, able_candidate}
use Rattle.plan_order.specs.Definitions.{cut_of}
use Rattle.plan_order_laws.specs.Says.{saying}
use Rattle.plan_order_laws.specs.Passing.{Fitting}
use Rattle.plan_order_laws.specs.Sound.{KeptView, SoundPlan}
use Rattle.report_log_laws.specs.Ends.{LegalEnd, end_legal}
use Rattle.message_format.specs.declared.Form.TheVariants.{Report}
use Rattle.message_format.specs.Passed.{message_given}
use Rattle.plan_order.specs.Readable.{ReadableSlot, Holders}
use Rattle.place_groups.specs.Placed.{placed_passes}
use Rattle.plan_order_laws.specs.Fits.{node_below}

module _ (σ : List ℕ) (v : Layout) (t : Termination) (held : ℕ) (d : List ℕ) (p : Plan) (w : Settings σ) (k : KeptView σ v t held)
    (slots : slots_ok σ v t held d ≡ true) (ps : SoundPlan σ v t held d p) where
  -- the holder of a shard is a candidate
  holder_candidate : (s : ℕ) → s < shards σ → candidate v held d s (holder v t held d s) ≡ true
  holder_candidate s l =
      able_candidate v t held d s (holder v t held d s) (holder_given v t held d s (ps.met.holders s l)).picked

  small : (s : ℕ) → s < shards σ → s < 256
  small s l = omega (arith, w.sizes.shards_to)

  -- a candidate's log ends at a position with a view not above the kept one
  candidate_end : (s n : ℕ) → s < shards σ → n < 32 → candidate v held d s n ≡ true → LegalEnd v.number.0 (end_at d s n)
  candidate_end s n l m c =
      let at = candidate_given v held d s n c in
      let sound = slot_given σ v t held d slots n m at.is_held in
      let pass = report_records σ v t d n sound in
      let end = end_legal σ (report_of d n).node.0 (view_of d n) (report_of d n).members (report_of d n).body (report_of d n).len pass s (small s l) in
      record { is-position = end.is-position; no_later = omega (arith, end.no_later, sound.no_later) }

  target_legal : (s : ℕ) → s < shards σ → LegalEnd v.number.0 (target v t held d s)
  unfolding target
  target_legal s l = go t.made refl
    where
      go : (m : Bool) → t.made ≡ m → LegalEnd v.number.0 (cond m (position_at t s) (end_at d s (best (candidate v held d s) (end_at d s) 32)))
      go true e = record { is-position = k.term_legal e s l; no_later = k.term_reaches e s l }
      go false e =
          let b = best_found (candidate v held d s) (end_at d s) 32 (holder v t held d s) (ps.met.holders s l) (holder_candidate s l) in
          candidate_end s (best (candidate v held d s) (end_at d s) 32) l b.below b.picked

  planned_legal : (s : ℕ) → s < shards σ → LegalEnd v.number.0 (target_at p s)
  planned_legal s l = subst⁻¹ (LegalEnd v.number.0) (ps.target_is s l) (target_legal s l)

  holder_node : (s : ℕ) → s < shards σ → holder_at p s < 32
  holder_node s l = subst⁻¹ (λ (x : ℕ). x < 32) (ps.holder_is s l) (ps.met.holders s l)

  holder_held : (s : ℕ) → s < shards σ → has held (holder_at p s) ≡ true
  holder_held s l =
      subst⁻¹ (λ (x : ℕ). has held x ≡ true) (ps.holder_is s l)
      (candidate_given v held d s (holder v t held d s) (holder_candidate s l)).is_held

  -- the runs of a held node's log
  held_runs : (s n : ℕ) → s < shards σ → n < 32 → has held n ≡ true → Runs (report_of d n).body (report_of d n).len s
  held_runs s n l m e =
      let pass = report_records σ v t d n (slot_given σ v t held d slots n m e) in
      passed_runs σ (report_of d n).node.0 (view_of d n) (report_of d n).members (report_of d n).body (report_of d n).len pass s (small s l)

  slot_readable : length d ≡ 16384 → (n : ℕ) → n < 32 → has held n ≡ true → ReadableSlot d n
  slot_readable e n m h =
      record { words = e; below = m; chained = (message_given Report σ (slot d n) (slot_given σ v t held d slots n m h).valid).chain_passes }

  module _ (n : ℕ) (mine : has held n ≡ true) where
    cut_legal : (s : ℕ) → s < shards σ → LegalEnd (target_at p s).view.0 (cut_of p d n s)
    cut_legal s l =
        let own = held_runs s n l (omega (arith, (node_below σ v t held d p w k slots ps n mine), w.sizes.nodes_to)) mine in
        let other = held_runs s (holder_at p s) l (holder_node s l) (holder_held s l) in
        let h = holder_at p s in
        record {
          is-position =
              cut_position (report_of d n).body (report_of d n).len (report_of d h).body (report_of d h).len s (target_at p s)
              own other;
          no_later = cut_view (report_of d n).body (report_of d n).len (report_of d h).body (report_of d h).len s (target_at p s);
        }

    -- what the node keeps of its log, followed by what it fetches, is the holder's log up to the target
    pub restored : (s : ℕ) → s < shards σ
        → kept_updates (cut_of p d n s) (updates_at d s n) ++ fetched_updates (cut_of p d n s) (target_at p s) (updates_at d s (holder_at p s))
        ≡ up_to (target_at p s) (updates_at d s (holder_at p s))
    restored s l =
        let h = holder_at p s in
        kept_fetched (report_of d n).body (report_of d n).len (report_of d h).body (report_of d h).len s (target_at p s)
        (held_runs s n l (omega (arith, (node_below σ v t held d p w k slots ps n mine), w.sizes.nodes_to)) mine) (held_runs s h l (holder_node s l) (holder_held s l))

    -- what the order says is as rows 10 and 11 ask
    pub fitting : Fitting σ n p.layout.number.0 p.layout.members (saying p d n)
    fitting =
        record {
          masks_fit = subst⁻¹ (λ (x : ℕ). row10 σ x (mask_at p.layout) ≡ true) ps.members_held (placed_passes σ held (mask_at p.layout) w ps.groups-valid);
          target_legal = λ s l. (planned_legal s l).is-position;
          target_earlier = λ s l. omega (arith, (planned_legal s l).no_later, ps.number_next);
          holder_node = holder_node;
          holder_member = λ s l. subst⁻¹ (λ (x : ℕ). has x (holder_at p s) ≡ true) ps.members_held (holder_held s l);
          cut_legal = λ s l c. (cut_legal s l).is-position;
          cut_earlier = λ s l c. omega (arith, (cut_legal s l).no_later, (planned_legal s l).no_later, ps.number_next);
        }

    -- the slots of the node and of every holder can be read
    pub readable : length d ≡ 16384 → ReadableSlot d n
    readable e = slot_readable e n (omega (arith, (node_below σ v t held d p w k slots ps n mine), w.sizes.nodes_to)) mine

  pub holders_readable : length d ≡ 16384 → Holders (shards σ) p d
  holders_readable e = record { holder = λ s l. slot_readable e (holder_at p s) (holder_node s l) (holder_held s l) }
