-- What a met quorum, a candidate, a holder and a sound slot give, as records.
use Rattle.std.specs.Prelude.{ℕ, ◌*◌, ◌<◌, ◌≤◌, Bool, true, false, cond, ◌&&◌, ◌||◌, List, ◌≡◌, refl, eqb, leb, ltb}
use Rattle.std.proofs.Math.Bool.{not}
use Rattle.std.proofs.Math.Logic.{⊎_elim}
use Rattle.std.proofs.Common.{arith}
use Rattle.std.proofs.Math.Arith.{lt_of_le-ne}
use Rattle.std.specs.Int.Bits.{bit_and}
use borrow.Author.Tests.{eqb-true, eqb-false, leb-true, ltb-true, ltb-false}
use Rattle.base_laws.specs.Bools.{clash, and_left, and_right, or-holds, of_not_true, of_not_false}
use Rattle.base_laws.specs.Definitions.{lowest, has, count}
use Rattle.base_laws.specs.Below.{all_at, lowest_first}
use Rattle.settings_values.specs.Definitions.{least, shards}
use Rattle.base_ids.specs.Definitions.{not_after, accepted, none}
use Rattle.base_ids.specs.Refusals.{accepted_none}
use Rattle.message_format.specs.declared.Form.TheVariants.{Report}
use Rattle.message_format.specs.Definitions.{message_refusal, contents_of}
use Rattle.message_format.specs.Passed.{RecordsPass, message_given}
use Rattle.base_ids.specs.declared.Position.{Position}
use Rattle.report_views.specs.LogLaws.{holds_end}
use Rattle.report_views.specs.declared.Layout.{Layout}
use Rattle.report_views.specs.declared.Termination.{Termination}
use Rattle.report_views.specs.declared.Quorum.{Quorum}
use Rattle.report_views.specs.declared.Quorum.TheVariants.{Met, Short}
use Rattle.report_views.specs.declared.Reason.{Reason}
use Rattle.report_views.specs.declared.Reason.TheVariants.{NoView, NoMajority, TooFew, NoHolder}
use Rattle.report_views.specs.Definitions.{slot, report_of, end_at, holds_at, mask_at, row12, row13, term_kept, slot_ok, slots_ok, candidate, target, able, holder, majority, first_unheld, quorum_of}
use Rattle.report_views.specs.Shorthands.{has_at, unheld, view_of}
use Rattle.report_views.specs.Best.{GreatestEnd, best_found, best_given, best_le}

-- waits 1 to 4 do not apply
pub record QuorumMet (σ : List ℕ) (v : Layout) (t : Termination) (held : ℕ) (d : List ℕ) : Type 0 where
  pub kept : v.number.0 ≡ 0 → ⊥
  pub most : count v.members < 2 * count (bit_and held v.members)
  pub enough : least σ ≤ count held
  pub holders : (s : ℕ) → s < shards σ → holder v t held d s < 32

-- a condition that is not the reason, and the rest of the list
past : (b : Bool) (r : Reason) (q : Quorum) → cond b (Short r) q ≡ Met → (b ≡ false) × (q ≡ Met)
past true r q h = let z : ◌≡◌ {A = ℕ} 0 1 = cc in absurd (omega arith)
past false r q h = (refl, h)

holder_le : (v : Layout) (t : Termination) (held : ℕ) (d : List ℕ) (s : ℕ) → holder v t held d s ≤ 32
unfolding holder
holder_le v t held d s = best_le (able v t held d s) (end_at d s) 32

-- what a held node's slot gives when all are sound
pub record SlotSound (σ : List ℕ) (v : Layout) (t : Termination) (d : List ℕ) (n : ℕ) : Type 0 where
  pub valid : message_refusal Report σ (slot d n) ≡ none
  pub own : (report_of d n).node.0 ≡ n
  pub no_later : view_of d n ≤ v.number.0
  pub masks-same : row12 σ v (report_of d n) ≡ true
  pub term_same : row13 σ v t (report_of d n) ≡ true
  pub term-kept : term_kept σ v t (report_of d n) ≡ true

pub record IsCandidate (v : Layout) (held : ℕ) (d : List ℕ) (s n : ℕ) : Type 0 where
  pub is_held : has held n ≡ true
  pub member : has (mask_at v s) n ≡ true
  pub of-kept : view_of d n ≡ v.number.0

all_six : (a b c d e f : Bool) → (a && b && c && d && e && f) ≡ true
    → (a ≡ true) × (b ≡ true) × (c ≡ true) × (d ≡ true) × (e ≡ true) × (f ≡ true)
all_six a b c d e f h =
    let h5 = and_left (a && b && c && d && e) f h in
    let h4 = and_left (a && b && c && d) e h5 in
    let h3 = and_left (a && b && c) d h4 in
    let h2 = and_left (a && b) c h3 in
    (and_left a b h2, and_right a b h2, and_right (a && b) c h3, and_right (a && b && c) d h4, and_right (a && b && c && d) e h5, and_right (a && b && c && d && e) f h)

module _ (σ : List ℕ) (v : Layout) (t : Termination) (held : ℕ) (d : List ℕ) where
  holders_given : ltb (first_unheld σ v t held d) (shards σ) ≡ false → (s : ℕ) → s < shards σ → holder v t held d s < 32
  unfolding first_unheld
  holders_given e s l =
      let below : s < lowest (shards σ) (unheld v t held d) = omega (arith, ltb-false (lowest (shards σ) (unheld v t held d)) (shards σ) e) in
      let other = eqb-false (holder v t held d s) 32 (lowest_first (shards σ) (unheld v t held d) s below) in
      lt_of_le-ne (holder_le v t held d s) other

  pub quorum_given : quorum_of σ v t held d ≡ Met → QuorumMet σ v t held d
  unfolding quorum_of majority
  quorum_given h =
      let a = past (eqb v.number.0 0) NoView _ h in
      let b = past (not (majority v held)) NoMajority _ a.1 in
      let c = past (ltb (count held) (least σ)) TooFew _ b.1 in
      let e = past (ltb (first_unheld σ v t held d) (shards σ)) (NoHolder (record { 0 = first_unheld σ v t held d })) _ c.1 in
      record {
        kept = eqb-false v.number.0 0 a.0;
        most = ltb-true (count v.members) (2 * count (bit_and held v.members)) (of_not_false (majority v held) b.0);
        enough = ltb-false (count held) (least σ) c.0;
        holders = holders_given e.0;
      }

  pub slot_sound : (n : ℕ) → slot_ok σ v t d n ≡ true → SlotSound σ v t d n
  unfolding slot_ok
  slot_sound n h =
      let e =
      all_six (accepted (message_refusal Report σ (slot d n))) (eqb (report_of d n).node.0 n) (leb (view_of d n) v.number.0)
      (row12 σ v (report_of d n))
      (row13 σ v t (report_of d n))
      (term_kept σ v t (report_of d n))
      h in
      record {
        valid = accepted_none (message_refusal Report σ (slot d n)) e.0;
        own = eqb-true (report_of d n).node.0 n e.1;
        no_later = leb-true (view_of d n) v.number.0 e.2;
        masks-same = e.3;
        term_same = e.4;
        term-kept = e.5;
      }

  pub slot_given : slots_ok σ v t held d ≡ true → (n : ℕ) → n < 32 → has held n ≡ true → SlotSound σ v t d n
  unfolding slots_ok
  slot_given h n l p =
      ⊎_elim (λ e. clash p (of_not_true (has held n) e)) (λ e. slot_sound n e)
      (or-holds (not (has held n)) (slot_ok σ v t d n) (all_at 32 (λ m. not (has held m) || slot_ok σ v t d m) h n l))

-- the records of a sound slot's report pass rows 9, 16, 17, 10 and 11
pub report_records : (σ : List ℕ) (v : Layout) (t : Termination) (d : List ℕ) (n : ℕ) → SlotSound σ v t d n →
    RecordsPass Report σ (report_of d n).node.0 (view_of d n) (report_of d n).members (report_of d n).body (report_of d n).len
unfolding report_of contents_of
report_records σ v t d n sound = (message_given Report σ (slot d n) sound.valid).records_pass

-- what the log of a sound slot's report holds lies no further than its end
pub log_end : (σ : List ℕ) (v : Layout) (t : Termination) (d : List ℕ) (n : ℕ) → SlotSound σ v t d n → (s : ℕ) (p : Position) →
    holds_at d s p n ≡ true → not_after p (end_at d s n) ≡ true
log_end σ v t d n sound s p e =
    holds_end (report_of d n).node.0 (report_of d n).body (report_of d n).len (report_records σ v t d n sound).sequence_passes s p e

module _ (v : Layout) (held : ℕ) (d : List ℕ) (s n : ℕ) where
  pub candidate_given : candidate v held d s n ≡ true → IsCandidate v held d s n
  unfolding candidate
  candidate_given h =
      let e = and_left (has held n && has (mask_at v s) n) (eqb (view_of d n) v.number.0) h in
      record {
        is_held = and_left (has held n) (has (mask_at v s) n) e;
        member = and_right (has held n) (has (mask_at v s) n) e;
        of-kept = eqb-true (view_of d n) v.number.0 (and_right (has held n && has (mask_at v s) n) (eqb (view_of d n) v.number.0) h);
      }

module _ (v : Layout) (t : Termination) (held : ℕ) (d : List ℕ) (s : ℕ) where
  -- the holder is a candidate that has the target, and no other such has a greater end
  pub holder_given : holder v t held d s < 32 → GreatestEnd (able v t held d s) (end_at d s) 32 (holder v t held d s)
  unfolding holder
  holder_given l = best_given (able v t held d s) (end_at d s) 32 l

  pub able_candidate : (n : ℕ) → able v t held d s n ≡ true → candidate v held d s n ≡ true
  unfolding able
  able_candidate n h = and_left (candidate v held d s n) (has_at d s (target v t held d s) n) h

  pub able_has : (n : ℕ) → able v t held d s n ≡ true → has_at d s (target v t held d s) n ≡ true
  unfolding able
  able_has n h = and_right (candidate v held d s n) (has_at d s (target v t held d s) n) h

  -- with no termination kept no candidate's log ends after the target
  pub target_greatest : t.made ≡ false → (n : ℕ) → n < 32 → candidate v held d s n ≡ true → not_after (end_at d s n) (target v t held d s) ≡ true
  unfolding target
  target_greatest e n l c = rw e ((best_found (candidate v held d s) (end_at d s) 32 n l c).top n l c)
