-- Laws over the values that definitions have, where the code gives a Result or an Option.
use Rattle.report_desk.specs.Bytes.{CopiedSoFar}
use Rattle.std.specs.Prelude.{◌≡◌, List, ℕ, ◌+◌, ◌≤◌, ◌<◌, length, set}
use Rattle.std.proofs.Math.Path.{sym, ap}
use Rattle.std.proofs.Common.{◌∙◌, length-set, eq-eqb, ne_eqb}
use native.Mathlib.Omega.{arith}
use Rattle.std.proofs.Math.ListN.{get_or, get_or-eq_default}
use Rattle.base_laws.specs.Definitions.{padded}
use Rattle.base_laws.specs.Tables.{padded_ext, set_more}
use Rattle.report_desk.specs.SlotsOf.{report_fits}
use Rattle.std.proofs.Math.Bool.{true, false}
use Rattle.base_ids.specs.Definitions.{accepted}
use Rattle.message_format.specs.declared.Form.TheVariants.{Report}
use Rattle.message_format.specs.declared.Reading.{Reading}
use Rattle.message_format.specs.Definitions.{contents_of, message_refusal}
use Rattle.message_reader.specs.Readings.{reading_under}
use Rattle.report_views.specs.declared.Layout.{Layout}
use Rattle.report_views.specs.declared.Termination.{Termination}
use Rattle.report_views.specs.Definitions.{slot, report_of, slot_ok}

module _ {m s : List ℕ} {k : ℕ} (c : CopiedSoFar m s k) where
  pub copied_turn : (v : ℕ) → k < 2048 → v ≡ get_or m k 0 → CopiedSoFar m (set s k v) (k + 1)
  copied_turn v l e =
      record {
        few = c.few;
        room = length-set s k v ∙ c.room;
        same = set_more 0 (λ i. get_or m i 0) s k v (omega (arith, c.room)) e c.same;
      }

  -- a zero past the end
  pub copied_zero : k < 2048 → length m ≤ k → CopiedSoFar m (set s k 0) (k + 1)
  copied_zero l h = copied_turn 0 l (sym (get_or-eq_default m 0 h))

  pub copied_all : 2048 ≤ k → s ≡ padded 2048 m
  copied_all h = padded_ext 2048 m s c.room (λ i l. c.same i (omega arith))

-- what a reading of the slot gives of its soundness
module _ (σ : List ℕ) (v : Layout) (t : Termination) (d : List ℕ) (n : ℕ) (r : Reading) (e : r ≡ reading_under Report σ (slot d n)) where
  refusal_is : r.refusal ≡ message_refusal Report σ (slot d n)
  unfolding reading_under
  refusal_is = ap (λ (x : Reading). x.refusal) e

  pub slot_refused : (r.refusal.code ≡ 0 → ⊥) → false ≡ slot_ok σ v t d n
  unfolding slot_ok
  slot_refused h =
      let bad : accepted (message_refusal Report σ (slot d n)) ≡ false = rw refusal_is at (ne_eqb r.refusal.code 0 h) in
      rw bad

  pub slot_read : r.refusal.code ≡ 0 → report_fits σ v t r.contents n ≡ slot_ok σ v t d n
  unfolding slot_ok report_fits report_of reading_under
  slot_read h =
      let good : accepted (message_refusal Report σ (slot d n)) ≡ true = rw refusal_is at (eq-eqb r.refusal.code 0 h) in
      let same : r.contents ≡ contents_of (slot d n) = ap (λ (x : Reading). x.contents) e ∙ rw good in
      rw (good, same)
