-- Laws over the values that definitions have, where the code gives a Result or an Option.
use Rattle.plan_seen.specs.Steps.{slot_back}
use Rattle.std.specs.Prelude.{ℕ, ◌<◌, ◌≤◌, Bool, true, false, ◌≡◌, refl}
use mathlib.Core.List.{List}
use Rattle.std.proofs.Common.{◌∙◌, eq-eqb}
use Rattle.std.proofs.Math.Path.{sym, ap}
use Rattle.base_laws.specs.Bools.{clash}
use Rattle.base_ids.specs.Definitions.{accepted}
use Rattle.settings_values.specs.Definitions.{Settings}
use Rattle.message_format.specs.declared.Reading.{Reading}
use Rattle.message_format.specs.declared.Form.TheVariants.{Report}
use Rattle.message_format.specs.Definitions.{contents_of, message_refusal}
use Rattle.message_reader.specs.Readings.{reading_under, contents_few}
use Rattle.report_views.specs.declared.Layout.{Layout}
use Rattle.report_views.specs.declared.Termination.{Termination}
use Rattle.report_views.specs.Definitions.{slot, report_of, slot_ok}
use Rattle.report_desk.specs.SlotsOf.{report_fits}
use Rattle.report_desk.proofs.Values.{slot_refused, slot_read}
use Rattle.plan_seen.specs.Nodes.{words_of_pairs, SlotIs}
use Rattle.plan_seen.specs.Fold.{Stepped}

module _ (σ w : List ℕ) (r : Reading) (e : r ≡ reading_under Report σ w) where
  refusal_told : r.refusal ≡ message_refusal Report σ w
  unfolding reading_under
  refusal_told = ap (λ (x : Reading). x.refusal) e

  pub read_valid : r.refusal.code ≡ 0 → accepted (message_refusal Report σ w) ≡ true
  read_valid h = rw refusal_told at (eq-eqb r.refusal.code 0 h)

  pub read_contents : r.refusal.code ≡ 0 → r.contents ≡ contents_of w
  unfolding reading_under
  read_contents h = ap (λ (x : Reading). x.contents) e ∙ rw (read_valid h)

  pub read_few : r.refusal.code ≡ 0 → r.contents.len ≤ 127
  read_few h = contents_few w r.contents (read_contents h)

module _ (σ : List ℕ) (v : Layout) (t : Termination) (d : List ℕ) (n : ℕ) (b w : List ℕ) (right : Settings σ) (is : SlotIs d n b) (l : n < 32)
    (e : w ≡ words_of_pairs b) (hs ts : List ℕ) where
  words_are : w ≡ slot d n
  words_are = e ∙ slot_back d n b is l

  module _ (r : Reading) (read : r ≡ reading_under Report σ w) where
    read_slot : r ≡ reading_under Report σ (slot d n)
    read_slot = read ∙ ap (reading_under Report σ) words_are

    pub stepped_refused : (r.refusal.code ≡ 0 → ⊥) → Stepped σ v t d n false hs ts hs ts
    stepped_refused h = record { sound = slot_refused σ v t d n r read_slot h; renewed = λ q. clash q refl }

    pub fits_sound : r.refusal.code ≡ 0 → (x : Bool) → report_fits σ v t r.contents n ≡ x → slot_ok σ v t d n ≡ x
    fits_sound h x f = sym (slot_read σ v t d n r read_slot h) ∙ f

    pub stepped_unfit : r.refusal.code ≡ 0 → report_fits σ v t r.contents n ≡ false → Stepped σ v t d n false hs ts hs ts
    stepped_unfit h f = record { sound = sym (fits_sound h false f); renewed = λ q. clash q refl }

    pub contents_are : r.refusal.code ≡ 0 → r.contents ≡ report_of d n
    unfolding report_of
    contents_are h = read_contents σ (slot d n) r read_slot h
