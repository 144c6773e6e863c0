-- A slot of a desk of 16,384 words is 512 words long: row 5 passes, and the reader can walk its chain.
use Rattle.std.specs.Prelude.{ℕ, ◌+◌, ◌*◌, ◌<◌, Bool, not, ◌&&◌, ◌||◌, List, ◌≡◌, eqb, leb, length, get_or, Ok}
use Rattle.std.proofs.Math.Bool.{true, false}
use Rattle.std.proofs.Common.{sym, ◌∙◌, arith}
use Rattle.base_laws.specs.Definitions.{has}
use Rattle.base_laws.specs.Tables.{get_d_part}
use Rattle.base_ids.specs.Definitions.{none, accepted}
use Rattle.base_ids.specs.Results.{ok_none, ok_value}
use Rattle.message_format.specs.declared.Form.TheVariants.{Report}
use Rattle.message_format.specs.declared.Contents.{Contents}
use Rattle.message_format.specs.Definitions.{row8, contents_of, message_refusal}
use Rattle.message_format.specs.Messages.{as_read}
use Rattle.message_reader.specs.Walks.{SizedMessage}
use Rattle.message_reader.specs.Readings.{reading_under}
use Rattle.report_views.specs.declared.Layout.{Layout}
use Rattle.report_views.specs.declared.Termination.{Termination}
use Rattle.report_views.specs.Definitions.{slot, report_of, row12, row13, term_kept, slot_ok}
use Rattle.report_quick.specs.Accepts.{length_slot}
use Rattle.base_laws.specs.Bools.{unasked, asked}

-- a report fits what is kept as node n's: its own, of no later view, and under rows 12 and 13
unfoldable pub report_fits : List ℕ → Layout → Termination → Contents → ℕ → Bool
report_fits σ v t c n =
    eqb c.node.0 n && leb c.view.0 v.number.0 && row12 σ v c && row13 σ v t c && term_kept σ v t c

module _ (d : List ℕ) (n : ℕ) (whole : length d ≡ 16384) (below : n < 32) where
  pub slot_sized : SizedMessage (slot d n)
  slot_sized = record { some = omega (arith, length_slot d n whole below); few = omega (arith, length_slot d n whole below); whole = omega (arith, length_slot d n whole below) }

  -- words that are the slot's can be read where its chain is that of a message
  pub slot_as : {w : List ℕ} → row8 (slot d n) ≡ true → w ≡ slot d n → SizedMessage w × (row8 w ≡ true)
  slot_as h e = rw e (slot_sized, h)

  pub get_or_slot : (k : ℕ) → k < 512 → get_or (slot d n) k 0 ≡ get_or d (512 * n + k) 0
  unfolding slot
  get_or_slot k l = get_d_part (512 * n) (512 * n + 512) d k 0 (omega arith)

-- what a reading of the slot gives of its soundness
module _ (σ : List ℕ) (v : Layout) (t : Termination) (d : List ℕ) (n : ℕ) where
  pub slot_refused : accepted (message_refusal Report σ (slot d n)) ≡ false → false ≡ slot_ok σ v t d n
  unfolding slot_ok
  slot_refused bad = rw bad

  pub slot_read : (c : Contents) → Ok c ≡ as_read (reading_under Report σ (slot d n)) → report_fits σ v t c n ≡ slot_ok σ v t d n
  unfolding slot_ok report_fits report_of reading_under
  slot_read c e =
      let good : message_refusal Report σ (slot d n) ≡ none = ok_none _ _ c e in
      let same : c ≡ contents_of (slot d n) = ok_value _ _ c e ∙ rw good in
      rw (good, same)

-- one node of all: not held, or held with its slot sound or not
module _ (σ : List ℕ) (v : Layout) (t : Termination) (held : ℕ) (d : List ℕ) where
  abbrev pub node_ok : ℕ → Bool
  node_ok n = not (has held n) || slot_ok σ v t d n

  pub unheld_ok : (n : ℕ) → has held n ≡ false → node_ok n ≡ true
  unheld_ok n h = sym (unasked (slot_ok σ v t d n) h)

  pub held_ok : (n : ℕ) (b : Bool) → has held n ≡ true → slot_ok σ v t d n ≡ b → node_ok n ≡ b
  held_ok n b h e = sym (asked (slot_ok σ v t d n) h) ∙ e
