-- The desk's bytes as the walk over the nodes reads them: every word fits 32 bits, and a slot's words two by two.
use Rattle.std.specs.Prelude.{◌≡◌, ℕ, ◌+◌, ◌*◌, ◌<◌, length}
use Rattle.std.proofs.Math.Path.{sym, ap, ap₂}
use Rattle.std.proofs.Common.{◌∙◌, ⊎_elim, arith}
use mathlib.Core.List.{List}
use Rattle.std.proofs.Math.ListN.{get_or, get_or-eq_default}
use Rattle.base_laws.specs.Bools.{lt_or_le}
use Rattle.base_laws.specs.Definitions.{tabulate, part}
use Rattle.base_laws.specs.Tables.{tabulate_cong}
use Rattle.base_bytes.specs.Definitions.{word_at}
use Rattle.base_bytes.specs.Words.{pair_at, get_d_words}
use Rattle.base_lent.specs.Definitions.{words_in}
use Rattle.report_views.specs.Definitions.{slot}
use Rattle.report_walk.specs.Pairs.{FitWords, pair_of, pairs_of}
use Rattle.report_desk.specs.Bytes.{desk_length, desk_word_lt, slot_bytes}

module _ (b : List ℕ) (e : length b ≡ 65536) where
  pub desk_words : ((k : ℕ) → get_or b k 0 < 256) → FitWords (words_in b)
  desk_words h k =
      ⊎_elim (λ l. let w = desk_word_lt b e h k l in omega arith)
      (λ l. let z : get_or (words_in b) k 0 ≡ 0 = get_or-eq_default (words_in b) 0 (omega (arith, desk_length b e)) in omega arith)
      (lt_or_le k 16384)

  -- the pairs of node n's slot are those of its bytes
  pub slot_pairs : (n : ℕ) → n < 32 → (p : List ℕ) → p ≡ tabulate 256 (λ i. pair_at (part (2048 * n) (2048 * n + 2048) b) i) → p ≡ pairs_of (slot (words_in b) n)
  unfolding pairs_of pair_of
  slot_pairs n l p f =
      let bytes = part (2048 * n) (2048 * n + 2048) b in
      let word : ((k : ℕ) → k < 512 → word_at bytes k ≡ get_or (slot (words_in b) n) k 0) =
      λ k m. sym (get_d_words bytes 512 k m) ∙ ap (λ (w : List ℕ). get_or w k 0) (slot_bytes b e n l) in
      f ∙ tabulate_cong 256 (λ i. pair_at bytes i) (pair_of (slot (words_in b) n)) (λ i m.
      ap₂ (λ (x y : ℕ). x + 4294967296 * y) (word (2 * i) (omega arith)) (word (2 * i + 1) (omega arith)))
