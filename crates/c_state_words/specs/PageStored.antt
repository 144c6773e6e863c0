-- The words that a loop stores are the page's.
use Rattle.std.specs.Prelude.{ℕ, ◌≤◌, ◌<◌, List, ◌≡◌, length, get_or, replicate}
use Rattle.std.proofs.Common.{⊎_elim, ap, ◌∙◌, arith, le-ltb}
use Rattle.std.proofs.lemmas.List.{get_or-replicate}
use Rattle.base_laws.specs.Bools.{lt_or_le}
use Rattle.base_laws.specs.Tables.{length_tabulate, tabulate_ext, filled, length_filled, get_or_filled, get_or_filled_rest}
use Rattle.plan_page.specs.declared.Page.{Page}
use Rattle.c_state_words.specs.Definitions.{page_word, page_words}

pub length_page : (p : Page) → length (page_words p) ≡ 512
unfolding page_words
length_page p = length_tabulate 512 (page_word p)

-- 72 words stored in zeros are the page's words
pub words-stored : (p : Page) (words : List ℕ) (k : ℕ) → k ≤ 72 → 72 ≤ k → words ≡ filled k (page_word p) (replicate 512 0) → words ≡ page_words p
unfolding page_words page_word
words-stored p words k l m e =
    tabulate_ext 0 512 (page_word p) words (ap length e ∙ length_filled k (page_word p) (replicate 512 0) (omega arith))
    (λ i h. ap (λ (w : List ℕ). get_or w i 0) e ∙ ⊎_elim (front i) (rest i h) (lt_or_le i k))
  where
    front : (i : ℕ) → i < k → get_or (filled k (page_word p) (replicate 512 0)) i 0 ≡ page_word p i
    front i h = get_or_filled k (page_word p) (replicate 512 0) i 0 h

    rest : (i : ℕ) → i < 512 → k ≤ i → get_or (filled k (page_word p) (replicate 512 0)) i 0 ≡ page_word p i
    rest i h n =
        get_or_filled_rest k (page_word p) (replicate 512 0) i 0 n ∙ get_or-replicate 512 i 0 0 h
        ∙ rw (le-ltb i 8 (omega arith), le-ltb i 24 (omega arith), le-ltb i 56 (omega arith), le-ltb i 72 (omega arith))
