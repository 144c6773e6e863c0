-- Contents as words, stored word by word: first the head's three, then the records'.
use Rattle.std.specs.Prelude.{◌≡◌, cond, List, ℕ, zero, suc, ◌+◌, ◌-◌, ◌≤◌, ◌<◌, ltb, length, set, replicate}
use Rattle.std.proofs.Math.Path.{refl, ap}
use Rattle.std.proofs.Common.{◌∙◌, ⊎_elim, arith, length-set, get_or-set_other, lt-ltb, le-ltb}
use Rattle.std.proofs.Math.ListN.{get_or}
use Rattle.std.proofs.lemmas.List.{length-replicate, get_or-replicate}
use Rattle.base_laws.specs.Bools.{lt_or_le}
use Rattle.base_laws.specs.Tables.{tabulate_ext, filled, filled_more, length_filled, get_or_filled, get_or_filled_rest}
use Rattle.base_laws.proofs.Tables.{filled_ext}
use Rattle.message_format.specs.declared.Contents.{Contents}
use Rattle.message_format.specs.Definitions.{head_word}
use Rattle.c_messages.specs.Definitions.{contents_word, contents_words}

-- the head's words, then the body's
unfoldable pub head_then_body : List ℕ → List ℕ → ℕ → ℕ
head_then_body head body i = cond (ltb i 3) (get_or head i 0) (get_or body (i - 3) 0)

-- head with the first k words of body after its first three
unfoldable pub laid_out : List ℕ → List ℕ → ℕ → List ℕ
laid_out head body k = filled (k + 3) (head_then_body head body) head

module _ (head body : List ℕ) where
  pub laid_start : 3 ≤ length head → head ≡ laid_out head body 0
  unfolding laid_out head_then_body
  laid_start h = filled_ext 0 3 (head_then_body head body) head head h refl (λ i l. rw (lt-ltb i 3 l)) (λ i l. refl)

  pub laid_more : (k : ℕ) → k + 3 < length head → set (laid_out head body k) (k + 3) (get_or body k 0) ≡ laid_out head body (k + 1)
  unfolding laid_out head_then_body
  laid_more k h =
      let at : get_or body k 0 ≡ head_then_body head body (k + 3) =
      rw (le-ltb (k + 3) 3 (omega arith)) (ap (λ (i : ℕ). get_or body i 0) (omega arith)) in
      ap (set (filled (k + 3) (head_then_body head body) head) (k + 3)) at
      ∙ filled_more (k + 3) (head_then_body head body) head h
      ∙ ap (λ (i : ℕ). filled i (head_then_body head body) head) (omega arith)

  pub length_laid : (k : ℕ) → k + 3 ≤ length head → length (laid_out head body k) ≡ length head
  unfolding laid_out
  length_laid k h = length_filled (k + 3) (head_then_body head body) head h

-- the head of 512 words
abbrev pub headed : Contents → List ℕ
headed c = set (set (set (replicate 512 0) 0 c.node.0) 1 c.view.0) 2 c.members

pub length_headed : (c : Contents) → length (headed c) ≡ 512
length_headed c = simp length-set (length-replicate {A = ℕ} 512 0)

headed_front : (c : Contents) (k : ℕ) → k < 3 → get_or (headed c) k 0 ≡ head_word c k
unfolding head_word
headed_front c zero l = refl
headed_front c (suc zero) l = refl
headed_front c (suc (suc zero)) l = refl
headed_front c (suc (suc (suc k))) l = absurd (omega arith)

headed_rest : (c : Contents) (k : ℕ) → 3 ≤ k → k < 512 → get_or (headed c) k 0 ≡ 0
headed_rest c k l h =
    get_or-set_other (set (set (replicate 512 0) 0 c.node.0) 1 c.view.0) 2 k c.members 0 (λ e. omega arith)
    ∙ get_or-set_other (set (replicate 512 0) 0 c.node.0) 1 k c.view.0 0 (λ e. omega arith)
    ∙ get_or-set_other (replicate 512 0) 0 k c.node.0 0 (λ e. omega arith)
    ∙ get_or-replicate 512 k 0 0 h

-- all words of the body are laid
pub laid_end : (c : Contents) → laid_out (headed c) c.body 381 ≡ contents_words c
unfolding laid_out contents_words head_then_body contents_word
laid_end c =
    tabulate_ext 0 512 (contents_word c) (laid_out (headed c) c.body 381)
    (length_laid (headed c) c.body 381 (omega (arith, length_headed c)) ∙ length_headed c)
    (λ k h. ⊎_elim (front k) (λ l. ⊎_elim (middle k l) (rest k h) (lt_or_le k 384)) (lt_or_le k 3))
  where
    laid_at : (k : ℕ) → k < 384 → get_or (laid_out (headed c) c.body 381) k 0 ≡ head_then_body (headed c) c.body k
    laid_at k l = get_or_filled 384 (head_then_body (headed c) c.body) (headed c) k 0 l

    front : (k : ℕ) → k < 3 → get_or (laid_out (headed c) c.body 381) k 0 ≡ contents_word c k
    front k l = laid_at k (omega arith) ∙ rw (lt-ltb k 3 l) (headed_front c k l)

    middle : (k : ℕ) → 3 ≤ k → k < 384 → get_or (laid_out (headed c) c.body 381) k 0 ≡ contents_word c k
    middle k l m = laid_at k m ∙ rw (le-ltb k 3 l, lt-ltb k 384 m)

    rest : (k : ℕ) → k < 512 → 384 ≤ k → get_or (laid_out (headed c) c.body 381) k 0 ≡ contents_word c k
    rest k h m =
        get_or_filled_rest 384 (head_then_body (headed c) c.body) (headed c) k 0 m
        ∙ headed_rest c k (omega arith) h
        ∙ rw (le-ltb k 3 (omega arith), le-ltb k 384 m)
