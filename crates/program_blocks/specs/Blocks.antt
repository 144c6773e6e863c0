-- Laws of blocks: how many bytes of a block have to be there before it is taken, and what the blocks are once they are.
use Rattle.std.specs.Prelude.{ℕ, zero, suc, ◌+◌, ◌*◌, ◌-◌, ◌/◌, ◌≤◌, ◌<◌, min, Bool, cond, List, [], ◌∷◌, ◌++◌, ◌≡◌, refl, ltb, length, take, drop}
use Rattle.std.proofs.Common.{⊎_elim, sym, ap, ap₂, ◌∙◌, arith, length-append, length-take, length-drop, drop_of_length-le, take_all, take_at, drop_at, lt-ltb, le-ltb}
use Rattle.std.proofs.Math.ListN.{get_or-append}
use Rattle.std.proofs.lemmas.List.{drop-append-le}
use Rattle.base_laws.specs.Bools.{lt_or_le}
use Rattle.base_bytes.specs.Definitions.{word_at}
use Rattle.base_bytes.specs.Words.{length_words}
use Rattle.program_blocks.specs.Definitions.{block_count, needed, block_bytes, others, whole_words, blocks_by, blocks}

-- ---- laws

others_length : (b : List ℕ) → length (others b) ≤ length b - 4
unfolding others
others_length b = omega (arith, length-drop (4 * block_count b) (drop 4 b), length-drop 4 b)

-- enough is enough
by_more : (j k : ℕ) (b : List ℕ) → length b ≤ j → length b ≤ k → blocks_by j b ≡ blocks_by k b
unfolding blocks_by
by_more zero zero b h m = refl
by_more zero (suc k) b h m = sym (ap (λ (t : Bool). cond t [] (whole_words (block_bytes b) ∷ blocks_by k (others b))) (lt-ltb (length b) 4 (omega arith)))
by_more (suc j) zero b h m = ap (λ (t : Bool). cond t [] (whole_words (block_bytes b) ∷ blocks_by j (others b))) (lt-ltb (length b) 4 (omega arith))
by_more (suc j) (suc k) b h m =
    ap (λ (l : List (List ℕ)). cond (ltb (length b) 4) [] (whole_words (block_bytes b) ∷ l))
    (by_more j k (others b) (omega (arith, others_length b)) (omega (arith, others_length b)))

pub blocks_none : (b : List ℕ) → length b < 4 → blocks b ≡ []
unfolding blocks blocks_by
blocks_none b h =
    by_more (length b) (suc (length b)) b (omega arith) (omega arith)
    ∙ ap (λ (t : Bool). cond t [] (whole_words (block_bytes b) ∷ blocks_by (length b) (others b))) (lt-ltb (length b) 4 h)

blocks_some : (b : List ℕ) → 4 ≤ length b → blocks b ≡ whole_words (block_bytes b) ∷ blocks (others b)
unfolding blocks blocks_by
blocks_some b h =
    by_more (length b) (suc (length b)) b (omega arith) (omega arith)
    ∙ ap (λ (t : Bool). cond t [] (whole_words (block_bytes b) ∷ blocks_by (length b) (others b))) (le-ltb (length b) 4 h)
    ∙ ap (λ (l : List (List ℕ)). whole_words (block_bytes b) ∷ l)
    (by_more (length b) (length (others b)) (others b) (omega (arith, others_length b)) (omega arith))

-- a word of the first bytes
count_append : (b c : List ℕ) → 4 ≤ length b → block_count (b ++ c) ≡ block_count b
unfolding word_at
count_append b c h =
    rw (get_or-append b c 0 (4 * 0) (omega arith), get_or-append b c 0 (4 * 0 + 1) (omega arith), get_or-append b c 0 (4 * 0 + 2) (omega arith), get_or-append b c 0 (4 * 0 + 3) (omega arith))

pub length_whole : (b : List ℕ) → length (whole_words b) ≡ length b / 4
unfolding whole_words
length_whole b = length_words b (length b / 4)

-- ---- needed

pub needed_few : (b : List ℕ) → length b < 4 → needed b ≡ 4
unfolding needed
needed_few b h = rw (lt-ltb (length b) 4 h)

pub needed_short : (b : List ℕ) → 4 ≤ length b → block_count b < 513 → needed b ≡ 4 + 4 * block_count b
unfolding needed
needed_short b h m = rw (le-ltb (length b) 4 h, lt-ltb (block_count b) 513 m)

pub needed_long : (b : List ℕ) → 4 ≤ length b → 513 ≤ block_count b → needed b ≡ 2056
unfolding needed
needed_long b h m = rw (le-ltb (length b) 4 h, le-ltb (block_count b) 513 m)

-- from 4 to 2,056 bytes
pub needed_ends : (b : List ℕ) → (4 ≤ needed b) × (needed b ≤ 2056)
needed_ends b =
    ⊎_elim (λ h. let e = needed_few b h in (omega arith, omega arith))
    (λ h. ⊎_elim (λ m. let e = needed_short b h m in (omega arith, omega arith)) (λ m. let e = needed_long b h m in (omega arith, omega arith)) (lt_or_le (block_count b) 513))
    (lt_or_le (length b) 4)

-- no more than the count says
needed_le : (b : List ℕ) → 4 ≤ length b → needed b ≤ 4 + 4 * block_count b
needed_le b h =
    ⊎_elim (λ m. let e = needed_short b h m in omega arith) (λ m. let e = needed_long b h m in omega arith) (lt_or_le (block_count b) 513)

-- once the count is there it says how many are needed
pub needed_same : (b c : List ℕ) → 4 ≤ length b → needed (b ++ c) ≡ needed b
unfolding needed
needed_same b c h = rw (count_append b c h, le-ltb (length b) 4 h, le-ltb (length (b ++ c)) 4 (omega (arith, length-append b c)))

-- more bytes, though no more than are known to be needed: no more are there than are needed then
pub needed_more : (b c : List ℕ) → length b < needed b → length (b ++ c) ≤ needed b → length (b ++ c) ≤ needed (b ++ c)
unfolding needed
needed_more b c h l = ⊎_elim few many (lt_or_le (length b) 4)
  where
    size : length (b ++ c) ≡ length b + length c
    size = length-append b c

    few : length b < 4 → length (b ++ c) ≤ needed (b ++ c)
    few m = omega (arith, needed_few b m, (needed_ends (b ++ c)).0)

    many : 4 ≤ length b → length (b ++ c) ≤ needed (b ++ c)
    many m = omega (arith, needed_same b c m)

-- ---- the blocks of an input whose first block is there

-- a block that is cut short: what is there
pub blocks_cut : (b : List ℕ) → 4 ≤ length b → length b < needed b → blocks b ≡ whole_words (drop 4 b) ∷ []
unfolding block_bytes others
blocks_cut b h m =
    let n : length (drop 4 b) ≤ 4 * block_count b = omega (arith, length-drop 4 b, needed_le b h) in
    blocks_some b h
    ∙ ap₂ (λ (x y : List ℕ). whole_words x ∷ blocks y) (take_all (4 * block_count b) (drop 4 b) n) (drop_of_length-le (drop 4 b) n)
    ∙ ap (λ (l : List (List ℕ)). whole_words (drop 4 b) ∷ l) (blocks_none [] (omega arith))

-- a whole block, and the others
pub blocks_whole : (b c : List ℕ) → length b ≡ 4 + 4 * block_count b → blocks (b ++ c) ≡ whole_words (drop 4 b) ∷ blocks c
unfolding block_bytes others
blocks_whole b c h =
    let e : block_count (b ++ c) ≡ block_count b = count_append b c (omega arith) in
    let d : drop 4 (b ++ c) ≡ drop 4 b ++ c = drop-append-le 4 b c (omega arith) in
    let n : length (drop 4 b) ≡ 4 * block_count b = omega (arith, length-drop 4 b) in
    blocks_some (b ++ c) (omega (arith, length-append b c))
    ∙ ap₂ (λ (x y : List ℕ). whole_words x ∷ blocks y)
    (ap₂ (λ (k : ℕ) (l : List ℕ). take (4 * k) l) e d ∙ take_at (drop 4 b) c (4 * block_count b) n)
    (ap₂ (λ (k : ℕ) (l : List ℕ). drop (4 * k) l) e d ∙ drop_at (drop 4 b) c (4 * block_count b) n)

-- a block of which more is there than is looked at
pub record Long (l : List (List ℕ)) : Type 0 where
  pub first : List ℕ
  pub rest : List (List ℕ)
  pub is : l ≡ first ∷ rest
  pub long : 512 < length first

pub blocks_long : (b c : List ℕ) → length b ≡ 2056 → 513 ≤ block_count b → Long (blocks (b ++ c))
unfolding block_bytes others
blocks_long b c h m =
    let e : block_count (b ++ c) ≡ block_count b = count_append b c (omega arith) in
    let n : length (block_bytes (b ++ c)) ≡ min (4 * block_count (b ++ c)) (length (drop 4 (b ++ c))) = length-take (4 * block_count (b ++ c)) (drop 4 (b ++ c)) in
    record {
      first = whole_words (block_bytes (b ++ c));
      rest = blocks (others (b ++ c));
      is = blocks_some (b ++ c) (omega (arith, length-append b c));
      long = omega (arith, length_whole (block_bytes (b ++ c)), length-drop 4 (b ++ c), length-append b c);
    }
