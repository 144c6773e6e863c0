-- Theorems of the moves file. `window_law`: a file of good lines prints the lines of its windows, the one after the other, window i that of
-- lines i to i + 63. `pieces`: blocks of whole lines taken one after another print what the whole file would; only the last may end in a
-- part of a line.
use Prim.Native.Nat.{ℕ, zero, suc, ◌+◌, ◌*◌, ◌-◌, ◌/◌, ◌%◌, ◌≤◌}
use Rattle.std.specs.Prelude.{Bool, true, false, ◌&&◌, ◌≡◌, eqb, take, drop}
use Rattle.std.proofs.Math.Bool.{cond}
use mathlib.Core.List.{List, [], ◌∷◌, ◌++◌, map, flatten, append_assoc, append-nil}
use Rattle.std.proofs.Math.Path.{refl, sym, ap, ap₂}
use Rattle.std.proofs.Common.{◌∙◌, ⊎_elim, length-take, length-drop}
use native.Mathlib.Omega.{arith}
use Rattle.std.proofs.Math.ListN.{length, get_or, length-append, get_or-append}
use Rattle.std.proofs.lemmas.List.{length-map}
use Rattle.std.proofs.Math.Seq.{get_or-append-add}
use borrow.Author.Tests.{eqb-true, eq-eqb}
use Rattle.base_laws.specs.Bools.{either, clash, and_left, and_right, cond_of}
use Rattle.base_laws.specs.Definitions.{tabulate, padded}
use Rattle.base_laws.specs.Tables.{tabulate_add, tabulate_cong}
use Rattle.base_laws.proofs.Tables.{front_padded}
use Rattle.base_ids.specs.declared.Refusal.{Refusal}
use Rattle.base_ids.specs.Definitions.{none, accepted, unless, first_of}
use Rattle.base_ids.specs.Refusals.{accepted_none, unless_true, first_none, first_refused, first_left}
use Rattle.base_bytes.specs.Definitions.{word_at}
use Rattle.program_text.specs.Definitions.{number_line}
use Rattle.program_text.specs.Text.{number_line_length}
use Rattle.mondays_windows.specs.Definitions.{window_of, window_line, window_lines, all_windows, last_moves}
use Rattle.mondays_windows.specs.Sliding.{windows_more, last_more, windows_length}
use Rattle.mondays_moves.specs.declared.Tally.{Tally}
use Rattle.mondays_moves.specs.Definitions.{MovesLine, LineWalk, line_at, lines_of, line_refusal, walk, walk_after, cut_refusal, refusal_line, file_refusal, mondays_text, tally_of, kept_moves, block_walk, block_refusal, block_text, tally_after}
use Rattle.mondays_moves.specs.Tallies.{fresh_tally}
use Rattle.mondays_moves.specs.Walking.{length_lines, walk_length, refusal_none}
use Rattle.mondays_laws.specs.Definitions.{standing_text}

-- the bytes are whole lines
abbrev pub whole_lines : List ℕ → Bool
whole_lines bytes = eqb (length bytes % 8) 0

-- the texts that blocks put one after another, from a tally on
unfoldable pub block_texts : Tally → List (List ℕ) → List ℕ
block_texts t [] = []
block_texts t (b ∷ bs) = block_text t b ++ block_texts (tally_after t b) bs

-- every block but the last is of whole lines
unfoldable pub whole_but_last : List (List ℕ) → Bool
whole_but_last [] = true
whole_but_last (b ∷ []) = true
whole_but_last (b ∷ (c ∷ bs)) = whole_lines b && whole_but_last (c ∷ bs)

-- ---- lines of bytes in two parts

module _ (a p : List ℕ) where
  word_front : (i : ℕ) → 4 * i + 4 ≤ length a → word_at (a ++ p) i ≡ word_at a i
  unfolding word_at
  word_front i h =
      rw (get_or-append a p 0 (4 * i) (omega arith), get_or-append a p 0 (4 * i + 1) (omega arith), get_or-append a p 0 (4 * i + 2) (omega arith), get_or-append a p 0 (4 * i + 3) (omega arith))

  byte_rest : (i j k : ℕ) → length a ≡ 4 * i → k ≡ 4 * j → (n : ℕ) → get_or (a ++ p) (4 * (i + j) + n) 0 ≡ get_or p (4 * j + n) 0
  byte_rest i j k e d n =
      let s : 4 * (i + j) + n ≡ length a + (4 * j + n) = omega arith in
      ap (λ (x : ℕ). get_or (a ++ p) x 0) s ∙ get_or-append-add a p (4 * j + n) 0

  word_rest : (i j : ℕ) → length a ≡ 4 * i → word_at (a ++ p) (i + j) ≡ word_at p j
  unfolding word_at
  word_rest i j e =
      let z : get_or (a ++ p) (4 * (i + j)) 0 ≡ get_or p (4 * j) 0 =
      (let s : 4 * (i + j) ≡ length a + 4 * j = omega arith in ap (λ (x : ℕ). get_or (a ++ p) x 0) s ∙ get_or-append-add a p (4 * j) 0) in
      rw (z, byte_rest i j (4 * j) e refl 1, byte_rest i j (4 * j) e refl 2, byte_rest i j (4 * j) e refl 3)

  pub lines_append : whole_lines a ≡ true → lines_of (a ++ p) ≡ lines_of a ++ lines_of p
  unfolding lines_of
  lines_append w =
      let whole : length a % 8 ≡ 0 = eqb-true (length a % 8) 0 w in
      let n : ℕ = length a / 8 in
      let eight : length a ≡ 8 * n = omega arith in
      let sum : length (a ++ p) / 8 ≡ n + length p / 8 = omega (arith, length-append a p) in
      ap (λ (k : ℕ). tabulate k (line_at (a ++ p))) sum
      ∙ tabulate_add n (length p / 8) (line_at (a ++ p))
      ∙ ap₂ ◌++◌
      (tabulate_cong n (line_at (a ++ p)) (line_at a)
      (λ i l. ap₂ (λ (x y : ℕ). record { number = x; moves = y }) (word_front (2 * i) (omega arith)) (word_front (2 * i + 1) (omega arith))))
      (tabulate_cong (length p / 8) (λ i. line_at (a ++ p) (n + i)) (line_at p)
      (λ i l.
      let e : 2 * (n + i) ≡ 2 * n + 2 * i = omega arith in
      let d : 2 * (n + i) + 1 ≡ 2 * n + (2 * i + 1) = omega arith in
      ap₂ (λ (x y : ℕ). record { number = x; moves = y })
      (ap (word_at (a ++ p)) e ∙ word_rest (2 * n) (2 * i) (omega arith)) (ap (word_at (a ++ p)) d ∙ word_rest (2 * n) (2 * i + 1) (omega arith))))

-- ---- lines in two parts

-- good lines, and more
walk_more : (least : ℕ) (ls ms : List MovesLine) → accepted (walk least ls).refusal ≡ true
    → walk least (ls ++ ms) ≡ walk_after (walk least ls).moves (walk (walk least ls).least ms)
unfolding walk
walk_more least [] ms h = refl
walk_more least (l ∷ ls) ms h = go (walk_more (l.number + 1) ls ms) (accepted (line_refusal least l)) refl h
  where
    bad : LineWalk
    bad = record { moves = []; least = least; refusal = line_refusal least l }

    good : LineWalk
    good = walk_after (l.moves ∷ []) (walk (l.number + 1) ls)

    go : (accepted (walk (l.number + 1) ls).refusal ≡ true
        → walk (l.number + 1) (ls ++ ms) ≡ walk_after (walk (l.number + 1) ls).moves (walk (walk (l.number + 1) ls).least ms))
        → (b : Bool) → accepted (line_refusal least l) ≡ b → accepted (cond b good bad).refusal ≡ true
        → cond b (walk_after (l.moves ∷ []) (walk (l.number + 1) (ls ++ ms))) bad
        ≡ walk_after (cond b good bad).moves (walk (cond b good bad).least ms)
    go rest true e g = ap (walk_after (l.moves ∷ [])) (rest g)
    go rest false e g = clash g e

-- a bad line, and more
walk_ended : (least : ℕ) (ls ms : List MovesLine) → accepted (walk least ls).refusal ≡ false → walk least (ls ++ ms) ≡ walk least ls
unfolding walk
walk_ended least [] ms h = clash refl h
walk_ended least (l ∷ ls) ms h = go (walk_ended (l.number + 1) ls ms) (accepted (line_refusal least l)) h
  where
    bad : LineWalk
    bad = record { moves = []; least = least; refusal = line_refusal least l }

    good : LineWalk
    good = walk_after (l.moves ∷ []) (walk (l.number + 1) ls)

    go : (accepted (walk (l.number + 1) ls).refusal ≡ false → walk (l.number + 1) (ls ++ ms) ≡ walk (l.number + 1) ls)
        → (b : Bool) → accepted (cond b good bad).refusal ≡ false
        → cond b (walk_after (l.moves ∷ []) (walk (l.number + 1) (ls ++ ms))) bad ≡ cond b good bad
    go rest true g = ap (walk_after (l.moves ∷ [])) (rest g)
    go rest false g = refl

-- lines that are all good give all their moves
walk_all : (least : ℕ) (ls : List MovesLine) → accepted (walk least ls).refusal ≡ true → (walk least ls).moves ≡ map (λ (l : MovesLine). l.moves) ls
unfolding walk
walk_all least [] h = refl
walk_all least (l ∷ ls) h = go (walk_all (l.number + 1) ls) (accepted (line_refusal least l)) refl h
  where
    bad : LineWalk
    bad = record { moves = []; least = least; refusal = line_refusal least l }

    good : LineWalk
    good = walk_after (l.moves ∷ []) (walk (l.number + 1) ls)

    go : (accepted (walk (l.number + 1) ls).refusal ≡ true → (walk (l.number + 1) ls).moves ≡ map (λ (x : MovesLine). x.moves) ls)
        → (b : Bool) → accepted (line_refusal least l) ≡ b → accepted (cond b good bad).refusal ≡ true
        → (cond b good bad).moves ≡ l.moves ∷ map (λ (x : MovesLine). x.moves) ls
    go rest true e g = ap (λ (ms : List ℕ). l.moves ∷ ms) (rest g)
    go rest false e g = clash g e

-- ---- one block more

-- bytes of whole lines have no line cut short
cut_none : (a : List ℕ) → whole_lines a ≡ true → cut_refusal (length a) ≡ none
unfolding cut_refusal
cut_none a w = unless_true (whole_lines a) 24 none w

cut_more : (a p : List ℕ) → whole_lines a ≡ true → cut_refusal (length (a ++ p)) ≡ cut_refusal (length p)
unfolding cut_refusal
cut_more a p w =
    let whole : length a % 8 ≡ 0 = eqb-true (length a % 8) 0 w in
    let e : length (a ++ p) % 8 ≡ length p % 8 = omega (arith, length-append a p) in
    ap (λ (k : ℕ). unless (eqb k 0) 24 none) e

file_whole : (a : List ℕ) → whole_lines a ≡ true → file_refusal a ≡ (walk 0 (lines_of a)).refusal
unfolding file_refusal
file_whole a w = ap (first_of (walk 0 (lines_of a)).refusal) (cut_none a w) ∙ first_last (walk 0 (lines_of a)).refusal
  where
    first_last : (r : Refusal) → first_of r none ≡ r
    first_last r = ⊎_elim (λ h. let e : r ≡ none = accepted_none r h in first_none r none e ∙ sym e) (λ h. first_refused r none h) (either (accepted r))

kept-moves : (ms : List ℕ) (least : ℕ) (r : Refusal) → kept_moves (tally_of ms least r) ≡ last_moves ms
unfolding kept_moves tally_of
kept-moves ms least r = front_padded 63 (length (last_moves ms)) (last_moves ms) (omega (arith, length-drop (length ms - 63) ms)) refl

-- a tally is that of the last moves
tally_last : (x y : List ℕ) (least : ℕ) (r : Refusal) → last_moves x ≡ last_moves y → tally_of x least r ≡ tally_of y least r
unfolding tally_of
tally_last x y least r e = ap (λ (ms : List ℕ). record { refusal = r; least = least; count = length ms; kept = padded 63 ms }) e

module _ (a p : List ℕ) (w : whole_lines a ≡ true) where
  was : LineWalk
  was = walk 0 (lines_of a)

  new : LineWalk
  new = walk was.least (lines_of p)

  -- the lines of a were good
  module _ (h : accepted was.refusal ≡ true) where
    going : accepted (standing_text a).refusal ≡ true
    unfolding was standing_text tally_of
    going = ap accepted (file_whole a w) ∙ h

    both : walk 0 (lines_of (a ++ p)) ≡ walk_after was.moves new
    unfolding was new
    both = ap (walk 0) (lines_append a p w) ∙ walk_more 0 (lines_of a) (lines_of p) h

    block : block_walk (standing_text a) p ≡ walk_after (last_moves was.moves) new
    unfolding was new standing_text block_walk tally_of
    block = ap (λ (l : List ℕ). walk_after l new) (kept-moves was.moves was.least (file_refusal a))

    refusals : file_refusal (a ++ p) ≡ block_refusal (standing_text a) p
    unfolding file_refusal block_refusal
    refusals =
        ap₂ first_of (ap (λ (x : LineWalk). x.refusal) (both ∙ sym (ap (λ (x : LineWalk). record { moves = was.moves ++ new.moves; least = x.least; refusal = x.refusal }) block)))
        (cut_more a p w)

    text_good : mondays_text (a ++ p) ≡ mondays_text a ++ block_text (standing_text a) p
    unfolding was mondays_text block_text
    text_good =
        let front : List ℕ = all_windows was.moves in
        let windows : List ℕ = all_windows (last_moves was.moves ++ new.moves) in
        let end : List ℕ = refusal_line (block_refusal (standing_text a) p) in
        let whole : all_windows (walk 0 (lines_of (a ++ p))).moves ≡ front ++ windows =
        ap (λ (x : LineWalk). all_windows x.moves) both ∙ windows_more was.moves new.moves in
        let quiet : mondays_text a ≡ front =
        ap (λ (t : List ℕ). front ++ t) (refusal_none (file_refusal a) (ap (λ (r : Refusal). r.code) (accepted_none (file_refusal a) (ap accepted (file_whole a w) ∙ h)))) ∙ append-nil front in
        let put : block_text (standing_text a) p ≡ windows ++ end =
        ap (λ (b : Bool). cond b (all_windows (block_walk (standing_text a) p).moves ++ end) []) going
        ∙ ap (λ (x : LineWalk). all_windows x.moves ++ end) block in
        ap₂ (λ (t : List ℕ) (r : Refusal). t ++ refusal_line r) whole refusals ∙ append_assoc front windows end
        ∙ sym (ap₂ ◌++◌ quiet put)

    tally_good : tally_after (standing_text a) p ≡ standing_text (a ++ p)
    unfolding was tally_after standing_text
    tally_good =
        ap (λ (b : Bool). cond b (tally_of (block_walk (standing_text a) p).moves (block_walk (standing_text a) p).least (block_refusal (standing_text a) p)) (standing_text a)) going
        ∙ ap₂ (λ (x : LineWalk) (r : Refusal). tally_of x.moves x.least r) block (sym refusals)
        ∙ tally_last (last_moves was.moves ++ new.moves) (was.moves ++ new.moves) new.least (file_refusal (a ++ p)) (sym (last_more was.moves new.moves))
        ∙ ap (λ (x : LineWalk). tally_of x.moves x.least (file_refusal (a ++ p))) (sym both)

  -- a line of a was bad
  module _ (h : accepted was.refusal ≡ false) where
    ended_walk : walk 0 (lines_of (a ++ p)) ≡ was
    unfolding was
    ended_walk = ap (walk 0) (lines_append a p w) ∙ walk_ended 0 (lines_of a) (lines_of p) h

    ended_refusal : file_refusal (a ++ p) ≡ file_refusal a
    unfolding file_refusal was
    ended_refusal =
        ap (λ (x : LineWalk). first_of x.refusal (cut_refusal (length (a ++ p)))) ended_walk
        ∙ first_refused was.refusal (cut_refusal (length (a ++ p))) h
        ∙ sym (first_refused was.refusal (cut_refusal (length a)) h)

    closed : accepted (standing_text a).refusal ≡ false
    unfolding was standing_text tally_of
    closed = ap accepted (file_whole a w) ∙ h

    text_ended : mondays_text (a ++ p) ≡ mondays_text a ++ block_text (standing_text a) p
    unfolding was mondays_text block_text
    text_ended =
        ap₂ (λ (x : LineWalk) (r : Refusal). all_windows x.moves ++ refusal_line r) ended_walk ended_refusal
        ∙ sym (ap (λ (b : Bool). mondays_text a ++ cond b (all_windows (block_walk (standing_text a) p).moves ++ refusal_line (block_refusal (standing_text a) p)) []) closed
        ∙ append-nil (mondays_text a))

    tally_ended : tally_after (standing_text a) p ≡ standing_text (a ++ p)
    unfolding was tally_after standing_text
    tally_ended =
        ap (λ (b : Bool). cond b (tally_of (block_walk (standing_text a) p).moves (block_walk (standing_text a) p).least (block_refusal (standing_text a) p)) (standing_text a)) closed
        ∙ sym (ap₂ (λ (x : LineWalk) (r : Refusal). tally_of x.moves x.least r) ended_walk ended_refusal)

  -- after bytes of whole lines, a block puts what is missing of the text of both, and gives the tally of both
  pub text_more : mondays_text (a ++ p) ≡ mondays_text a ++ block_text (standing_text a) p
  text_more = ⊎_elim text_good text_ended (either (accepted was.refusal))

  pub tally_more : tally_after (standing_text a) p ≡ standing_text (a ++ p)
  tally_more = ⊎_elim tally_good tally_ended (either (accepted was.refusal))

-- ---- blocks one after another

pub standing_none : standing_text [] ≡ fresh_tally
unfolding standing_text tally_of walk lines_of tabulate file_refusal cut_refusal unless first_of padded
standing_none = refl

none_printed : mondays_text [] ≡ []
unfolding mondays_text walk lines_of tabulate file_refusal cut_refusal unless first_of refusal_line all_windows window_lines
none_printed = refl

pub whole_more : (a p : List ℕ) → whole_lines a ≡ true → whole_lines p ≡ true → whole_lines (a ++ p) ≡ true
whole_more a p v w =
    let d : length a % 8 ≡ 0 = eqb-true (length a % 8) 0 v in
    let e : length p % 8 ≡ 0 = eqb-true (length p % 8) 0 w in
    eq-eqb (length (a ++ p) % 8) 0 (omega (arith, length-append a p))

pieces_after : (a : List ℕ) (bs : List (List ℕ)) → whole_lines a ≡ true → whole_but_last bs ≡ true
    → mondays_text a ++ block_texts (standing_text a) bs ≡ mondays_text (a ++ flatten bs)
unfolding block_texts whole_but_last flatten
pieces_after a [] w h = append-nil (mondays_text a) ∙ ap mondays_text (sym (append-nil a))
pieces_after a (b ∷ []) w h =
    ap (λ (t : List ℕ). mondays_text a ++ t) (append-nil (block_text (standing_text a) b))
    ∙ sym (text_more a b w) ∙ ap (λ (t : List ℕ). mondays_text (a ++ t)) (sym (append-nil b))
pieces_after a (b ∷ (c ∷ bs)) w h =
    let v : whole_lines b ≡ true = and_left (whole_lines b) (whole_but_last (c ∷ bs)) h in
    sym (append_assoc (mondays_text a) (block_text (standing_text a) b) (block_texts (tally_after (standing_text a) b) (c ∷ bs)))
    ∙ ap₂ (λ (t : List ℕ) (x : Tally). t ++ block_texts x (c ∷ bs)) (sym (text_more a b w)) (tally_more a b w)
    ∙ pieces_after (a ++ b) (c ∷ bs) (whole_more a b w v) (and_right (whole_lines b) (whole_but_last (c ∷ bs)) h)
    ∙ ap mondays_text (append_assoc a b (flatten (c ∷ bs)))

-- blocks of whole lines taken one after another print what the whole file would
pub pieces : (bs : List (List ℕ)) → whole_but_last bs ≡ true → block_texts fresh_tally bs ≡ mondays_text (flatten bs)
pieces bs h =
    ap₂ (λ (t : List ℕ) (x : Tally). t ++ block_texts x bs) (sym none_printed) (sym standing_none) ∙ pieces_after [] bs refl h

-- ---- the window law

flatten_last : (ls : List (List ℕ)) (l : List ℕ) → flatten (ls ++ (l ∷ [])) ≡ flatten ls ++ l
unfolding flatten
flatten_last [] l = append-nil l
flatten_last (m ∷ ls) l = ap (λ (t : List ℕ). m ++ t) (flatten_last ls l) ∙ sym (append_assoc m (flatten ls) l)

lines_index : (ms : List ℕ) (n : ℕ) → window_lines ms n ≡ flatten (tabulate n (λ i. window_line (window_of (take 64 (drop i ms)))))
unfolding window_lines tabulate flatten
lines_index ms zero = refl
lines_index ms (suc n) =
    ap (λ (t : List ℕ). t ++ window_line (window_of (take 64 (drop n ms)))) (lines_index ms n)
    ∙ sym (flatten_last (tabulate n (λ i. window_line (window_of (take 64 (drop i ms))))) (window_line (window_of (take 64 (drop n ms)))))

-- a file of L good lines prints L - 63 lines: line i is the sum and the greatest of the moves of lines i to i + 63, added up afresh
pub window_law : (bytes : List ℕ) → file_refusal bytes ≡ none
    → mondays_text bytes
    ≡ flatten (tabulate (length bytes / 8 - 63) (λ i. window_line (window_of (take 64 (drop i (map (λ (l : MovesLine). l.moves) (lines_of bytes)))))))
unfolding mondays_text file_refusal all_windows
window_law bytes h =
    let good : (walk 0 (lines_of bytes)).refusal ≡ none = first_left (walk 0 (lines_of bytes)).refusal (cut_refusal (length bytes)) h in
    let moves : (walk 0 (lines_of bytes)).moves ≡ map (λ (l : MovesLine). l.moves) (lines_of bytes) = walk_all 0 (lines_of bytes) (ap accepted good) in
    let size : length (walk 0 (lines_of bytes)).moves ≡ length bytes / 8 =
    ap length moves ∙ length-map (lines_of bytes) (λ (l : MovesLine). l.moves) ∙ length_lines bytes in
    ap₂ ◌++◌ (ap all_windows moves ∙ ap (window_lines (map (λ (l : MovesLine). l.moves) (lines_of bytes))) (ap (λ (k : ℕ). k - 63) (sym (ap length moves) ∙ size)))
    (ap refusal_line h ∙ refusal_none none refl)
    ∙ append-nil (window_lines (map (λ (l : MovesLine). l.moves) (lines_of bytes)) (length bytes / 8 - 63))
    ∙ lines_index (map (λ (l : MovesLine). l.moves) (lines_of bytes)) (length bytes / 8 - 63)

-- ---- room for the text of a block

pub text_length : (t : Tally) (bytes : List ℕ) → length t.kept ≡ 63 → length bytes ≤ 32768 → length (block_text t bytes) ≤ 98304
unfolding block_text block_walk kept_moves refusal_line
text_length t bytes k h =
    let ms : List ℕ = take t.count t.kept ++ (walk t.least (lines_of bytes)).moves in
    let r : Refusal = block_refusal t bytes in
    let many : length ms ≤ 4159 =
    omega (arith, length-append (take t.count t.kept) (walk t.least (lines_of bytes)).moves, length-take t.count t.kept, walk_length t.least (lines_of bytes), length_lines bytes) in
    let end : length (refusal_line r) ≤ 29 =
    cond_of (λ (l : List ℕ). length l ≤ 29) (accepted r) {y = []} {z = number_line r} (λ _. omega arith) (λ _. number_line_length r) in
    cond_of (λ (l : List ℕ). length l ≤ 98304) (accepted t.refusal) {y = all_windows ms ++ refusal_line r} {z = []}
    (λ _. omega (arith, length-append (all_windows ms) (refusal_line r), windows_length ms)) (λ _. omega arith)
