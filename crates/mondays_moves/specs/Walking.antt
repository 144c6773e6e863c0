-- Laws for the code: the lines of a block one by one, the moves that are kept, and how much room moves and text take.
use Rattle.std.specs.Prelude.{ℕ, suc, ◌+◌, ◌*◌, ◌-◌, ◌/◌, ◌%◌, ◌≤◌, ◌<◌, min, true, false, cond, List, [], ◌∷◌, ◌++◌, ◌≡◌, refl, eqb, leb, length, take, drop, get_or, replicate}
use Rattle.std.proofs.Common.{append_assoc, append-nil, sym, ap, ap₂, ◌∙◌, subst, ⊎_elim, add-one, arith, length-append, length-take, length-drop, take_all, drop-cons, leb-true, le-leb, ne_eqb, eq-eqb}
use Rattle.std.proofs.lemmas.List.{length-replicate}
use Rattle.std.proofs.Math.Seq.{drop-length}
use Rattle.std.proofs.lemmas.Bool.{lt-leb}
use Rattle.base_laws.specs.Bools.{cond_of, lt_or_le}
use Rattle.base_laws.specs.Definitions.{tabulate, padded}
use Rattle.base_laws.specs.Tables.{length_tabulate, get_d_tabulate, tabulate_step}
use Rattle.base_ids.specs.declared.Refusal.{Refusal}
use Rattle.base_ids.specs.Definitions.{refused, none, accepted, unless, first_of}
use Rattle.base_ids.specs.Refusals.{unless_ok, unless_rest, unless_true, unless_false, first_none, first_refused}
use Rattle.base_bytes.specs.Definitions.{word_at}
use Rattle.program_text.specs.Definitions.{Puts, number_line}
use Rattle.program_text.specs.Puts.{puts_as, puts_none, puts_first, then-puts}
use Rattle.mondays_windows.specs.Definitions.{all_windows, last_moves}
use Rattle.mondays_moves.specs.declared.Tally.{Tally}
use Rattle.mondays_moves.specs.declared.MovesTaken.{MovesTaken}
use Rattle.mondays_moves.specs.Definitions.{MovesLine, LineWalk, line_at, lines_of, line_refusal, walk, walk_after, cut_refusal, refusal_line, tally_of, kept_moves, block_walk, block_refusal, block_text, tally_after}
use Rattle.mondays_moves.specs.Tallies.{TakesBlock}

-- ---- lines

pub length_lines : (bytes : List ℕ) → length (lines_of bytes) ≡ length bytes / 8
unfolding lines_of
length_lines bytes = length_tabulate (length bytes / 8) (line_at bytes)

get_or_lines : (bytes : List ℕ) (i : ℕ) (d : MovesLine) → i < length bytes / 8 → get_or (lines_of bytes) i d ≡ line_at bytes i
unfolding lines_of
get_or_lines bytes i d h = get_d_tabulate (length bytes / 8) (line_at bytes) i d h

-- the moves of the lines below n
unfoldable pub moves_below : List ℕ → ℕ → List ℕ
moves_below bytes n = tabulate n (λ i. word_at bytes (2 * i + 1))

-- ---- the refusal of a line

pub refused_sequence : (least : ℕ) (l : MovesLine) → l.number < least → refused 24 ≡ line_refusal least l
unfolding line_refusal unless
refused_sequence least l h = rw (lt-leb least l.number h)

pub refused_moves : (least : ℕ) (l : MovesLine) → least ≤ l.number → 128 < l.moves → refused 25 ≡ line_refusal least l
unfolding line_refusal unless
refused_moves least l h k = rw (le-leb least l.number h, lt-leb l.moves 128 k)

pub refused_none : (least : ℕ) (l : MovesLine) → least ≤ l.number → l.moves ≤ 128 → none ≡ line_refusal least l
unfolding line_refusal unless
refused_none least l h k = rw (le-leb least l.number h, le-leb l.moves 128 k)

pub few_moves : (least : ℕ) (l : MovesLine) → line_refusal least l ≡ none → l.moves ≤ 128
unfolding line_refusal
few_moves least l h =
    leb-true l.moves 128
    (unless_ok (leb l.moves 128) 24 none (unless_rest (leb least l.number) 23 (unless (leb l.moves 128) 25 none) h))

-- ---- a loop over the lines of a block: what is known before line i

pub record Walks (bytes : List ℕ) (least₀ i least : ℕ) : Type 0 where
  pub within : i ≤ length bytes / 8
  pub whole : walk least₀ (lines_of bytes) ≡ walk_after (moves_below bytes i) (walk least (drop i (lines_of bytes)))

pub walks_none : (bytes : List ℕ) (least : ℕ) → Walks bytes least 0 least
unfolding moves_below tabulate
walks_none bytes least = record { within = omega arith; whole = refl }

next_line : (bytes : List ℕ) (i : ℕ) → i < length bytes / 8 → drop i (lines_of bytes) ≡ line_at bytes i ∷ drop (suc i) (lines_of bytes)
next_line bytes i h =
    let l : i < length (lines_of bytes) = omega (arith, length_lines bytes) in
    drop-cons (lines_of bytes) i (line_at bytes i) l ∙ ap (λ (x : MovesLine). x ∷ drop (suc i) (lines_of bytes)) (get_or_lines bytes i (line_at bytes i) h)

-- a good line
walk_good : (least : ℕ) (l : MovesLine) (ls : List MovesLine) → line_refusal least l ≡ none → walk least (l ∷ ls) ≡ walk_after (l.moves ∷ []) (walk (l.number + 1) ls)
unfolding walk
walk_good least l ls h =
    ap (λ (r : Refusal). cond (accepted r) (walk_after (l.moves ∷ []) (walk (l.number + 1) ls)) (record { moves = []; least = least; refusal = r })) h

-- a bad line
walk_bad : (least : ℕ) (l : MovesLine) (ls : List MovesLine) → accepted (line_refusal least l) ≡ false
    → walk least (l ∷ ls) ≡ record { moves = []; least = least; refusal = line_refusal least l }
unfolding walk
walk_bad least l ls h = rw h

pub walks_more : (bytes : List ℕ) (least₀ i least : ℕ) → i < length bytes / 8 → Walks bytes least₀ i least → line_refusal least (line_at bytes i) ≡ none
    → Walks bytes least₀ (i + 1) (word_at bytes (2 * i) + 1)
unfolding moves_below
walks_more bytes least₀ i least h w g =
    let m : ℕ = word_at bytes (2 * i + 1) in
    let rest : LineWalk = walk (word_at bytes (2 * i) + 1) (drop (suc i) (lines_of bytes)) in
    let next : walk least (drop i (lines_of bytes)) ≡ walk_after (m ∷ []) rest =
    ap (walk least) (next_line bytes i h) ∙ walk_good least (line_at bytes i) (drop (suc i) (lines_of bytes)) g in
    record {
      within = omega arith;
      whole =
          w.whole ∙ ap (walk_after (moves_below bytes i)) next
          ∙ ap (λ (ms : List ℕ). record { moves = ms; least = rest.least; refusal = rest.refusal })
          (sym (append_assoc (moves_below bytes i) (m ∷ []) rest.moves))
          ∙ ap₂ (λ (ms : List ℕ) (k : ℕ). walk_after ms (walk (word_at bytes (2 * i) + 1) (drop k (lines_of bytes))))
          (sym (tabulate_step i (λ k. word_at bytes (2 * k + 1)))) (sym (add-one i));
    }

-- the first bad line
pub walks_bad : (bytes : List ℕ) (least₀ i least : ℕ) → i < length bytes / 8 → Walks bytes least₀ i least → accepted (line_refusal least (line_at bytes i)) ≡ false
    → walk least₀ (lines_of bytes) ≡ record { moves = moves_below bytes i; least = least; refusal = line_refusal least (line_at bytes i) }
walks_bad bytes least₀ i least h w g =
    w.whole
    ∙ ap (walk_after (moves_below bytes i))
    (ap (walk least) (next_line bytes i h) ∙ walk_bad least (line_at bytes i) (drop (suc i) (lines_of bytes)) g)
    ∙ ap (λ (ms : List ℕ). record { moves = ms; least = least; refusal = line_refusal least (line_at bytes i) }) (append-nil (moves_below bytes i))

-- every line is good
pub walks_all : (bytes : List ℕ) (least₀ i least : ℕ) → length bytes / 8 ≤ i → Walks bytes least₀ i least
    → walk least₀ (lines_of bytes) ≡ record { moves = moves_below bytes i; least = least; refusal = none }
unfolding walk
walks_all bytes least₀ i least h w =
    let e : i ≡ length (lines_of bytes) = omega (arith, length_lines bytes, w.within) in
    w.whole
    ∙ ap (λ (ls : List MovesLine). walk_after (moves_below bytes i) (walk least ls)) (ap (λ (k : ℕ). drop k (lines_of bytes)) e ∙ drop-length (lines_of bytes))
    ∙ ap (λ (ms : List ℕ). record { moves = ms; least = least; refusal = none }) (append-nil (moves_below bytes i))

-- one more line's moves
pub moves_none : (bytes : List ℕ) → moves_below bytes 0 ≡ []
unfolding moves_below tabulate
moves_none bytes = refl

pub moves_step : (bytes : List ℕ) (i : ℕ) → moves_below bytes (i + 1) ≡ moves_below bytes i ++ (word_at bytes (2 * i + 1) ∷ [])
unfolding moves_below
moves_step bytes i = tabulate_step i (λ k. word_at bytes (2 * k + 1))

-- what a loop over the lines leaves: their moves in the bytes `out` from place `at` on, and what the walk gives beside them
pub record GathersMoves (bytes : List ℕ) (least : ℕ) (out : List ℕ) (at : ℕ) (after : List ℕ) (place least' : ℕ) (refusal : Refusal) : Type 0 where
  pub puts : Puts out at (walk least (lines_of bytes)).moves after place
  pub next : least' ≡ (walk least (lines_of bytes)).least
  pub ended : refusal ≡ (walk least (lines_of bytes)).refusal

pub gathers : (bytes : List ℕ) (least : ℕ) (out : List ℕ) (at : ℕ) (after : List ℕ) (place least' : ℕ) (refusal : Refusal) (ms : List ℕ)
    → walk least (lines_of bytes) ≡ record { moves = ms; least = least'; refusal = refusal } → Puts out at ms after place
    → GathersMoves bytes least out at after place least' refusal
gathers bytes least out at after place least' refusal ms e p =
    record {
      puts = puts_as (ap (λ (w : LineWalk). w.moves) e) p;
      next = sym (ap (λ (w : LineWalk). w.least) e);
      ended = sym (ap (λ (w : LineWalk). w.refusal) e);
    }

-- the line at hand, by its two words
pub line_told : (bytes : List ℕ) (least i n m : ℕ) (r : Refusal) → n ≡ word_at bytes (2 * i) → m ≡ word_at bytes (2 * i + 1)
    → r ≡ line_refusal least (record { number = n; moves = m }) → r ≡ line_refusal least (line_at bytes i)
line_told bytes least i n m r d e h = h ∙ ap₂ (λ (a b : ℕ). line_refusal least (record { number = a; moves = b })) d e

pub few_told : (least : ℕ) (l : MovesLine) (r : Refusal) → r ≡ line_refusal least l → r.code ≡ 0 → l.moves < 256
few_told least l r e h = let few : l.moves ≤ 128 = few_moves least l (sym e ∙ ap refused h) in omega arith

pub walks_next : (bytes : List ℕ) (least₀ i least n : ℕ) (r : Refusal) → i < length bytes / 8 → Walks bytes least₀ i least
    → r ≡ line_refusal least (line_at bytes i) → r.code ≡ 0 → n ≡ word_at bytes (2 * i) → Walks bytes least₀ (i + 1) (n + 1)
walks_next bytes least₀ i least n r h w e z d =
    subst (λ (k : ℕ). Walks bytes least₀ (i + 1) (k + 1)) (sym d) (walks_more bytes least₀ i least h w (sym e ∙ ap refused z))

module _ (bytes : List ℕ) (least₀ i least : ℕ) (out : List ℕ) (at : ℕ) (after : List ℕ) (place : ℕ) (w : Walks bytes least₀ i least) (p : Puts out at (moves_below bytes i) after place) where
  pub gathers_bad : (r : Refusal) → i < length bytes / 8 → r ≡ line_refusal least (line_at bytes i) → (r.code ≡ 0 → ⊥)
      → GathersMoves bytes least₀ out at after place least r
  gathers_bad r h e bad =
      let z : accepted (line_refusal least (line_at bytes i)) ≡ false = ap accepted (sym e) ∙ ne_eqb r.code 0 bad in
      gathers bytes least₀ out at after place least r (moves_below bytes i)
      (walks_bad bytes least₀ i least h w z ∙ ap (λ (x : Refusal). record { moves = moves_below bytes i; least = least; refusal = x }) (sym e)) p

  pub gathers_all : length bytes / 8 ≤ i → GathersMoves bytes least₀ out at after place least none
  gathers_all h = gathers bytes least₀ out at after place least none (moves_below bytes i) (walks_all bytes least₀ i least h w) p

-- ---- the end of a block

pub ended_first : (r : Refusal) (n : ℕ) → (r.code ≡ 0 → ⊥) → r ≡ first_of r (cut_refusal n)
ended_first r n h = sym (first_refused r (cut_refusal n) (ne_eqb r.code 0 h))

pub ended_cut : (r : Refusal) (n : ℕ) → r.code ≡ 0 → (n % 8 ≡ 0 → ⊥) → refused 24 ≡ first_of r (cut_refusal n)
unfolding cut_refusal
ended_cut r n z h = sym (first_none r (cut_refusal n) (ap refused z) ∙ unless_false (eqb (n % 8) 0) 24 none (ne_eqb (n % 8) 0 h))

pub ended_whole : (r : Refusal) (n : ℕ) → r.code ≡ 0 → n % 8 ≡ 0 → none ≡ first_of r (cut_refusal n)
unfolding cut_refusal
ended_whole r n z h = sym (first_none r (cut_refusal n) (ap refused z) ∙ unless_true (eqb (n % 8) 0) 24 none (eq-eqb (n % 8) 0 h))

pub refusal_none : (r : Refusal) → r.code ≡ 0 → refusal_line r ≡ []
unfolding refusal_line
refusal_none r h = rw (eq-eqb r.code 0 h)

pub refusal_some : (r : Refusal) → (r.code ≡ 0 → ⊥) → refusal_line r ≡ number_line r
unfolding refusal_line
refusal_some r h = rw (ne_eqb r.code 0 h)

-- ---- what is kept

pub take_within : (n : ℕ) (l : List ℕ) → take (min n (length l) - 0) (drop 0 l) ≡ take n l
take_within n l = ⊎_elim few many (lt_or_le n (length l))
  where
    few : n < length l → take (min n (length l) - 0) (drop 0 l) ≡ take n l
    few h = let e : min n (length l) - 0 ≡ n = omega arith in ap (λ (k : ℕ). take k l) e

    many : length l ≤ n → take (min n (length l) - 0) (drop 0 l) ≡ take n l
    many h = let e : min n (length l) - 0 ≡ length l = omega arith in ap (λ (k : ℕ). take k l) e ∙ take_all (length l) l (omega arith) ∙ sym (take_all n l h)

pub take_front : (n k : ℕ) (l : List ℕ) (m : ℕ) → length l ≡ m → k ≡ min n m → take (k - 0) (drop 0 l) ≡ take n l
take_front n k l m e h = ap (λ (x : ℕ). take (x - 0) (drop 0 l)) (h ∙ ap (min n) (sym e)) ∙ take_within n l

pub tally_told : (ms : List ℕ) (least : ℕ) (r : Refusal) (count : ℕ) (table : List ℕ) → count ≡ min (length ms) 63
    → table ≡ padded 63 (take (length ms - (length ms - count)) (drop (length ms - count) ms))
    → record { refusal = r; least = least; count = count; kept = table } ≡ tally_of ms least r
unfolding tally_of
tally_told ms least r count table e h =
    let first : length ms - count ≡ length ms - 63 = omega arith in
    let all : take (length ms - (length ms - count)) (drop (length ms - count) ms) ≡ last_moves ms =
    take_all (length ms - (length ms - count)) (drop (length ms - count) ms) (omega (arith, length-drop (length ms - count) ms))
    ∙ ap (λ (k : ℕ). drop k ms) first in
    let size : count ≡ length (last_moves ms) = omega (arith, length-drop (length ms - 63) ms) in
    ap₂ (λ (k : ℕ) (l : List ℕ). record { refusal = r; least = least; count = k; kept = l }) size (h ∙ ap (padded 63) all)

-- ---- a block is taken

pub walk_length : (least : ℕ) (ls : List MovesLine) → length (walk least ls).moves ≤ length ls
unfolding walk
walk_length least [] = omega arith
walk_length least (l ∷ ls) =
    cond_of (λ (w : LineWalk). length w.moves ≤ suc (length ls)) (accepted (line_refusal least l))
    {y = walk_after (l.moves ∷ []) (walk (l.number + 1) ls)} {z = record { moves = []; least = least; refusal = line_refusal least l }}
    (λ _. omega (arith, walk_length (l.number + 1) ls)) (λ _. omega arith)

pub taken_open : (t : Tally) (bytes out : List ℕ) (first second : List ℕ) (at place least : ℕ) (ended refusal : Refusal) (one two : List ℕ) (w len : ℕ) (after : Tally)
    → length t.kept ≡ 63 → t.refusal.code ≡ 0 → length bytes ≤ 32768
    → Puts (replicate 4159 0) 0 (take t.count t.kept) first at → GathersMoves bytes t.least first at second place least ended
    → refusal ≡ first_of ended (cut_refusal (length bytes))
    → Puts out 0 (all_windows (take (place - 0) (drop 0 second))) one w → Puts one w (refusal_line refusal) two len
    → after ≡ tally_of (take (place - 0) (drop 0 second)) least refusal → TakesBlock t bytes out (record { tally = after; len = len }) two
unfolding kept_moves block_walk block_refusal block_text tally_after
taken_open t bytes out first second at place least ended refusal one two w len after k z h p g e q s a =
    record {
      tally = a ∙ tally_is ∙ rw going;
      puts = puts_as (rw going (ap₂ (λ (ms : List ℕ) (r : Refusal). all_windows ms ++ refusal_line r) (sym moves_are) (sym refusal_is))) (then-puts (omega arith) q s);
    }
  where
    lines : LineWalk
    lines = walk t.least (lines_of bytes)

    ms : List ℕ
    ms = take t.count t.kept ++ lines.moves

    going : accepted t.refusal ≡ true
    going = eq-eqb t.refusal.code 0 z

    room : length ms ≤ length (replicate {A = ℕ} 4159 0)
    room =
        omega (arith, length-append (take t.count t.kept) lines.moves, length-take t.count t.kept, walk_length t.least (lines_of bytes), length_lines bytes, length-replicate {A = ℕ} 4159 0)

    all : Puts (replicate 4159 0) 0 ms second place
    all = then-puts (omega arith) p g.puts

    moves_are : take (place - 0) (drop 0 second) ≡ ms
    moves_are = let d : place - 0 ≡ place = omega arith in ap (λ (n : ℕ). take n second) d ∙ (puts_first (replicate 4159 0) ms second place room all).1

    refusal_is : refusal ≡ first_of lines.refusal (cut_refusal (length bytes))
    refusal_is = e ∙ ap (λ (r : Refusal). first_of r (cut_refusal (length bytes))) g.ended

    tally_is : tally_of (take (place - 0) (drop 0 second)) least refusal ≡ tally_of ms lines.least (first_of lines.refusal (cut_refusal (length bytes)))
    tally_is =
        ap₂ (λ (l : List ℕ) (n : ℕ). tally_of l n refusal) moves_are g.next
        ∙ ap (tally_of ms lines.least) refusal_is

-- nothing is taken after a refusal
pub taken_closed : (t : Tally) (bytes out : List ℕ) → (t.refusal.code ≡ 0 → ⊥) → TakesBlock t bytes out (record { tally = t; len = 0 }) out
unfolding block_text tally_after
taken_closed t bytes out h =
    let z : accepted t.refusal ≡ false = ne_eqb t.refusal.code 0 h in
    record { tally = rw z; puts = puts_as (rw z) (puts_none out 0 (omega arith)) }

-- the same bytes
pub takes_as : {t : Tally} {a b out : List ℕ} {r : MovesTaken} {after : List ℕ} → a ≡ b → TakesBlock t a out r after → TakesBlock t b out r after
takes_as {t} {out = out} {r = r} {after = after} e p = subst (λ (l : List ℕ). TakesBlock t l out r after) e p
