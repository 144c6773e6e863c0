-- Laws of the bytes of a block that is coming in: what has come, and that it is no more than the block takes.
use Prim.Native.Nat.{ℕ, suc, ◌+◌, ◌-◌, ◌≤◌, ◌<◌, min}
use mathlib.Core.List.{List, [], ◌∷◌, ◌++◌, append_assoc, append-nil}
use Rattle.std.proofs.Common.{⊎_elim, ◌∙◌, take-append-drop, length-take, drop_of_length-le, lt-ltb, le-ltb}
use Rattle.std.specs.Prelude.{◌≡◌, take}
use Rattle.std.proofs.Math.Path.{refl, sym, ap, ap₂, subst}
use native.Mathlib.Omega.{arith}
use Rattle.std.proofs.Math.ListN.{length, drop, length-append, length-drop}
use Rattle.std.proofs.Math.Seq.{take_at, take-length, length-take-le, drop-append-add, drop-drop}
use borrow.Rule.Slice.PartMut.{put_mid}
use Rattle.base_laws.specs.Bools.{lt_or_le}
use Rattle.base_laws.specs.Definitions.{replaced}
use Rattle.base_laws.specs.Tables.{part_front, length_replaced, put_replaced}
use Rattle.program_blocks.specs.Definitions.{needed, next_place, bytes_laid}
use Rattle.program_blocks.specs.Blocks.{needed_ends, needed_few, needed_same, needed_more}

-- `at` bytes of a block are there, which lacks more, and the memory for it has room
pub record Lacks (bytes : List ℕ) (at : ℕ) : Type 0 where
  pub room : length bytes ≡ 2056
  pub coming : at < needed (take at bytes)

-- what the block lacks, as far as is known, or all that was fed from place `from` on is stored; r bytes of the block are there then
pub record BytesCome (bytes : List ℕ) (at : ℕ) (fed : List ℕ) (from : ℕ) (after : List ℕ) (r : ℕ) : Type 0 where
  pub reached : r ≡ at + min (needed (take at bytes) - at) (length fed - from)
  pub stored : after ≡ replaced at (take (r - at) (drop from fed)) bytes

-- ---- laws

pub placed_waits : (bytes : List ℕ) (at : ℕ) → at < needed (take at bytes) → next_place bytes at ≡ at
unfolding next_place
placed_waits bytes at h = rw (lt-ltb at (needed (take at bytes)) h)

pub placed_whole : (bytes : List ℕ) (at : ℕ) → needed (take at bytes) ≤ at → next_place bytes at ≡ 0
unfolding next_place
placed_whole bytes at h = rw (le-ltb at (needed (take at bytes)) h)

pub laid_none : (at : ℕ) (bytes : List ℕ) → bytes_laid at bytes [] ≡ bytes
unfolding bytes_laid
laid_none at bytes = refl

none_replaced : (at : ℕ) (bytes : List ℕ) → replaced at [] bytes ≡ bytes
unfolding replaced
none_replaced at bytes = ap (λ (k : ℕ). take at bytes ++ drop k bytes) (let z : at + 0 ≡ at = omega arith in z) ∙ take-append-drop at bytes

-- bytes of one block, and others
module _ (rest : List ℕ) where
  -- one byte, and others of the same block
  module _ (bytes : List ℕ) (at b : ℕ) (l : at < length bytes) where
    abbrev one : List ℕ
    one = replaced at (b ∷ []) bytes

    one_front : take (at + 1) one ≡ take at bytes ++ (b ∷ [])
    unfolding replaced
    one_front =
        ap (take (at + 1)) (sym (append_assoc (take at bytes) (b ∷ []) (drop (at + 1) bytes)))
        ∙ take_at (take at bytes ++ (b ∷ [])) (drop (at + 1) bytes) (at + 1) (length-append (take at bytes) (b ∷ []) ∙ omega (arith, length-take-le at bytes (omega arith)))

    one_then : (p : List ℕ) → replaced (at + 1) p one ≡ replaced at (b ∷ p) bytes
    unfolding replaced
    one_then p =
        let front : length (take at bytes ++ (b ∷ [])) ≡ at + 1 = length-append (take at bytes) (b ∷ []) ∙ omega (arith, length-take-le at bytes (omega arith)) in
        let gone : drop (at + 1 + length p) (take at bytes ++ ((b ∷ []) ++ drop (at + 1) bytes)) ≡ drop (at + suc (length p)) bytes =
        ap (drop (at + 1 + length p)) (sym (append_assoc (take at bytes) (b ∷ []) (drop (at + 1) bytes)))
        ∙ ap (λ (k : ℕ). drop (k + length p) ((take at bytes ++ (b ∷ [])) ++ drop (at + 1) bytes)) (sym front)
        ∙ drop-append-add (take at bytes ++ (b ∷ [])) (drop (at + 1) bytes) (length p)
        ∙ drop-drop (length p) (at + 1) bytes
        ∙ ap (λ (k : ℕ). drop k bytes) (let z : at + 1 + length p ≡ at + suc (length p) = omega arith in z) in
        ap₂ (λ (x y : List ℕ). x ++ (p ++ y)) one_front gone ∙ append_assoc (take at bytes) (b ∷ []) (p ++ drop (at + suc (length p)) bytes)

    one_needed : at + 2 ≤ needed (take at bytes) → needed (take (at + 1) one) ≡ needed (take at bytes)
    one_needed h =
        let size : length (take at bytes) ≡ at = length-take-le at bytes (omega arith) in
        let more : length (take at bytes ++ (b ∷ [])) ≡ at + 1 = length-append (take at bytes) (b ∷ []) ∙ omega (arith, size) in
        ap needed one_front
        ∙ ⊎_elim (λ f. let e = needed_few (take at bytes) (omega arith) in needed_few (take at bytes ++ (b ∷ [])) (omega arith) ∙ sym e)
        (λ m. needed_same (take at bytes) (b ∷ []) (omega arith)) (lt_or_le at 4)

  -- bytes of a block that lacks as many or more
  pub laid_part : (part bytes : List ℕ) (at : ℕ) → at < needed (take at bytes) → at + length part ≤ needed (take at bytes) → needed (take at bytes) ≤ length bytes
      → bytes_laid at bytes (part ++ rest) ≡ bytes_laid (next_place (replaced at part bytes) (at + length part)) (replaced at part bytes) rest
  unfolding bytes_laid
  laid_part [] bytes at h l m =
      let same : replaced at [] bytes ≡ bytes = none_replaced at bytes in
      let here : at + 0 ≡ at = omega arith in
      ap₂ (λ (k : ℕ) (x : List ℕ). bytes_laid k x rest) (sym (ap₂ next_place same here ∙ placed_waits bytes at h)) (sym same)
  laid_part (b ∷ []) bytes at h l m = refl
  laid_part (b ∷ (c ∷ p)) bytes at h l m =
      let fits : at < length bytes = omega arith in
      let next : List ℕ = replaced at (b ∷ []) bytes in
      let known : needed (take (at + 1) next) ≡ needed (take at bytes) = one_needed bytes at b fits (omega arith) in
      let size : length next ≡ length bytes = length_replaced at (b ∷ []) bytes (omega arith) in
      let all : replaced (at + 1) (c ∷ p) next ≡ replaced at (b ∷ (c ∷ p)) bytes = one_then bytes at b fits (c ∷ p) in
      let place : at + 1 + length (c ∷ p) ≡ at + length (b ∷ (c ∷ p)) = omega arith in
      ap (λ (k : ℕ). bytes_laid k next ((c ∷ p) ++ rest)) (placed_waits next (at + 1) (omega (arith, known)))
      ∙ laid_part (c ∷ p) next (at + 1) (omega (arith, known)) (omega (arith, known)) (omega (arith, known, size))
      ∙ ap₂ (λ (k : ℕ) (x : List ℕ). bytes_laid (next_place x k) x rest) place all

pub lacks_few : (bytes : List ℕ) (at : ℕ) → Lacks bytes at → at < 2056
lacks_few bytes at l = omega (arith, l.coming, (needed_ends (take at bytes)).1)

-- what is stored
module _ (bytes : List ℕ) (at w : ℕ) (lacks : Lacks bytes at) (e : w ≡ needed (take (at - 0) bytes)) where
  own : w ≡ needed (take at bytes)
  own = e ∙ ap needed (part_front at bytes)

  pub lacks_from : at ≤ w
  lacks_from = omega (arith, own, lacks.coming)

  module _ (fed : List ℕ) (from n : ℕ) (h : from ≤ length fed) (f : n ≡ min (w - at) (length fed - from)) where
    pub gathers_fit : at + n ≤ length bytes
    gathers_fit = omega (arith, f, own, lacks.room, lacks.coming, (needed_ends (take at bytes)).1)

    pub gathers_copied : (part last : List ℕ) → part ≡ take (from + n - from) (drop from fed) → last ≡ part
        → BytesCome bytes at fed from (put_mid at (at + n - at) bytes last) (at + n)
    gathers_copied part last p all =
        let n₁ : from + n - from ≡ n = omega arith in
        let n₂ : at + n - at ≡ n = omega arith in
        let size : length part ≡ n =
        ap length p ∙ ap (λ (k : ℕ). length (take k (drop from fed))) n₁
        ∙ length-take-le n (drop from fed) (omega (arith, f, length-drop from fed)) in
        record {
          reached = ap (λ (k : ℕ). at + k) (f ∙ ap (λ (k : ℕ). min (k - at) (length fed - from)) own);
          stored =
              put_replaced at (at + n - at) bytes last (ap length all ∙ size ∙ sym n₂)
              ∙ ap (λ (l : List ℕ). replaced at l bytes)
              (all ∙ p ∙ ap (λ (k : ℕ). take k (drop from fed)) (n₁ ∙ sym n₂));
        }

    pub gathers_stored : (part last : List ℕ) → part ≡ take (from + n - from) (drop from fed)
        → last ≡ take (length part) part ++ drop (length part) (take (at + n - at) (drop at bytes))
        → BytesCome bytes at fed from (put_mid at (at + n - at) bytes last) (at + n)
    gathers_stored part last p q =
        let n₁ : from + n - from ≡ n = omega arith in
        let n₂ : at + n - at ≡ n = omega arith in
        let size : length part ≡ n =
        ap length p ∙ ap (λ (k : ℕ). length (take k (drop from fed))) n₁
        ∙ length-take-le n (drop from fed) (omega (arith, f, length-drop from fed)) in
        let none : length (take (at + n - at) (drop at bytes)) ≤ length part = omega (arith, length-take (at + n - at) (drop at bytes)) in
        gathers_copied part last p (q ∙ ap₂ ◌++◌ (take-length part) (drop_of_length-le (take (at + n - at) (drop at bytes)) none) ∙ append-nil part)

-- what has come
module _ (bytes : List ℕ) (at : ℕ) (fed : List ℕ) (from : ℕ) (after : List ℕ) (r : ℕ) (lacks : Lacks bytes at) (g : BytesCome bytes at fed from after r) where
  -- what is stored now
  part : List ℕ
  part = take (r - at) (drop from fed)

  front_size : length (take at bytes) ≡ at
  front_size = length-take-le at bytes (omega (arith, lacks.room, lacks_few bytes at lacks))

  part_size : length part ≡ r - at
  unfolding part
  part_size = length-take-le (r - at) (drop from fed) (omega (arith, g.reached, length-drop from fed))

  reached_most : r ≤ 2056
  reached_most = omega (arith, lacks.coming, g.reached, (needed_ends (take at bytes)).1)

  come_size : length (take at bytes ++ part) ≡ r
  come_size = length-append (take at bytes) part ∙ omega (arith, front_size, part_size, g.reached)

  pub gathered_size : length after ≡ 2056
  unfolding part
  gathered_size = ap length g.stored ∙ length_replaced at part bytes (omega (arith, part_size, lacks.room, reached_most, g.reached)) ∙ lacks.room

  pub gathered_come : take r after ≡ take at bytes ++ take (r - at) (drop from fed)
  unfolding part replaced
  gathered_come =
      ap (take r) (g.stored ∙ sym (append_assoc (take at bytes) part (drop (at + length part) bytes)))
      ∙ take_at (take at bytes ++ part) (drop (at + length part) bytes) r come_size

  -- no more than the block takes
  pub gathered_within : r ≤ needed (take r after)
  unfolding part
  gathered_within =
      let m : length (take at bytes ++ part) ≤ needed (take at bytes ++ part) =
      needed_more (take at bytes) part (omega (arith, front_size, lacks.coming)) (omega (arith, come_size, lacks.coming, g.reached)) in
      subst (λ (l : List ℕ). r ≤ needed l) (sym gathered_come) (omega (arith, m, come_size))

  -- a byte at least, where one was fed
  pub gathered_some : from < length fed → at < r
  gathered_some h = omega (arith, lacks.coming, g.reached)

  -- no more than were fed
  pub gathered_fed : from ≤ length fed → from + (r - at) ≤ length fed
  gathered_fed h = omega (arith, g.reached)

  -- the memory for blocks, before and after
  pub gathered_laid : bytes_laid at bytes (drop from fed) ≡ bytes_laid (next_place after r) after (drop (from + (r - at)) fed)
  unfolding part
  gathered_laid =
      let end : at + length part ≡ r = omega (arith, part_size, g.reached) in
      ap (bytes_laid at bytes) (sym (take-append-drop (r - at) (drop from fed)) ∙ ap (λ (l : List ℕ). part ++ l) (drop-drop (r - at) from fed))
      ∙ laid_part (drop (from + (r - at)) fed) part bytes at lacks.coming (omega (arith, end, g.reached, lacks.coming)) (omega (arith, lacks.room, (needed_ends (take at bytes)).1))
      ∙ ap₂ (λ (k : ℕ) (x : List ℕ). bytes_laid (next_place x k) x (drop (from + (r - at)) fed)) end (sym g.stored)
