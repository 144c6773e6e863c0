-- Laws of text put into lent bytes: nothing, one byte, and one text after another.
use Prim.Native.Nat.{ℕ, ◌+◌, ◌≤◌, ◌<◌, min, zero-le}
use Rattle.std.proofs.Math.Logic.{⊎_elim}
use mathlib.Core.List.{List, [], ◌∷◌, ◌++◌, append_assoc, append-nil}
use Rattle.std.specs.Prelude.{◌≡◌, get_or, set}
use Rattle.std.proofs.Math.Path.{refl, sym, ap, ap₂}
use Rattle.std.proofs.Common.{◌∙◌, subst, add-one, length-take, length-drop, take-suc, drop-drop}
use native.Mathlib.Omega.{arith}
use Rattle.std.proofs.Math.ListN.{length, take, drop, take-append-drop, length-append}
use Rattle.std.proofs.Math.Seq.{take_all, take-length, take_at, take-append-le, drop-append-add}
use Rattle.std.proofs.lemmas.List.{set_split}
use Rattle.base_laws.specs.Bools.{lt_or_le}
use Rattle.program_text.specs.Definitions.{place_after, with_text, Puts}

-- ---- laws

module _ (out : List ℕ) (at : ℕ) (h : at ≤ length out) where
  front_length : (t : List ℕ) → at + length t ≤ length out → length (take at out ++ t) ≡ at + length t
  front_length t m = simp (length-append, length-take) (omega arith)

  whole_length : (t : List ℕ) → at + length t ≤ length out → length (take at out ++ (t ++ drop (at + length t) out)) ≡ length out
  whole_length t m = simp (length-append, length-take, length-drop) (omega arith)

  -- a text that fits
  pub joined_fits : (t : List ℕ) → at + length t ≤ length out → with_text out at t ≡ take at out ++ (t ++ drop (at + length t) out)
  unfolding with_text
  joined_fits t m = take_all (length out) _ (omega (arith, whole_length t m))

  -- a text that does not
  pub joined_cut : (t u : List ℕ) → length out ≤ at + length t → with_text out at (t ++ u) ≡ take (length out) (take at out ++ t)
  unfolding with_text
  joined_cut t u m =
      ap (take (length out)) (ap (λ (l : List ℕ). take at out ++ l) (append_assoc t u _) ∙ sym (append_assoc (take at out) t _))
      ∙ take-append-le (length out) (take at out ++ t) _ (simp (length-append, length-take) (omega arith))

  pub length_joined : (t : List ℕ) → length (with_text out at t) ≡ length out
  unfolding with_text
  length_joined t = simp (length-take, length-append, length-drop) (omega arith)

  -- a text after one that fits, and after one that does not
  join_fits : (t u : List ℕ) → at + length t ≤ length out → with_text (with_text out at t) (at + length t) u ≡ with_text out at (t ++ u)
  unfolding with_text
  join_fits t u m =
      ap (λ (l : List ℕ). with_text l (at + length t) u) whole
      ∙ ap₂ (λ (n : ℕ) (l : List ℕ). take n l) (sym (ap length whole) ∙ length_joined t)
      (ap₂ (λ (a b : List ℕ). a ++ (u ++ b)) (take_at front rest (at + length t) (front_length t m)) later
      ∙ append_assoc (take at out) t (u ++ drop (at + length (t ++ u)) out)
      ∙ ap (λ (l : List ℕ). take at out ++ l) (sym (append_assoc t u _)))
    where
      front : List ℕ
      front = take at out ++ t

      rest : List ℕ
      rest = drop (at + length t) out

      whole : with_text out at t ≡ front ++ rest
      whole = joined_fits t m ∙ sym (append_assoc (take at out) t rest)

      later : drop (at + length t + length u) (front ++ rest) ≡ drop (at + length (t ++ u)) out
      later =
          let sum : at + length t + length u ≡ at + length (t ++ u) = omega (arith, length-append t u) in
          ap (λ (n : ℕ). drop (n + length u) (front ++ rest)) (sym (front_length t m)) ∙ drop-append-add front rest (length u)
          ∙ drop-drop (length u) (at + length t) out
          ∙ ap (λ (n : ℕ). drop n out) sum

  join_cut : (t u : List ℕ) → length out ≤ at + length t → with_text (with_text out at t) (length out) u ≡ with_text out at (t ++ u)
  unfolding with_text
  join_cut t u m =
      let l : List ℕ = with_text out at t in
      let n : length out ≡ length l = sym (length_joined t) in
      ap (λ (k : ℕ). take (length l) (take k l ++ (u ++ drop (k + length u) l))) n
      ∙ ap (λ (r : List ℕ). take (length l) (r ++ (u ++ drop (length l + length u) l))) (take-length l)
      ∙ take_at l _ (length l) refl
      ∙ ap (with_text out at) (sym (append-nil t)) ∙ joined_cut t [] m ∙ sym (joined_cut t u m)

  -- the two equations are enough
  puts : (t l : List ℕ) (r : ℕ) → l ≡ with_text out at t → r ≡ place_after out at t → Puts out at t l r
  unfolding place_after
  puts t l r e p =
      let size : length l ≡ length out = ap length e ∙ length_joined t in
      record { bytes = e; place = p; size = size; within = omega arith }

  pub puts_none : Puts out at [] out at
  unfolding with_text place_after
  puts_none =
      let end : at + 0 ≡ at = omega arith in
      let all : take at out ++ drop (at + 0) out ≡ out = ap (λ (k : ℕ). take at out ++ drop k out) end ∙ take-append-drop at out in
      puts [] out at (sym (ap (take (length out)) all ∙ take-length out)) (omega arith)

  -- one byte, where there is room and where there is none
  pub puts_byte : (b : ℕ) → at < length out → Puts out at (b ∷ []) (set out at b) (at + 1)
  unfolding place_after
  puts_byte b m =
      puts (b ∷ []) (set out at b) (at + 1)
      (set_split out at b m ∙ ap (λ (k : ℕ). take at out ++ (b ∷ drop k out)) (sym (add-one at))
      ∙ sym (joined_fits (b ∷ []) (omega arith)))
      (omega arith)

  pub puts_past : (t : List ℕ) → length out ≤ at → Puts out at t out at
  unfolding place_after
  puts_past t m =
      let all : take at out ≡ out = take_all at out m in
      puts t out at
      (sym (joined_cut [] t (omega arith) ∙ ap (take (length out)) (append-nil (take at out) ∙ all) ∙ take-length out))
      (omega arith)

  -- one text after another
  puts_then : (t u l m : List ℕ) (a b : ℕ) → Puts out at t l a → Puts l a u m b → Puts out at (t ++ u) m b
  unfolding place_after
  puts_then t u l m a b p q = ⊎_elim (λ k. fits (omega arith)) (λ k. cut k) (lt_or_le (at + length t) (length out))
    where
      place : b ≡ min (length out) (at + length (t ++ u))
      place = omega (arith, length-append t u)

      step : with_text (with_text out at t) a u ≡ with_text out at (t ++ u) → Puts out at (t ++ u) m b
      step e = puts (t ++ u) m b (q.bytes ∙ ap (λ (x : List ℕ). with_text x a u) p.bytes ∙ e) place

      fits : at + length t ≤ length out → Puts out at (t ++ u) m b
      fits k =
          let e : a ≡ at + length t = omega arith in
          step (ap (λ (x : ℕ). with_text (with_text out at t) x u) e ∙ join_fits t u k)

      cut : length out ≤ at + length t → Puts out at (t ++ u) m b
      cut k =
          let e : a ≡ length out = omega arith in
          step (ap (λ (x : ℕ). with_text (with_text out at t) x u) e ∙ join_cut t u k)

-- one text after another, and a text by another name; what they are put into is found
pub then-puts : {out l m t u : List ℕ} {at a b : ℕ} → at ≤ length out → Puts out at t l a → Puts l a u m b → Puts out at (t ++ u) m b
then-puts {out} {l} {m} {t} {u} {at} {a} {b} h p q = puts_then out at h t u l m a b p q

pub puts_as : {out l t u : List ℕ} {at r : ℕ} → u ≡ t → Puts out at t l r → Puts out at u l r
puts_as {out} {l} {at = at} {r = r} e p = subst (λ (x : List ℕ). Puts out at x l r) (sym e) p

-- a text that fits, from the start
pub puts_first : (out t l : List ℕ) (r : ℕ) → length t ≤ length out → Puts out 0 t l r → (r ≡ length t) × (take r l ≡ t)
unfolding place_after
puts_first out t l r m p =
    let e : r ≡ length t = omega (arith, p.place) in
    (e, ap₂ take e (p.bytes ∙ joined_fits out 0 zero-le t (omega arith)) ∙ take_at t _ (length t) refl)

-- a loop that puts a text byte by byte: a turn, and the end
pub puts_more : {out l m : List ℕ} {at a b : ℕ} (text : List ℕ) (i : ℕ) → at ≤ length out → i < length text
    → Puts out at (take i text) l a → Puts l a (get_or text i 0 ∷ []) m b → Puts out at (take (i + 1) text) m b
puts_more text i h k p q = puts_as (ap (λ (n : ℕ). take n text) (add-one i) ∙ take-suc text i 0 k) (then-puts h p q)

pub puts_all : {out l : List ℕ} {at a : ℕ} (text : List ℕ) (i : ℕ) → length text ≤ i → Puts out at (take i text) l a → Puts out at text l a
puts_all text i k p = puts_as (sym (take_all i text k)) p
