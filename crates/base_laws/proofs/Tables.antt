-- Laws of lists made element by element. A loop that stores f i at i turns l into `filled n f l`.
use Rattle.std.specs.Prelude.{◌≡◌, cond, ltb, take, drop, replicate}
use Rattle.std.proofs.Math.Path.{sym, ap, ap₂}
use Rattle.std.proofs.Common.{◌∙◌, ⊎_elim, le_antisymm, ext_get_or, take_at, lt-ltb, le-ltb}
use mathlib.Core.List.{List, ◌++◌}
use Prim.Native.Nat.{ℕ, ◌+◌, ◌-◌, ◌≤◌, ◌<◌}
use native.Mathlib.Omega.{arith}
use Rattle.std.proofs.Math.ListN.{length, get_or, set, length-append, get_or-eq_default, get_or-append}
use Rattle.std.proofs.lemmas.List.{length-replicate, get_or-replicate, drop-replicate}
use Rattle.base_laws.specs.Bools.{lt_or_le}
use Rattle.base_laws.specs.Definitions.{tabulate, padded}
use Rattle.base_laws.specs.Tables.{filled, get_or_append_past, get_or_tabulate_past, tabulate_ext, filled_none, filled_more, filled_all, length_filled, get_or_filled, get_or_filled_rest, get_or_padded, padded_ext, zeros}

module _ {ℓ} {A : Type ℓ} where
  -- a turn of a loop whose list is what was filled so far
  pub filled_turn : (i : ℕ) (f : ℕ → A) (l m : List A) (v : A) → i < length l → m ≡ filled i f l → v ≡ f i
      → set m i v ≡ filled (i + 1) f l
  filled_turn i f l m v h e q = ap₂ (λ (r : List A) (x : A). set r i x) e q ∙ filled_more i f l h

  -- the end of a loop that filled all
  pub filled_end : (n : ℕ) (f : ℕ → A) (l m : List A) (k : ℕ) → length l ≡ n → k ≤ n → n ≤ k → m ≡ filled k f l → m ≡ tabulate n f
  filled_end n f l m k e i j h = h ∙ ap (λ (x : ℕ). filled x f l) (le_antisymm i j) ∙ filled_all n f l e

  -- a list of l's length with f below n and l's own elements from n on
  pub filled_ext : (d : A) (n : ℕ) (f : ℕ → A) (l m : List A) → n ≤ length l → length m ≡ length l
      → ((k : ℕ) → k < n → get_or m k d ≡ f k) → ((k : ℕ) → n ≤ k → get_or m k d ≡ get_or l k d) → m ≡ filled n f l
  filled_ext d n f l m h e low high =
      ext_get_or d m (filled n f l) (e ∙ sym (length_filled n f l h))
      (λ k i. ⊎_elim (λ j. low k j ∙ sym (get_or_filled n f l k d j)) (λ j. high k j ∙ sym (get_or_filled_rest n f l k d j)) (lt_or_le k n))

  -- ---- an array made by `[v; n]` and filled from the front

  module _ (n : ℕ) (v : A) (f : ℕ → A) where
    pub fill_start : replicate n v ≡ filled 0 f (replicate n v)
    fill_start = sym (filled_none f (replicate n v))

    pub fill_turn : (i : ℕ) (m : List A) (w : A) → i < n → m ≡ filled i f (replicate n v) → w ≡ f i → set m i w ≡ filled (i + 1) f (replicate n v)
    fill_turn i m w l e d = filled_turn i f (replicate n v) m w (omega (arith, length-replicate n v)) e d

    pub fill_end : (i : ℕ) (m : List A) → i ≤ n → n ≤ i → m ≡ filled i f (replicate n v) → m ≡ tabulate n f
    fill_end i m l k e = filled_end n f (replicate n v) m i (length-replicate n v) l k e

-- nothing is cut off: every element is the list's own
pub get_or_padded_all : (n : ℕ) (ws : List ℕ) (k : ℕ) → length ws ≤ n → get_or (padded n ws) k 0 ≡ get_or ws k 0
unfolding padded
get_or_padded_all n ws k h =
    ⊎_elim (λ l. get_or_padded n ws k l)
    (λ l. get_or_tabulate_past n (λ j. get_or ws j 0) k 0 l ∙ sym (get_or-eq_default ws 0 (omega arith)))
    (lt_or_le k n)

-- the zeros, written out
pub padded_append : (n : ℕ) (ws : List ℕ) → length ws ≤ n → ws ++ replicate (n - length ws) 0 ≡ padded n ws
unfolding padded
padded_append n ws h =
    padded_ext n ws (ws ++ replicate (n - length ws) 0)
    (length-append ws (replicate (n - length ws) 0) ∙ omega (arith, length-replicate {A = ℕ} (n - length ws) 0))
    (λ k i. ⊎_elim (λ j. get_or-append ws (replicate (n - length ws) 0) 0 k j) (λ j. zeros k i j) (lt_or_le k (length ws)))
  where
    zeros : (k : ℕ) → k < n → length ws ≤ k → get_or (ws ++ replicate (n - length ws) 0) k 0 ≡ get_or ws k 0
    zeros k i j =
        get_or_append_past ws (replicate (n - length ws) 0) k 0 j
        ∙ get_or-replicate (n - length ws) (k - length ws) 0 0 (omega arith)
        ∙ sym (get_or-eq_default ws 0 j)

-- the words copied over the first of the zeros
pub padded_copied : (n : ℕ) (ws front : List ℕ) → length ws ≤ n → front ≡ ws → front ++ drop (length ws) (replicate n 0) ≡ padded n ws
padded_copied n ws front h e = ap₂ ◌++◌ e (drop-replicate (length ws) n 0) ∙ padded_append n ws h

-- a loop that stores the words before zeros
pub padded_stored : (n : ℕ) (ws : List ℕ) (i : ℕ) (l : List ℕ) → length ws ≤ n → i ≤ length ws → length ws ≤ i
    → l ≡ filled i (λ k. get_or ws k 0) (replicate n 0) → l ≡ padded n ws
padded_stored n ws i l h m k e =
    padded_ext n ws l (ap length e ∙ length_filled i f (replicate n 0) (omega (arith, size)) ∙ size) at
  where
    f : ℕ → ℕ
    f j = get_or ws j 0

    size : length (replicate {A = ℕ} n 0) ≡ n
    size = length-replicate {A = ℕ} n 0

    at : (j : ℕ) → j < n → get_or l j 0 ≡ get_or ws j 0
    at j b =
        ap (λ (x : List ℕ). get_or x j 0) e
        ∙ ⊎_elim (λ a. get_or_filled i f (replicate n 0) j 0 a)
        (λ a. get_or_filled_rest i f (replicate n 0) j 0 a ∙ get_or-replicate n j 0 0 b ∙ sym (get_or-eq_default ws 0 (omega arith)))
        (lt_or_le j i)

-- the front of padded words is the words
pub front_padded : (m n : ℕ) (ws : List ℕ) → length ws ≤ m → n ≡ length ws → take n (padded m ws) ≡ ws
front_padded m n ws h e = ap (take n) (sym (padded_append m ws h)) ∙ take_at ws _ n (sym e)

-- a list that was filled below count, and v from there on
pub filled_else : {A : Type 0} (v : A) (n count : ℕ) (f : ℕ → A) → count ≤ n
    → filled count f (replicate n v) ≡ tabulate n (λ k. cond (ltb k count) (f k) v)
filled_else v n count f l =
    tabulate_ext v n (λ k. cond (ltb k count) (f k) v) (filled count f (replicate n v))
    (length_filled count f (replicate n v) (omega (arith, length-replicate n v)) ∙ length-replicate n v)
    (λ k m.
    ⊎_elim (λ i. get_or_filled count f (replicate n v) k v i ∙ rw (lt-ltb k count i))
    (λ i. get_or_filled_rest count f (replicate n v) k v i ∙ get_or-replicate n k v v m ∙ rw (le-ltb k count i))
    (lt_or_le k count))
