-- Laws of lists made element by element. A loop that stores f i at i turns l into `filled n f l`.
use Rattle.std.specs.Prelude.{◌≡◌, ◌⊎◌, take, replicate}
use Rattle.std.proofs.Math.Path.{refl, sym, ap, ap₂, subst⁻¹}
use Rattle.std.proofs.Common.{◌∙◌, subst, inl, inr, ⊎_elim, le_refl, le_of_suc-le-suc, not-suc-le-zero, eq-or-lt_of_le, add-zero, add-suc, ext_get_or, drop_at, get_or-append-add, length-take-le, get_or-set_same, get_or-set_other, drop-cons, drop-drop}
use mathlib.Core.List.{List, [], ◌∷◌, ◌++◌, append_assoc, append-nil}
use Prim.Native.Nat.{ℕ, zero, suc, ◌+◌, ◌-◌, ◌≤◌, ◌<◌}
use Rattle.std.proofs.Math.Numerals.{add-one}
use native.Mathlib.Omega.{arith}
use Rattle.std.proofs.Math.ListN.{length, get_or, set, drop, length-append, length-take, length-drop, get_or-eq_default, get_or-append}
use Rattle.std.proofs.lemmas.List.{replicate-append-replicate, length-replicate, get_or-replicate, set_split}
use Rattle.std.proofs.Math.Seq.{take-nil, get_or-take, get_or-drop, get_or_at, set_at, drop-length, append_snoc}
use borrow.Rule.Slice.PartMut.{put_mid}
use Rattle.base_laws.specs.Bools.{eq_or_ne}
use Rattle.base_laws.specs.Definitions.{tabulate, part, padded, replaced}

-- l with its first n elements replaced by f 0, f 1, .. f (n - 1)
unfoldable pub filled {ℓ} : {A : Type ℓ} → ℕ → (ℕ → A) → List A → List A
filled n f l = tabulate n f ++ drop n l

module _ {ℓ} {A : Type ℓ} where
  -- an element past the first list
  pub get_or_append_past : (xs ys : List A) (k : ℕ) (d : A) → length xs ≤ k → get_or (xs ++ ys) k d ≡ get_or ys (k - length xs) d
  get_or_append_past xs ys k d h =
      let at : length xs + (k - length xs) ≡ k = omega arith in
      ap (λ (x : ℕ). get_or (xs ++ ys) x d) (sym at) ∙ get_or-append-add xs ys (k - length xs) d

  -- ---- tabulate

  pub length_tabulate : (n : ℕ) (f : ℕ → A) → length (tabulate n f) ≡ n
  unfolding tabulate
  length_tabulate zero f = refl
  length_tabulate (suc n) f =
      length-append (tabulate n f) (f n ∷ []) ∙ ap (λ (k : ℕ). k + 1) (length_tabulate n f) ∙ add-one n

  pub tabulate_step : (n : ℕ) (f : ℕ → A) → tabulate (n + 1) f ≡ tabulate n f ++ (f n ∷ [])
  unfolding tabulate
  tabulate_step n f = ap (λ (k : ℕ). tabulate k f) (add-one n)

  pub get_d_tabulate : (n : ℕ) (f : ℕ → A) (k : ℕ) (d : A) → k < n → get_or (tabulate n f) k d ≡ f k
  unfolding tabulate
  get_d_tabulate zero f k d l = absurd (not-suc-le-zero l)
  get_d_tabulate (suc n) f k d l = go (get_d_tabulate n f k d) (eq-or-lt_of_le (le_of_suc-le-suc l))
    where
      go : (k < n → get_or (tabulate n f) k d ≡ f k) → (k ≡ n) ⊎ (k < n) → get_or (tabulate n f ++ (f n ∷ [])) k d ≡ f k
      go rest (inl e) = get_or_at (tabulate n f) (f n) [] d k (length_tabulate n f ∙ sym e) ∙ ap f (sym e)
      go rest (inr m) =
          get_or-append (tabulate n f) (f n ∷ []) d k (subst⁻¹ (λ (x : ℕ). k < x) (length_tabulate n f) m) ∙ rest m

  pub get_or_tabulate_past : (n : ℕ) (f : ℕ → A) (k : ℕ) (d : A) → n ≤ k → get_or (tabulate n f) k d ≡ d
  get_or_tabulate_past n f k d l = get_or-eq_default (tabulate n f) d (subst⁻¹ (λ (x : ℕ). x ≤ k) (length_tabulate n f) l)

  -- a list of that length and those elements
  pub tabulate_ext : (d : A) (n : ℕ) (f : ℕ → A) (l : List A) → length l ≡ n → ((k : ℕ) → k < n → get_or l k d ≡ f k) → l ≡ tabulate n f
  tabulate_ext d n f l e h =
      ext_get_or d l (tabulate n f) (e ∙ sym (length_tabulate n f))
      (λ k i. let j : k < n = subst (λ (x : ℕ). k < x) e i in h k j ∙ sym (get_d_tabulate n f k d j))

  pub tabulate_cong : (n : ℕ) (f g : ℕ → A) → ((k : ℕ) → k < n → f k ≡ g k) → tabulate n f ≡ tabulate n g
  unfolding tabulate
  tabulate_cong zero f g h = refl
  tabulate_cong (suc n) f g h =
      ap₂ (λ (l : List A) (x : A). l ++ (x ∷ [])) (tabulate_cong n f g (λ k l. h k (omega arith))) (h n (le_refl (suc n)))

  -- a list is the table of its elements
  pub tabulate_self : (d : A) (l : List A) → tabulate (length l) (λ k. get_or l k d) ≡ l
  tabulate_self d l = sym (tabulate_ext d (length l) (λ k. get_or l k d) l refl (λ k i. refl))

  -- a table in two parts
  pub tabulate_add : (m n : ℕ) (f : ℕ → A) → tabulate (m + n) f ≡ tabulate m f ++ tabulate n (λ k. f (m + k))
  unfolding tabulate
  tabulate_add m zero f = ap (λ (k : ℕ). tabulate k f) (add-zero m) ∙ sym (append-nil (tabulate m f))
  tabulate_add m (suc n) f =
      ap (λ (k : ℕ). tabulate k f) (add-suc m n)
      ∙ ap (λ (l : List A). l ++ (f (m + n) ∷ [])) (tabulate_add m n f)
      ∙ append_assoc (tabulate m f) (tabulate n (λ k. f (m + k))) (f (m + n) ∷ [])

  -- ---- a loop that stores an element a turn

  -- what is stored below i, and the store at i
  pub set_more : (d : A) (f : ℕ → A) (l : List A) (i : ℕ) (v : A) → i < length l → v ≡ f i
      → ((k : ℕ) → k < i → get_or l k d ≡ f k) → (k : ℕ) → k < i + 1 → get_or (set l i v) k d ≡ f k
  set_more d f l i v h e below k m = go (eq_or_ne k i)
    where
      go : (k ≡ i) ⊎ (k ≡ i → ⊥) → get_or (set l i v) k d ≡ f k
      go (inl q) = subst⁻¹ (λ (x : ℕ). get_or (set l i v) x d ≡ f x) q (get_or-set_same l i v d h ∙ e)
      go (inr q) = get_or-set_other l i k v d q ∙ below k (omega arith)

  -- what stands from a stored value on
  pub drop_set : (l : List A) (i : ℕ) (v : A) → i < length l → drop i (set l i v) ≡ v ∷ drop (suc i) l
  drop_set l i v h =
      ap (drop i) (set_split l i v h) ∙ drop_at (take i l) (v ∷ drop (suc i) l) i (length-take-le i l (omega arith))

  -- ---- filled

  pub filled_none : (f : ℕ → A) (l : List A) → filled 0 f l ≡ l
  unfolding filled tabulate
  filled_none f l = refl

  -- a turn: the store at i
  pub filled_more : (i : ℕ) (f : ℕ → A) (l : List A) → i < length l → set (filled i f l) i (f i) ≡ filled (i + 1) f l
  unfolding filled tabulate
  filled_more i f l h =
      ap (λ (r : List A). set (tabulate i f ++ r) i (f i)) (drop-cons l i (f i) h)
      ∙ set_at (tabulate i f) (get_or l i (f i)) (drop (suc i) l) (f i) i (length_tabulate i f)
      ∙ sym (append_snoc (tabulate i f) (f i) (drop (suc i) l))
      ∙ ap (λ (k : ℕ). tabulate k f ++ drop k l) (sym (add-one i))

  -- the last turn
  pub filled_all : (n : ℕ) (f : ℕ → A) (l : List A) → length l ≡ n → filled n f l ≡ tabulate n f
  unfolding filled
  filled_all n f l e =
      ap (λ (r : List A). tabulate n f ++ r) (ap (λ (k : ℕ). drop k l) (sym e) ∙ drop-length l) ∙ append-nil (tabulate n f)

  pub length_filled : (n : ℕ) (f : ℕ → A) (l : List A) → n ≤ length l → length (filled n f l) ≡ length l
  unfolding filled
  length_filled n f l h =
      length-append (tabulate n f) (drop n l)
      ∙ omega (arith, length_tabulate n f, length-drop n l)

  pub get_or_filled : (n : ℕ) (f : ℕ → A) (l : List A) (k : ℕ) (d : A) → k < n → get_or (filled n f l) k d ≡ f k
  unfolding filled
  get_or_filled n f l k d h =
      get_or-append (tabulate n f) (drop n l) d k (subst⁻¹ (λ (x : ℕ). k < x) (length_tabulate n f) h) ∙ get_d_tabulate n f k d h

  pub get_or_filled_rest : (n : ℕ) (f : ℕ → A) (l : List A) (k : ℕ) (d : A) → n ≤ k → get_or (filled n f l) k d ≡ get_or l k d
  unfolding filled
  get_or_filled_rest n f l k d h =
      let back : n + (k - length (tabulate n f)) ≡ k = omega (arith, length_tabulate n f) in
      get_or_append_past (tabulate n f) (drop n l) k d (subst⁻¹ (λ (x : ℕ). x ≤ k) (length_tabulate n f) h)
      ∙ get_or-drop n l (k - length (tabulate n f)) d
      ∙ ap (λ (x : ℕ). get_or l x d) back

  -- ---- an array made by `[v; n]` and filled from the front

  module _ (n : ℕ) (v : A) (f : ℕ → A) where
    -- a table of one value
    pub tabulate_same : ((k : ℕ) → k < n → v ≡ f k) → replicate n v ≡ tabulate n f
    tabulate_same h = tabulate_ext v n f (replicate n v) (length-replicate n v) (λ k l. get_or-replicate n k v v l ∙ h k l)

  -- ---- part

  pub length_part : (a e : ℕ) (l : List A) → e ≤ length l → length (part a e l) ≡ e - a
  length_part a e l h = length-take (e - a) (drop a l) ∙ omega (arith, length-drop a l)

  pub get_d_part : (a e : ℕ) (l : List A) (k : ℕ) (d : A) → k < e - a → get_or (part a e l) k d ≡ get_or l (a + k) d
  get_d_part a e l k d h = get_or-take (e - a) (drop a l) k d h ∙ get_or-drop a l k d

  -- a part from 0 on, and a part as the end of the front
  pub part_front : (n : ℕ) (l : List A) → part 0 n l ≡ take n l
  part_front n l = let e : n - 0 ≡ n = omega arith in rw e

  pub part_end : (a e : ℕ) (l : List A) → part a e l ≡ drop a (take e l)
  part_end zero e l = part_front e l
  part_end (suc a) e [] = take-nil (e - suc a) ∙ sym (ap (drop (suc a)) (take-nil e))
  part_end (suc a) zero (x ∷ l) = let d : 0 - suc a ≡ 0 = omega arith in rw d
  part_end (suc a) (suc e) (x ∷ l) = let d : suc e - suc a ≡ e - a = omega arith in rw d (part_end a e l)

  -- a part lent by its start and its length
  pub part_of : (d : A) (a n : ℕ) (l : List A) → a + n ≤ length l → take n (drop a l) ≡ tabulate n (λ k. get_or l (a + k) d)
  part_of d a n l h =
      tabulate_ext d n (λ k. get_or l (a + k) d) (take n (drop a l))
      (length-take n (drop a l) ∙ omega (arith, length-drop a l)) (λ k i. get_or-take n (drop a l) k d i ∙ get_or-drop a l k d)

  -- ---- replaced

  pub length_replaced : (a : ℕ) (ys l : List A) → a + length ys ≤ length l → length (replaced a ys l) ≡ length l
  unfolding replaced
  length_replaced a ys l h =
      length-append (take a l) (ys ++ drop (a + length ys) l)
      ∙ omega (arith, length-take a l, length-append ys (drop (a + length ys) l), length-drop (a + length ys) l)

  pub get_or_replaced_low : (a : ℕ) (ys l : List A) (k : ℕ) (d : A) → a ≤ length l → k < a → get_or (replaced a ys l) k d ≡ get_or l k d
  unfolding replaced
  get_or_replaced_low a ys l k d h i =
      get_or-append (take a l) (ys ++ drop (a + length ys) l) d k (omega (arith, length-take a l)) ∙ get_or-take a l k d i

  pub get_or_replaced : (a : ℕ) (ys l : List A) (k : ℕ) (d : A) → a ≤ length l → k < length ys → get_or (replaced a ys l) (a + k) d ≡ get_or ys k d
  unfolding replaced
  get_or_replaced a ys l k d h i =
      let at : a + k - length (take a l) ≡ k = omega (arith, length-take a l) in
      get_or_append_past (take a l) (ys ++ drop (a + length ys) l) (a + k) d (omega (arith, length-take a l))
      ∙ ap (λ (x : ℕ). get_or (ys ++ drop (a + length ys) l) x d) at
      ∙ get_or-append ys (drop (a + length ys) l) d k i

  pub get_or_replaced_high : (a : ℕ) (ys l : List A) (k : ℕ) (d : A) → a ≤ length l → a + length ys ≤ k
      → get_or (replaced a ys l) k d ≡ get_or l k d
  unfolding replaced
  get_or_replaced_high a ys l k d h i =
      let at : k - length (take a l) ≡ k - a = omega (arith, length-take a l) in
      let back : a + length ys + (k - a - length ys) ≡ k = omega arith in
      get_or_append_past (take a l) (ys ++ drop (a + length ys) l) k d (omega (arith, length-take a l))
      ∙ ap (λ (x : ℕ). get_or (ys ++ drop (a + length ys) l) x d) at
      ∙ get_or_append_past ys (drop (a + length ys) l) (k - a) d (omega arith)
      ∙ get_or-drop (a + length ys) l (k - a - length ys) d
      ∙ ap (λ (x : ℕ). get_or l x d) back

  -- the part that was put in, and a part apart from it
  pub part_replaced : (d : A) (a n : ℕ) (ys l : List A) → length ys ≡ n → a + n ≤ length l → take n (drop a (replaced a ys l)) ≡ ys
  part_replaced d a n ys l e h =
      part_of d a n (replaced a ys l) (omega (arith, length_replaced a ys l (omega arith)))
      ∙ sym (tabulate_ext d n (λ k. get_or (replaced a ys l) (a + k) d) ys e (λ k i. sym (get_or_replaced a ys l k d (omega arith) (omega arith))))

  pub part_apart : (d : A) (a b n : ℕ) (ys l : List A) → a + length ys ≤ length l → b + n ≤ length l
      → (b + n ≤ a) ⊎ (a + length ys ≤ b) → take n (drop b (replaced a ys l)) ≡ take n (drop b l)
  part_apart d a b n ys l h m apart =
      part_of d b n (replaced a ys l) (omega (arith, length_replaced a ys l h))
      ∙ tabulate_cong n (λ k. get_or (replaced a ys l) (b + k) d) (λ k. get_or l (b + k) d)
      (λ k i. ⊎_elim (λ j. get_or_replaced_low a ys l (b + k) d (omega arith) (omega arith))
      (λ j. get_or_replaced_high a ys l (b + k) d (omega arith) (omega arith)) apart)
      ∙ sym (part_of d b n l m)

-- what a function that lends `&mut l[a..a + n]` leaves in l
pub put_replaced : {A : Type 0} (a n : ℕ) (l ys : List A) → length ys ≡ n → put_mid a n l ys ≡ replaced a ys l
unfolding replaced
put_replaced {A} a n l ys e =
    ap (λ (r : List A). take a l ++ (ys ++ r)) (drop-drop n a l ∙ ap (λ (k : ℕ). drop (a + k) l) (sym e))

-- ---- padded

pub length_padded : (n : ℕ) (ws : List ℕ) → length (padded n ws) ≡ n
unfolding padded
length_padded n ws = length_tabulate n (λ k. get_or ws k 0)

pub get_or_padded : (n : ℕ) (ws : List ℕ) (k : ℕ) → k < n → get_or (padded n ws) k 0 ≡ get_or ws k 0
unfolding padded
get_or_padded n ws k h = get_d_tabulate n (λ j. get_or ws j 0) k 0 h

pub padded_ext : (n : ℕ) (ws l : List ℕ) → length l ≡ n → ((k : ℕ) → k < n → get_or l k 0 ≡ get_or ws k 0) → l ≡ padded n ws
unfolding padded
padded_ext n ws l e h = tabulate_ext 0 n (λ k. get_or ws k 0) l e h

-- ---- tables of zeros

-- n zeros
abbrev pub zeros : ℕ → List ℕ
zeros n = replicate n 0

-- what is left of a list of zeros
pub zeros_left : (m n : ℕ) → n ≤ m → drop n (zeros m) ≡ zeros (m - n)
zeros_left m n l =
    let sum : n + (m - n) ≡ m = omega arith in
    let parts : zeros n ++ zeros (m - n) ≡ zeros m = replicate-append-replicate n (m - n) 0 ∙ ap zeros sum in
    ap (drop n) (sym parts) ∙ drop_at (zeros n) (zeros (m - n)) n (length-replicate n 0)
