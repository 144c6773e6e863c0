-- How the recursion over the undecided nodes stores the row of every mask of held nodes. q: what waits 1 to 4 say of each mask.
use Rattle.std.specs.Prelude.{ℕ, suc, ◌+◌, ◌^◌, ◌<◌, ◌≤◌, List, ◌⊎◌, ◌≡◌, refl, length, get_or, set, replicate}
use Rattle.std.proofs.Common.{inl, inr, ⊎_elim, sym, ap, ◌∙◌, subst, arith, lt_of_lt_of_le, pow-suc, pow_mono, pow_pos, get_or-set_same, get_or-set_other}
use Rattle.std.proofs.lemmas.List.{get_or-replicate, length-replicate}
use Rattle.std.proofs.Math.ListN.{get_or-eq_default}
use Rattle.base_laws.specs.Bools.{lt_or_le}
use Rattle.base_laws.specs.Tables.{tabulate_ext}
use Rattle.settings_values.specs.Definitions.{nodes}
use Rattle.report_views.specs.declared.Layout.{Layout}
use Rattle.report_views.specs.declared.Quorum.{Quorum}
use Rattle.plan_masks.specs.Masks.{quorum_in}
use Rattle.plan_masks.specs.Definitions.{Numbered, Rows}
use Rattle.plan_masks.specs.Numbered.{numbered_one}

-- what the masks of the nodes that count say of each mask of held nodes
abbrev pub masks_say : List ℕ → Layout → List ℕ → ℕ → Quorum
masks_say σ v ms h = quorum_in σ v h ms

-- the rows of the masks from up to up + 2 ^ k are stored, the others are as they were
pub record RowsFilled (σ : List ℕ) (q : ℕ → Quorum) (k up : ℕ) (l m : List ℕ) : Type 0 where
  pub stored : (h : ℕ) → up ≤ h → h < up + 2 ^ k → Numbered σ h (q h) (get_or m h 0)
  pub others : (h : ℕ) → (h < up) ⊎ (up + 2 ^ k ≤ h) → get_or m h 0 ≡ get_or l h 0

-- ---- laws

-- rows by what is said of each mask, in whatever words
pub rows_said : (σ : List ℕ) (q p : ℕ → Quorum) (l : List ℕ) → ((h : ℕ) → h < 2 ^ nodes σ → q h ≡ p h) → Rows σ q l → Rows σ p l
rows_said σ q p l same r =
    record {
      size = r.size;
      each = λ h i. subst (λ (x : Quorum). Numbered σ h x (get_or l h 0)) (same h i) (r.each h i);
      rest = r.rest;
    }

-- there is one list of rows
pub rows_one : (σ : List ℕ) (q : ℕ → Quorum) (l m : List ℕ) → Rows σ q l → Rows σ q m → l ≡ m
rows_one σ q l m a b =
    tabulate_ext 0 1024 (λ h. get_or m h 0) l a.size (λ h i. at h (lt_or_le h (2 ^ nodes σ)))
    ∙ sym (tabulate_ext 0 1024 (λ h. get_or m h 0) m b.size (λ h i. refl))
  where
    at : (h : ℕ) → (h < 2 ^ nodes σ) ⊎ (2 ^ nodes σ ≤ h) → get_or l h 0 ≡ get_or m h 0
    at h (inl i) = numbered_one σ h (q h) (get_or l h 0) (get_or m h 0) (a.each h i) (b.each h i)
    at h (inr i) = a.rest h i ∙ sym (b.rest h i)

pub double : (k j : ℕ) → k ≡ j + 1 → 2 ^ k ≡ 2 ^ j + 2 ^ j
double k j e = ap (λ (x : ℕ). 2 ^ x) (e ∙ (let z : j + 1 ≡ suc j = omega arith in z)) ∙ (let z = pow-suc 2 j in omega arith)

module _ (σ : List ℕ) (q : ℕ → Quorum) where
  pub filled_one : (k up x : ℕ) (l : List ℕ) → k ≡ 0 → up < length l → Numbered σ up (q up) x → RowsFilled σ q k up l (set l up x)
  filled_one k up x l e i n =
      let one : 2 ^ k ≡ 1 = ap (λ (j : ℕ). 2 ^ j) e in
      record {
        stored = λ h a b.
            let same : h ≡ up = omega arith in
            subst (λ (y : ℕ). Numbered σ y (q y) (get_or (set l up x) y 0)) (sym same)
            (subst (λ (y : ℕ). Numbered σ up (q up) y) (sym (get_or-set_same l up x 0 i)) n);
        others = λ h a. get_or-set_other l up h x 0 (other h one a);
      }
    where
      other : (h : ℕ) → 2 ^ k ≡ 1 → (h < up) ⊎ (up + 2 ^ k ≤ h) → h ≡ up → ⊥
      other h one (inl a) s = omega arith
      other h one (inr a) s = omega arith

  pub filled_two : (k j up high : ℕ) (l m n : List ℕ) → k ≡ j + 1 → high ≡ up + 2 ^ j → RowsFilled σ q j up l m → RowsFilled σ q j high m n
      → RowsFilled σ q k up l n
  filled_two k j up high l m n e f a b =
      let two = double k j e in
      record {
        stored = λ h from to. ⊎_elim
            (λ i. subst (λ (y : ℕ). Numbered σ h (q h) y) (sym (b.others h (inl (omega arith)))) (a.stored h from i))
            (λ i. b.stored h (omega arith) (omega arith)) (lt_or_le h (up + 2 ^ j));
        others = λ h o. b.others h (out h two o) ∙ a.others h (far h two o);
      }
    where
      out : (h : ℕ) → 2 ^ k ≡ 2 ^ j + 2 ^ j → (h < up) ⊎ (up + 2 ^ k ≤ h) → (h < high) ⊎ (high + 2 ^ j ≤ h)
      out h two (inl o) = inl (omega arith)
      out h two (inr o) = inr (omega arith)

      far : (h : ℕ) → 2 ^ k ≡ 2 ^ j + 2 ^ j → (h < up) ⊎ (up + 2 ^ k ≤ h) → (h < up) ⊎ (up + 2 ^ j ≤ h)
      far h two (inl o) = inl o
      far h two (inr o) = inr (omega arith)

-- every mask has its place
pub mask_place : (n h : ℕ) → n ≤ 10 → h < 2 ^ n → h < 1024
mask_place n h few l = lt_of_lt_of_le l (pow_mono {j = 10} few)

-- both halves fit
pub record Room (n j up : ℕ) : Type 0 where
  pub low : up + 2 ^ j ≤ 2 ^ n
  pub high : up + 2 ^ j + 2 ^ j ≤ 2 ^ n
  pub fits : up + 2 ^ j < 4294967296
  pub small : j < 10

pub room : (n k j up : ℕ) → n ≤ 10 → k ≤ n → up + 2 ^ k ≤ 2 ^ n → k ≡ j + 1 → Room n j up
room n k j up few le r e =
    let two = double k j e in
    let top : 2 ^ n ≤ 1024 = pow_mono {j = 10} few in
    record { low = omega arith; high = omega arith; fits = omega arith; small = omega arith }

pub first_mask : (n k up : ℕ) → up + 2 ^ k ≤ 2 ^ n → up < 2 ^ n
first_mask n k up r = let z : 0 < 2 ^ k = pow_pos k in omega arith

pub rows_all : (σ : List ℕ) (q : ℕ → Quorum) (l m : List ℕ) (k : ℕ) → k ≡ nodes σ → ((h : ℕ) → get_or l h 0 ≡ 0) → length m ≡ 1024
    → RowsFilled σ q k 0 l m → Rows σ q m
rows_all σ q l m k e zeros size f =
    let p : 2 ^ k ≡ 2 ^ nodes σ = ap (λ (x : ℕ). 2 ^ x) e in
    record {
      size = size;
      each = λ h i. f.stored h (omega arith) (omega arith);
      rest = λ h i. f.others h (inr (omega arith)) ∙ zeros h;
    }

-- before the first row is stored
pub zeros_at : (h : ℕ) → ◌≡◌ {A = ℕ} (get_or (replicate 1024 0) h 0) 0
zeros_at h = ⊎_elim (λ l. get_or-replicate {A = ℕ} 1024 h 0 0 l) past (lt_or_le h 1024)
  where
    past : 1024 ≤ h → ◌≡◌ {A = ℕ} (get_or (replicate 1024 0) h 0) 0
    past l = get_or-eq_default (replicate 1024 0) 0 {n = h} (omega (arith, length-replicate {A = ℕ} 1024 0))

pub none_up : (k n : ℕ) → k ≡ n → 0 + 2 ^ k ≤ 2 ^ n
none_up k n e = let z : 2 ^ k ≡ 2 ^ n = ap (λ (x : ℕ). 2 ^ x) e in omega arith
