-- Laws of numbers as text: a number's digits from the last one on, and how long a text can be.
use Rattle.std.specs.Prelude.{ℕ, zero, suc, ◌+◌, ◌-◌, ◌/◌, ◌%◌, ◌^◌, ◌≤◌, ◌<◌, Bool, true, false, cond, List, [], ◌∷◌, ◌++◌, ◌≡◌, eqb, ltb, length, take, drop, set}
use Rattle.std.proofs.Common.{⊎_elim, sym, ap, ◌∙◌, arith, length-append, length-drop, length-set, drop_of_length-le, take_all, lt-ltb, le-ltb, eq-eqb, ne_eqb}
use Rattle.std.proofs.Math.Seq.{append_snoc}
use Rattle.base_laws.specs.Tables.{drop_set}
use Rattle.base_laws.specs.Bools.{lt_or_le}
use Rattle.base_ids.specs.declared.Refusal.{Refusal}
use Rattle.base_ids.specs.Definitions.{number_in, index_in, located}
use Rattle.program_text.specs.Definitions.{digits_by, decimal, field, space, line, number_label, number_line}

-- ---- laws

-- a number with at most k + 1 digits
digits_enough : (k n : ℕ) → n < 10 ^ suc k → digits_by k n ≡ digits_by (suc k) n
unfolding digits_by
digits_enough zero n h =
    let t : ltb n 10 ≡ true = lt-ltb n 10 (omega arith) in
    let e : n % 10 ≡ n = omega arith in
    rw (t, e)
digits_enough (suc k) n h =
    let m : n / 10 < 10 ^ suc k = omega arith in
    ap (λ (l : List ℕ). cond (ltb n 10) ((48 + n) ∷ []) (l ++ ((48 + n % 10) ∷ []))) (digits_enough k (n / 10) m)

pub decimal_one : (n : ℕ) → n < 10 → decimal n ≡ (48 + n) ∷ []
unfolding decimal digits_by
decimal_one n h = rw (lt-ltb n 10 h)

-- the last digit after the others
pub decimal_more : (n : ℕ) → 10 ≤ n → n < 2 ^ 32 → decimal n ≡ decimal (n / 10) ++ ((48 + n % 10) ∷ [])
unfolding decimal digits_by
decimal_more n h m =
    ap (λ (b : Bool). cond b ((48 + n) ∷ []) (digits_by 8 (n / 10) ++ ((48 + n % 10) ∷ []))) (le-ltb n 10 h)
    ∙ ap (λ (l : List ℕ). l ++ ((48 + n % 10) ∷ [])) (digits_enough 8 (n / 10) (omega arith))

-- the digits of a number before its last one: none where it has one digit
unfoldable tens : ℕ → List ℕ
tens m = cond (eqb m 0) [] (decimal m)

-- any number is its tens and its last digit
decimal_last : (n : ℕ) → n < 2 ^ 32 → decimal n ≡ tens (n / 10) ++ ((48 + n % 10) ∷ [])
unfolding tens
decimal_last n h = ⊎_elim one more (lt_or_le n 10)
  where
    one : n < 10 → decimal n ≡ tens (n / 10) ++ ((48 + n % 10) ∷ [])
    one k =
        let z : eqb (n / 10) 0 ≡ true = eq-eqb (n / 10) 0 (omega arith) in
        let e : n % 10 ≡ n = omega arith in
        decimal_one n k ∙ rw (z, e)

    more : 10 ≤ n → decimal n ≡ tens (n / 10) ++ ((48 + n % 10) ∷ [])
    more k =
        let z : eqb (n / 10) 0 ≡ false = ne_eqb (n / 10) 0 (λ e. omega arith) in
        decimal_more n k h ∙ rw z

-- ---- a table of digits

-- the digits of n: those of `left`, then those in the table from place `first` on
pub record Digits (n : ℕ) (table : List ℕ) (first left : ℕ) : Type 0 where
  pub size : length table ≡ 10
  pub within : first ≤ 9
  pub less : left < 10 ^ first
  pub word : left < 2 ^ 32
  text : decimal n ≡ tens left ++ drop first table

-- the last digit is stored
pub digits_last : (n : ℕ) (l : List ℕ) (v : ℕ) → length l ≡ 10 → n < 2 ^ 32 → v ≡ 48 + n % 10 → Digits n (set l 9 v) 9 (n / 10)
digits_last n l v e h is =
    let none : length l ≤ 10 = omega arith in
    let end : drop 9 (set l 9 v) ≡ v ∷ [] = drop_set l 9 v (omega arith) ∙ ap (λ (r : List ℕ). v ∷ r) (drop_of_length-le l none) in
    record {
      size = length-set l 9 v ∙ e;
      within = omega arith;
      less = omega arith;
      word = omega arith;
      text = decimal_last n h ∙ ap (λ (r : List ℕ). tens (n / 10) ++ r) (sym (end ∙ ap (λ (k : ℕ). k ∷ []) is));
    }

-- a digit more
digits_stored : (n : ℕ) (l : List ℕ) (first left v : ℕ) → Digits n l (suc first) left → 0 < left → v ≡ 48 + left % 10
    → Digits n (set l first v) first (left / 10)
unfolding tens
digits_stored n l first left v d h is =
    let k : left < 10 ^ suc first = d.less in
    let z : eqb left 0 ≡ false = ne_eqb left 0 (λ e. omega arith) in
    let all : tens left ≡ tens (left / 10) ++ (v ∷ []) =
    ap (λ (b : Bool). cond b [] (decimal left)) z ∙ decimal_last left d.word ∙ ap (λ (i : ℕ). tens (left / 10) ++ (i ∷ [])) (sym is) in
    record {
      size = length-set l first v ∙ d.size;
      within = omega arith;
      less = omega arith;
      word = omega arith;
      text =
          d.text ∙ ap (λ (r : List ℕ). r ++ drop (suc first) l) all ∙ append_snoc (tens (left / 10)) v (drop (suc first) l)
          ∙ ap (λ (r : List ℕ). tens (left / 10) ++ r) (sym (drop_set l first v (omega arith)));
    }

pub digits_more : (n : ℕ) (l : List ℕ) (first left v : ℕ) → Digits n l first left → 0 < left → v ≡ 48 + left % 10
    → Digits n (set l (first - 1) v) (first - 1) (left / 10)
digits_more n l zero left v d h is = absurd (omega arith)
digits_more n l (suc k) left v d h is = let e : suc k - 1 ≡ k = omega arith in rw e (digits_stored n l k left v d h is)

-- while anything is left there is room
pub digits_room : {n : ℕ} {l : List ℕ} {first left : ℕ} → Digits n l first left → 0 < left → 1 ≤ first
digits_room {first = zero} d h = absurd (omega arith)
digits_room {first = suc k} d h = omega arith

-- nothing is left
pub digits_all : (n : ℕ) (l : List ℕ) (first left : ℕ) → Digits n l first left → left ≤ 0 → decimal n ≡ take (10 - first) (drop first l)
unfolding tens
digits_all n l first left d h =
    let z : eqb left 0 ≡ true = eq-eqb left 0 (omega arith) in
    d.text ∙ ap (λ (b : Bool). cond b [] (decimal left) ++ drop first l) z
    ∙ sym (take_all (10 - first) (drop first l) (omega (arith, length-drop first l)))

-- ---- a text is no longer than

short : (b : Bool) (s t : List ℕ) (n : ℕ) → length s ≤ n → length t ≤ n → length (cond b s t) ≤ n
short true s t n p q = p
short false s t n p q = q

digits_length : (k n : ℕ) → length (digits_by k n) ≤ k + 1
unfolding digits_by
digits_length zero n = omega arith
digits_length (suc k) n =
    short (ltb n 10) _ _ (suc k + 1) (omega arith)
    (omega (arith, digits_length k (n / 10), length-append (digits_by k (n / 10)) ((48 + n % 10) ∷ [])))

pub decimal_length : (n : ℕ) → length (decimal n) ≤ 10
unfolding decimal
decimal_length n = digits_length 9 n

pub field_length : (label : List ℕ) (n : ℕ) → length (field label n) ≤ length label + 10
unfolding field
field_length label n = omega (arith, length-append label (decimal n), decimal_length n)

pub line_length : (label : List ℕ) (n : ℕ) → length (line label n) ≤ length label + 11
unfolding line
line_length label n = omega (arith, length-append (field label n) (10 ∷ []), field_length label n)

pub number_line_length : (r : Refusal) → length (number_line r) ≤ 29
unfolding number_line
number_line_length r =
    short (located (number_in r)) _ _ 29
    (omega (arith, length-append (field number_label (number_in r)) (line space (index_in r)), field_length number_label (number_in r), line_length space (index_in r)))
    (omega (arith, line_length number_label (number_in r)))

-- ---- the line of a refusal, by whether its number tells a record

module _ (r : Refusal) (b : Bool) (e : b ≡ located (number_in r)) where
  pub number_with_index : b ≡ true → field number_label (number_in r) ++ line space (index_in r) ≡ number_line r
  unfolding number_line
  number_with_index h = rw (sym e ∙ h)

  pub number_alone : b ≡ false → line number_label (number_in r) ≡ number_line r
  unfolding number_line
  number_alone h = rw (sym e ∙ h)
