-- What words that are a state give.
use Rattle.std.specs.Prelude.{◌≡◌, true, ◌&&◌, List, ℕ, ◌+◌, ◌≤◌, ◌<◌, eqb, leb, length, get_or}
use Rattle.std.proofs.Common.{eqb-true, leb-true}
use Rattle.base_laws.specs.Bools.{and_left, and_right}
use Rattle.base_laws.specs.Below.{all_at}
use Rattle.c_state_words.specs.Definitions.{rest_zero, is_state}

pub record Stated (w : List ℕ) : Type 0 where
  pub long : length w ≡ 160
  pub phase : get_or w 0 0 ≤ 3
  pub flag : get_or w 3 0 ≤ 1
  pub rest : (k : ℕ) → k < 6 → get_or w (154 + k) 0 ≡ 0

pub stated : (w : List ℕ) → is_state w ≡ true → Stated w
unfolding is_state rest_zero
stated w h =
    record {
      long = eqb-true (length w) 160 (and_left (eqb (length w) 160) (leb (get_or w 0 0) 3) two);
      phase = leb-true (get_or w 0 0) 3 (and_right (eqb (length w) 160) (leb (get_or w 0 0) 3) two);
      flag = leb-true (get_or w 3 0) 1 (and_right (eqb (length w) 160 && leb (get_or w 0 0) 3) (leb (get_or w 3 0) 1) three);
      rest =
          λ k l. eqb-true (get_or w (154 + k) 0) 0
          (all_at 6 (λ i. eqb (get_or w (154 + i) 0) 0)
          (and_right (eqb (length w) 160 && leb (get_or w 0 0) 3 && leb (get_or w 3 0) 1) (rest_zero w) h) k l);
    }
  where
    three : (eqb (length w) 160 && leb (get_or w 0 0) 3 && leb (get_or w 3 0) 1) ≡ true
    three = and_left (eqb (length w) 160 && leb (get_or w 0 0) 3 && leb (get_or w 3 0) 1) (rest_zero w) h

    two : (eqb (length w) 160 && leb (get_or w 0 0) 3) ≡ true
    two = and_left (eqb (length w) 160 && leb (get_or w 0 0) 3) (leb (get_or w 3 0) 1) three
