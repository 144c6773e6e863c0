-- DualWeights as tables, and what a cut by them promises.
use Rattle.std.specs.Prelude.{◌≡◌, Bool, true, cond, List, ◌⊎◌, ℕ, ◌+◌, ◌*◌, ◌≤◌, ◌<◌, min, ltb, leb, length, get_or}
use Rattle.std.proofs.Common.{sym, ap, ap₂, ◌∙◌, lt-ltb, le-ltb}
use Rattle.base_laws.specs.Definitions.{has}
use Rattle.search_laws.specs.Case.{Case, Valid, weight}
use Rattle.search_laws.specs.Order.{Agree}
use Rattle.search_laws.specs.Duality.{DualWeights, asked}

-- weights of shards' needs and rooms, of nodes, and of shard i and set f at i * 16 + f, at most the need's; those of nodes are counted
-- from 16384
abbrev pub weights_of : List ℕ → List ℕ → List ℕ → List ℕ → DualWeights
weights_of wants rooms nodes pairs =
    record {
      base = 16384;
      need = λ i. get_or wants i 0;
      room = λ i. get_or rooms i 0;
      node = λ n. get_or nodes n 0;
      pair = λ i f. min (get_or wants i 0) (get_or pairs (i * 16 + f) 0);
    }

-- every failure set is below 16
pub record Small (sets : List ℕ) : Type 0 where
  pub below : (n : ℕ) → n < 32 → get_or sets n 0 < 16

-- node n's inequality, where it has an owner and where it has none
abbrev pub steady : Case → DualWeights → (ℕ → ℕ) → ℕ → Bool
steady K W o n = cond (ltb (o n) 16) (leb (W.need (o n) + W.base) (asked K W (o n) n)) (leb W.base (K.idle + W.node n))

-- each pair that y takes is open
pub record OpenFor (rows : List ℕ) (y : ℕ → ℕ) : Type 0 where
  pub bit : (n : ℕ) → n < 32 → y n < 16 → has (get_or rows (y n) 0) n ≡ true

-- of each valid placement that agrees with the owners before t and takes open pairs only: it weighs at least floor, and if at most k,
-- its pairs are still open after the cut, and it places each node that the cut marks
pub record SoundBound (K : Case) (k floor : ℕ) (o : ℕ → ℕ) (t : ℕ) (rows after : List ℕ) : Type 0 where
  pub long : length after ≡ 17
  pub bound : (y : ℕ → ℕ) → Valid K y → Agree y o t → OpenFor rows y → floor ≤ weight K y
  pub uses : (y : ℕ → ℕ) → Valid K y → Agree y o t → OpenFor rows y → weight K y ≤ k → OpenFor after y
  pub marks : (n : ℕ) → n < 32 → has (get_or after 16 0) n ≡ true →
      (has (get_or rows 16 0) n ≡ true) ⊎ ((16 ≤ o n) × ((y : ℕ → ℕ) → Valid K y → Agree y o t → OpenFor rows y → weight K y ≤ k → y n < 16))

-- the same, of an owner that was read
pub steady_there : (K : Case) (W : DualWeights) (o : ℕ → ℕ) (n x u a : ℕ) → x ≡ o n → x < 16 → u ≡ W.need x + W.base → a ≡ asked K W x n →
    leb u a ≡ steady K W o n
steady_there K W o n x u a e l d f =
    ap₂ (λ (i j : ℕ). leb i j) d f
    ∙ (sym (ap (λ (b : Bool). cond b (leb (W.need x + W.base) (asked K W x n)) (leb W.base (K.idle + W.node n))) (lt-ltb x 16 l))
    ∙ ap (λ (i : ℕ). cond (ltb i 16) (leb (W.need i + W.base) (asked K W i n)) (leb W.base (K.idle + W.node n))) e)

pub steady_nowhere : (K : Case) (W : DualWeights) (o : ℕ → ℕ) (n x v : ℕ) → x ≡ o n → 16 ≤ x → v ≡ K.idle + W.node n → leb W.base v ≡ steady K W o n
steady_nowhere K W o n x v e l d =
    ap (λ (j : ℕ). leb W.base j) d
    ∙ (sym (ap (λ (b : Bool). cond b (leb (W.need x + W.base) (asked K W x n)) (leb W.base (K.idle + W.node n))) (le-ltb x 16 l))
    ∙ ap (λ (i : ℕ). cond (ltb i 16) (leb (W.need i + W.base) (asked K W i n)) (leb W.base (K.idle + W.node n))) e)
