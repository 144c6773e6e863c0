-- The rows look at the words of the first n records and no further: where two bodies are alike there, every row says the same of both.
use Prim.Native.Nat.{ℕ, zero, suc, ◌+◌, ◌*◌, ◌-◌, ◌<◌, ◌≤◌}
use Rattle.std.proofs.Common.{le_refl, arith, ap}
use Rattle.std.specs.Prelude.{Bool, ◌&&◌, List, ◌≡◌, eqb, leb, get_or}
use Rattle.std.proofs.Math.Path.{refl}
use Rattle.base_laws.specs.Below.{all_cong}
use Rattle.base_laws.specs.Definitions.{has, subset}
use Rattle.settings_values.specs.Definitions.{shards}
use Rattle.message_format.specs.declared.Form.{Form}
use Rattle.message_format.specs.declared.Form.TheVariants.{Report, Order}
use Rattle.message_format.specs.Definitions.{tag, word1, word2, kind, precedes, shards_where, shards_of, carried_by, kind_at, shard_at, surplus, sequence_at, complete, shard_apart, row10_at, row10, row11_at}

-- b and c have the same words in their first n records
abbrev pub SameRecords : List ℕ → List ℕ → ℕ → Type 0
SameRecords b c n = (k : ℕ) → k < 3 * n → get_or b k 0 ≡ get_or c k 0

module _ (b c : List ℕ) (n : ℕ) (h : SameRecords b c n) where
  pub tag_same : (j : ℕ) → j < n → tag b j ≡ tag c j
  tag_same j l = h (3 * j) (omega arith)

  pub word1_same : (j : ℕ) → j < n → word1 b j ≡ word1 c j
  word1_same j l = h (3 * j + 1) (omega arith)

  pub word2_same : (j : ℕ) → j < n → word2 b j ≡ word2 c j
  word2_same j l = h (3 * j + 2) (omega arith)

  pub kind_same : (form : Form) (j : ℕ) → j < n → kind_at form b j ≡ kind_at form c j
  unfolding kind_at
  kind_same form j l = rw (tag_same j l, word2_same j l)

  pub shard_same : (σ : List ℕ) (j : ℕ) → j < n → shard_at σ b j ≡ shard_at σ c j
  unfolding shard_at
  shard_same σ j l = rw (tag_same j l)

  pub position_same : (form : Form) (view members : ℕ) (j : ℕ) → j < n → row11_at form view members b j ≡ row11_at form view members c j
  unfolding row11_at
  position_same form view members j l = rw (tag_same j l, word1_same j l, word2_same j l)

  pub where_same : (f g : ℕ → Bool) (m : ℕ) → m ≤ n → ((j : ℕ) → j < m → f j ≡ g j) → shards_where f b m ≡ shards_where g c m
  unfolding shards_where
  where_same f g zero l e = refl
  where_same f g (suc m) l e =
      rw (e m (le_refl (suc m)), where_same f g m (omega arith) (λ j i. e j (omega arith)), tag_same m l)

  pub shards_same : (k m : ℕ) → m ≤ n → shards_of k b m ≡ shards_of k c m
  shards_same k m l =
      where_same (λ j. eqb (kind b j) k) (λ j. eqb (kind c j) k) m l (λ j i. rw (tag_same j (omega arith)))

  pub carried_same : (node m : ℕ) → m ≤ n → carried_by node b m ≡ carried_by node c m
  carried_same node m l =
      where_same (λ j. eqb (kind b j) 1 && has (word1 b j) node) (λ j. eqb (kind c j) 1 && has (word1 c j) node) m l
      (λ j i. rw (tag_same j (omega arith), word1_same j (omega arith)))

  pub precedes_same : (i j : ℕ) → i < n → j < n → precedes b i j ≡ precedes c i j
  unfolding precedes
  precedes_same i j l m = rw (tag_same i l, tag_same j m, word1_same i l, word1_same j m)

  pub sequence_same : (node j : ℕ) → j < n → sequence_at node b j ≡ sequence_at node c j
  unfolding sequence_at surplus
  sequence_same node j l =
      rw (precedes_same (j - 1) j (omega arith) l, tag_same j l, carried_same node j (omega arith))

  pub complete_same : (form : Form) (σ : List ℕ) (node : ℕ) → complete form σ node b n ≡ complete form σ node c n
  unfolding complete
  complete_same Report σ node = rw (shards_same 1 n (le_refl n), shards_same 2 n (le_refl n))
  complete_same Order σ node =
      rw (shards_same 1 n (le_refl n), shards_same 2 n (le_refl n), shards_same 4 n (le_refl n), shards_same 5 n (le_refl n), carried_same node n (le_refl n))

-- row 10 looks at the masks of the settings' shards
pub row10_same : (σ : List ℕ) (members : ℕ) (f g : ℕ → ℕ) → ((s : ℕ) → s < shards σ → f s ≡ g s)
    → row10 σ members f ≡ row10 σ members g
unfolding row10 row10_at shard_apart
row10_same σ members f g h =
    all_cong (shards σ) (row10_at σ members f) (row10_at σ members g) (λ s l.
    rw (h s l)
    (ap (λ (x : Bool). leb 1 (g s) && subset (g s) members && x)
    (all_cong s (shard_apart σ f s) (shard_apart σ g s) (λ t i. rw (h s l, h t (omega arith))))))
