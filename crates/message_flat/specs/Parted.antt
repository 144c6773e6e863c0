-- A flat report by the parts of ours: whether there is a termination, and how many masks, positions and runs.
use Rattle.std.specs.Prelude.{ℕ, ◌+◌, ◌*◌, ◌-◌, ◌/◌, ◌%◌, ◌≤◌, ◌<◌, Bool, true, false, cond, ◌&&◌, List, ◌≡◌, eqb, ltb, get_or}
use Rattle.std.proofs.Common.{arith, lt-ltb, le-ltb}
use Rattle.std.proofs.Math.Logic.{⊎_elim}
use Rattle.std.proofs.Math.Path.{refl}
use Rattle.base_laws.specs.Bools.{either, lt_or_le}
use Rattle.base_laws.specs.Definitions.{tabulate}
use Rattle.base_laws.specs.Tables.{tabulate_cong}
use Rattle.base_ids.specs.declared.Node.{Node}
use Rattle.base_ids.specs.declared.View.{View}
use Rattle.settings_values.specs.Definitions.{shards, Settings}
use Rattle.message_format.specs.declared.Contents.{Contents}
use Rattle.message_format.specs.Definitions.{kind, word1, head_word}
use Rattle.message_flat.specs.Definitions.{places_in, flat_length, triple_word, flat_word, flat_words}
use Rattle.message_flat.specs.declared.to_flat.Parts.{Parts}

-- the record after the masks is of kind 2
unfoldable pub ended_in : ℕ → ℕ → List ℕ → Bool
ended_in masks len b = ltb masks len && eqb (kind b masks) 2

-- the parts of a report of so many records
abbrev pub parts_by : Bool → ℕ → ℕ → Parts
parts_by ended masks len = record { ended = ended; shards = masks; places = cond ended masks 0; runs = len - (masks + cond ended masks 0) }

unfoldable pub parts_of : List ℕ → ℕ → List ℕ → Parts
parts_of σ len b = parts_by (ended_in (shards σ) len b) (shards σ) len

-- they are no more than a report has
abbrev pub Few : Parts → Type 0
Few p = p.shards + p.places + p.runs ≤ 127

-- where the count of runs stands, and how many words there are
abbrev pub count_in : Parts → ℕ
count_in p = 5 + p.shards + 2 * p.places

abbrev pub length_of : Parts → ℕ
length_of p = count_in p + 1 + 3 * p.runs

-- word k of the head
unfoldable pub head_by : Node → View → ℕ → ℕ → ℕ
head_by node view members k = cond (eqb k 0) node.0 (cond (eqb k 1) view.0 members)

-- the word before the positions
unfoldable pub flag_of : Bool → ℕ
flag_of ended = cond ended 1 0

-- word i of the positions
abbrev pub pair_word : List ℕ → ℕ → ℕ → ℕ
pair_word b masks i = get_or b (3 * (masks + i / 2) + 1 + i % 2) 0

-- word k before the positions
unfoldable pub front_word : Node → View → ℕ → List ℕ → Parts → ℕ → ℕ
front_word node view members b p k =
    cond (ltb k 3) (head_by node view members k)
    (cond (ltb k 4) p.shards (cond (ltb k (4 + p.shards)) (word1 b (k - 4)) (flag_of p.ended)))

-- word k
unfoldable pub word_of : Node → View → ℕ → List ℕ → Parts → ℕ → ℕ
word_of node view members b p k =
    cond (ltb k (5 + p.shards)) (front_word node view members b p k)
    (cond (ltb k (count_in p)) (pair_word b p.shards (k - (5 + p.shards)))
    (cond (ltb k (count_in p + 1)) p.runs
    (cond (ltb k (length_of p)) (triple_word b (p.shards + p.places) (k - (count_in p + 1))) 0)))

-- ---- laws

-- at most 16 shards and 127 records make few parts
pub parts_few : (σ : List ℕ) (len : ℕ) (b : List ℕ) → shards σ ≤ 16 → len ≤ 127 → Few (parts_of σ len b)
unfolding parts_of
parts_few σ len b s l =
    ⊎_elim (λ (e : ended_in (shards σ) len b ≡ true). rw e (omega arith)) (λ e. rw e (omega arith)) (either (ended_in (shards σ) len b))

-- what the parts of a report's contents give
module _ (σ : List ℕ) (c : Contents) where
  pub length_own : length_of (parts_of σ c.len c.body) ≡ flat_length σ c
  unfolding parts_of ended_in places_in
  length_own = refl

  pub word_own : (k : ℕ) → word_of c.node c.view c.members c.body (parts_of σ c.len c.body) k ≡ flat_word σ c k
  unfolding word_of front_word flat_word parts_of ended_in places_in head_by head_word flag_of
  word_own k = ⊎_elim front rest (lt_or_le k (5 + shards σ))
    where
      front : k < 5 + shards σ → word_of c.node c.view c.members c.body (parts_of σ c.len c.body) k ≡ flat_word σ c k
      front l = rw (lt-ltb k (5 + shards σ) l)

      rest : 5 + shards σ ≤ k → word_of c.node c.view c.members c.body (parts_of σ c.len c.body) k ≡ flat_word σ c k
      rest l =
          let three : 3 ≤ k = omega arith in
          let four : 4 ≤ k = omega arith in
          let masks : 4 + shards σ ≤ k = omega arith in
          rw (le-ltb k 3 three, le-ltb k 4 four, le-ltb k (4 + shards σ) masks, le-ltb k (5 + shards σ) l)

  pub words_own : tabulate 512 (word_of c.node c.view c.members c.body (parts_of σ c.len c.body)) ≡ flat_words σ c
  unfolding flat_words
  words_own = tabulate_cong 512 _ _ (λ k l. word_own k)

-- the parts as the code finds them
pub parts-by : (σ : List ℕ) (len : ℕ) (b : List ℕ) (s masks : ℕ) (ended : Bool) (places runs : ℕ) → s ≡ shards σ → masks ≡ s
    → ended ≡ ended_in masks len b → places ≡ cond ended masks 0 → runs ≡ len - (masks + places)
    → ◌≡◌ {A = Parts} (record { ended = ended; shards = masks; places = places; runs = runs }) (parts_of σ len b)
unfolding parts_of
parts-by σ len b s masks ended places runs a d e g h = rw (h, g, e, d, a)

pub places_le : (ended : Bool) (masks places : ℕ) → places ≡ cond ended masks 0 → places ≤ masks
places_le true masks places e = omega arith
places_le false masks places e = omega arith

pub few_own : (σ : List ℕ) (len : ℕ) (b : List ℕ) (p : Parts) → p ≡ parts_of σ len b → Settings σ → len ≤ 127 → Few p
few_own σ len b p e s l = rw e (parts_few σ len b s.sizes.shards_to l)
