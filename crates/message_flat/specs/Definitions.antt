-- A flat report: node, view, members, S, S masks, a word 0 or 1 and, if 1, S positions of two words, then a count of runs and as many triples
-- of shard, view and count.
use Rattle.std.specs.Prelude.{ℕ, ◌+◌, ◌*◌, ◌-◌, ◌/◌, ◌%◌, min, Bool, cond, not, ◌&&◌, List, eqb, leb, ltb, length, get_or}
use Rattle.base_laws.specs.Definitions.{any_below, tabulate}
use Rattle.base_ids.specs.declared.Refusal.{Refusal}
use Rattle.base_ids.specs.Definitions.{none, unless}
use Rattle.settings_values.specs.Definitions.{shards}
use Rattle.message_format.specs.declared.Contents.{Contents}
use Rattle.message_format.specs.Definitions.{kind, record_shard, word1, head_word}

-- how many masks it has
abbrev pub flat_shards : List ℕ → ℕ
flat_shards f = get_or f 3 0

-- the word that says whether positions follow
abbrev pub flat_flag : List ℕ → ℕ
flat_flag f = get_or f (4 + flat_shards f) 0

-- how many positions it has
unfoldable pub flat_places : List ℕ → ℕ
flat_places f = cond (eqb (flat_flag f) 1) (flat_shards f) 0

-- where its count of runs stands, and the count
abbrev pub flat_count_at : List ℕ → ℕ
flat_count_at f = 5 + flat_shards f + 2 * flat_places f

abbrev pub flat_runs : List ℕ → ℕ
flat_runs f = get_or f (flat_count_at f) 0

-- its counts explain its length, and the word before the positions is 0 or 1
unfoldable pub explained : List ℕ → Bool
explained f = leb (flat_flag f) 1 && eqb (length f) (flat_count_at f + 1 + 3 * flat_runs f)

-- some triple has count 0
unfoldable pub zero_count : List ℕ → Bool
zero_count f = any_below (flat_runs f) (λ i. eqb (get_or f (flat_count_at f + 3 * i + 3) 0) 0)

-- how many records our report has after its head
abbrev pub flat_len : List ℕ → ℕ
flat_len f = flat_shards f + flat_places f + flat_runs f

-- rows 19, 20 and 21
unfoldable pub flat_refusal : List ℕ → Refusal
flat_refusal f = unless (explained f) 19 (unless (not (zero_count f)) 20 (unless (leb (flat_len f) 127) 21 none))

-- word p of record j of our report: a mask, a position, or a run; a shard too large for a record is 255
unfoldable pub flat_record : List ℕ → ℕ → ℕ → ℕ
flat_record f j p =
    cond (ltb j (flat_shards f)) (cond (eqb p 0) (256 + j) (cond (eqb p 1) (get_or f (4 + j) 0) 0))
    (cond (ltb j (flat_shards f + flat_places f))
    (cond (eqb p 0) (512 + (j - flat_shards f)) (get_or f (4 + flat_shards f + 2 * (j - flat_shards f) + p) 0))
    (cond (eqb p 0) (768 + min (get_or f (flat_count_at f + 1 + 3 * (j - (flat_shards f + flat_places f))) 0) 255)
    (get_or f (flat_count_at f + 1 + 3 * (j - (flat_shards f + flat_places f)) + p) 0)))

unfoldable pub flat_body : List ℕ → List ℕ
flat_body f = tabulate 381 (λ k. cond (ltb k (3 * flat_len f)) (flat_record f (k / 3) (k % 3)) 0)

-- the contents of our report
unfoldable pub flat_contents : List ℕ → Contents
flat_contents f =
    record {
      node = record { 0 = get_or f 0 0 };
      view = record { 0 = get_or f 1 0 };
      members = get_or f 2 0;
      len = flat_len f;
      body = flat_body f;
    }

-- a report has a termination: the record after those of kind 1 is of kind 2
abbrev pub has_places : List ℕ → Contents → Bool
has_places σ c = ltb (shards σ) c.len && eqb (kind c.body (shards σ)) 2

unfoldable pub places_in : List ℕ → Contents → ℕ
places_in σ c = cond (has_places σ c) (shards σ) 0

-- the first of the runs' records, and how many they are
abbrev pub runs_first : List ℕ → Contents → ℕ
runs_first σ c = shards σ + places_in σ c

abbrev pub runs_count : List ℕ → Contents → ℕ
runs_count σ c = c.len - runs_first σ c

-- where the count of runs stands
abbrev pub count_place : List ℕ → Contents → ℕ
count_place σ c = 5 + shards σ + 2 * places_in σ c

abbrev pub flat_length : List ℕ → Contents → ℕ
flat_length σ c = count_place σ c + 1 + 3 * runs_count σ c

-- word i of the triples: the shard without its kind, then view and count
unfoldable pub triple_word : List ℕ → ℕ → ℕ → ℕ
triple_word b first i = cond (eqb (i % 3) 0) (record_shard b (first + i / 3)) (get_or b (3 * first + i) 0)

-- word k of the flat report
unfoldable pub flat_word : List ℕ → Contents → ℕ → ℕ
flat_word σ c k =
    cond (ltb k 3) (head_word c k)
    (cond (ltb k 4) (shards σ)
    (cond (ltb k (4 + shards σ)) (word1 c.body (k - 4))
    (cond (ltb k (5 + shards σ)) (cond (has_places σ c) 1 0)
    (cond (ltb k (count_place σ c))
    (get_or c.body (3 * (shards σ + (k - (5 + shards σ)) / 2) + 1 + (k - (5 + shards σ)) % 2) 0)
    (cond (ltb k (count_place σ c + 1)) (runs_count σ c)
    (cond (ltb k (flat_length σ c)) (triple_word c.body (runs_first σ c) (k - (count_place σ c + 1))) 0))))))

-- the flat report, then zeros
unfoldable pub flat_words : List ℕ → Contents → List ℕ
flat_words σ c = tabulate 512 (flat_word σ c)
