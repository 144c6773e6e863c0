-- What the words of a flat report mean, by its counts; with the report's own counts this is what message_flat says.
use Rattle.std.specs.Prelude.{ℕ, ◌+◌, ◌*◌, ◌-◌, ◌/◌, ◌%◌, ◌≤◌, ◌<◌, min, Bool, true, false, cond, ◌&&◌, List, ◌≡◌, refl, eqb, leb, ltb, length, get_or}
use native.Mathlib.Omega.{arith}
use Rattle.std.proofs.Math.Path.{sym}
use borrow.Author.Tests.{eq-eqb, lt-ltb, le-ltb}
use Rattle.base_laws.specs.Definitions.{any_below, tabulate}
use Rattle.base_laws.specs.Below.{any_at, any_fewer}
use Rattle.message_format.specs.declared.Contents.{Contents}
use Rattle.message_flat.specs.Definitions.{flat_shards, flat_flag, flat_places, flat_runs, explained, zero_count, flat_len, flat_record, flat_body, flat_contents}
use Rattle.message_flat.specs.declared.from_flat.Counts.{Counts}

-- how many positions there are, by the word before them
unfoldable pub places_by : ℕ → ℕ → ℕ
places_by flag shards = cond (eqb flag 1) shards 0

-- the counts of a flat report
abbrev pub counts_of : List ℕ → Counts
counts_of f = record { flag = flat_flag f; shards = flat_shards f; places = flat_places f; runs = flat_runs f }

-- where the count of runs stands
abbrev pub count_at : Counts → ℕ
count_at n = 5 + n.shards + 2 * n.places

-- so many words are explained
unfoldable pub explained_by : Counts → ℕ → Bool
explained_by n words = leb n.flag 1 && eqb words (count_at n + 1 + 3 * n.runs)

-- the count of triple i is 0, the count of runs standing at so many words
abbrev pub zero_at : List ℕ → ℕ → ℕ → Bool
zero_at f at i = eqb (get_or f (at + 3 * i + 3) 0) 0

unfoldable pub zero_in : List ℕ → Counts → Bool
zero_in f n = any_below n.runs (zero_at f (count_at n))

-- how many records follow the head
abbrev pub records_of : Counts → ℕ
records_of n = n.shards + n.places + n.runs

-- word p of a record: of mask j, of position i, of run i
unfoldable pub mask_word : List ℕ → ℕ → ℕ → ℕ
mask_word f j p = cond (eqb p 0) (256 + j) (cond (eqb p 1) (get_or f (4 + j) 0) 0)

unfoldable pub place_word : List ℕ → ℕ → ℕ → ℕ → ℕ
place_word f shards i p = cond (eqb p 0) (512 + i) (get_or f (4 + shards + 2 * i + p) 0)

unfoldable pub run_word : List ℕ → ℕ → ℕ → ℕ → ℕ
run_word f at i p = cond (eqb p 0) (768 + min (get_or f (at + 1 + 3 * i) 0) 255) (get_or f (at + 1 + 3 * i + p) 0)

-- word p of record j
unfoldable pub record_in : List ℕ → Counts → ℕ → ℕ → ℕ
record_in f n j p =
    cond (ltb j n.shards) (mask_word f j p)
    (cond (ltb j (n.shards + n.places)) (place_word f n.shards (j - n.shards) p)
    (run_word f (count_at n) (j - (n.shards + n.places)) p))

-- word k of the body
unfoldable pub body_in : List ℕ → Counts → ℕ → ℕ
body_in f n k = cond (ltb k (3 * records_of n)) (record_in f n (k / 3) (k % 3)) 0

-- ---- each as the code finds it

module _ (f : List ℕ) (n : Counts) (masks places : ℕ) (e : masks ≡ n.shards) (g : places ≡ n.places) (j p : ℕ) where
  pub at_mask : j < masks → mask_word f j p ≡ record_in f n j p
  unfolding record_in
  at_mask l = let h : j < n.shards = omega arith in rw (lt-ltb j n.shards h)

  pub at_place : masks ≤ j → j < masks + places → place_word f n.shards (j - masks) p ≡ record_in f n j p
  unfolding record_in
  at_place l m =
      let h : n.shards ≤ j = omega arith in
      let k : j < n.shards + n.places = omega arith in
      rw (e, le-ltb j n.shards h, lt-ltb j (n.shards + n.places) k)

  pub at_run : (at : ℕ) → at ≡ count_at n → masks ≤ j → masks + places ≤ j → run_word f at (j - (masks + places)) p ≡ record_in f n j p
  unfolding record_in
  at_run at a l m =
      let h : n.shards ≤ j = omega arith in
      let k : n.shards + n.places ≤ j = omega arith in
      rw (a, e, g, le-ltb j n.shards h, le-ltb j (n.shards + n.places) k)

module _ (f : List ℕ) (n : Counts) (at runs : ℕ) (e : at ≡ count_at n) (g : runs ≡ n.runs) where
  pub zero_found : (i : ℕ) → i < runs → get_or f (at + 3 * i + 3) 0 ≡ 0 → true ≡ zero_in f n
  unfolding zero_in
  zero_found i l z = sym (any_at n.runs (zero_at f (count_at n)) i (omega arith) (rw (sym e) (eq-eqb (get_or f (at + 3 * i + 3) 0) 0 z)))

  pub zero_none : (i : ℕ) → runs ≤ i → any_below i (zero_at f at) ≡ false → false ≡ zero_in f n
  unfolding zero_in
  zero_none i l h = sym (any_fewer n.runs i (zero_at f (count_at n)) (omega arith) (rw (sym e) h))

-- ---- by the report's own counts

pub counts_by : (f : List ℕ) (shards masks flag places at runs : ℕ) → shards ≡ get_or f 3 0 → masks ≡ shards → flag ≡ get_or f (4 + masks) 0
    → places ≡ places_by flag shards → at ≡ 5 + shards + 2 * places → runs ≡ get_or f at 0
    → ◌≡◌ {A = Counts} (record { flag = flag; shards = shards; places = places; runs = runs }) (counts_of f)
unfolding places_by flat_places
counts_by f shards masks flag places at runs a b c d e g = rw (g, e, d, c, b, a)

pub explained-by : (f : List ℕ) → explained_by (counts_of f) (length f) ≡ explained f
unfolding explained_by explained
explained-by f = refl

pub zero-in : (f : List ℕ) → zero_in f (counts_of f) ≡ zero_count f
unfolding zero_in zero_count
zero-in f = refl

pub body_by : (f : List ℕ) → tabulate 381 (body_in f (counts_of f)) ≡ flat_body f
unfolding body_in flat_body record_in mask_word place_word run_word flat_record
body_by f = refl

-- contents by their parts
pub contents-by : (f : List ℕ) (node view members len : ℕ) (body : List ℕ) → node ≡ get_or f 0 0 → view ≡ get_or f 1 0 → members ≡ get_or f 2 0
    → len ≡ flat_len f → body ≡ flat_body f
    → ◌≡◌ {A = Contents} (record { node = record { 0 = node }; view = record { 0 = view }; members = members; len = len; body = body }) (flat_contents f)
unfolding flat_contents
contents-by f node view members len body a b c d e = rw (a, b, c, d, e)
