-- What the walk finds in the pairs b of a slot: record i is b[2i], its tag and word 1, and b[2i + 1], its word 2 and the index of the
-- next record.
use Rattle.std.specs.Prelude.{◌≡◌, ℕ, zero, suc, ◌+◌, ◌-◌, ◌*◌, ◌/◌, ◌%◌, ◌<◌, ◌≤◌, Bool, true, cond, ◌⊎◌, List, length, ◌==◌, nat_lt, slice_index, slice_index_or, slice_set, refl}
use Rattle.std.proofs.Common.{le_refl, arith, ⊎_elim, sym, ap, ◌∙◌, length-set, get_or-set_same, get_or-set_other, lt-ltb, le-ltb}
use Rattle.base_laws.specs.Bools.{eq_or_ne}
use Rattle.base_laws.specs.Definitions.{has, within}
use Rattle.base_ids.specs.declared.Position.{Position}
use Rattle.settings_values.specs.Definitions.{nodes, shards}
use Rattle.message_format.specs.declared.Form.TheVariants.{Report}
use Rattle.message_format.specs.Definitions.{view_ok, row10, is_position}
use Rattle.report_views.specs.declared.Layout.{Layout}
use Rattle.report_views.specs.declared.Termination.{Termination}
use Rattle.report_views.specs.Definitions.{start, mask_at, position_at}

-- the tag and word 1 of a record as one number
unfoldable pub key_of : ℕ → ℕ
key_of front = 4294967296 * (front % 4294967296) + front / 4294967296

-- the key before record i of the runs from record first on; the first has one of kind 3
unfoldable pub before_at : List ℕ → ℕ → ℕ → ℕ
before_at b first i = cond (nat_lt first i) (key_of (slice_index b (2 * i - 2))) 3298534883328

-- the list l after n records from record first on: at a run's shard its index
unfoldable pub runs_noted : List ℕ → List ℕ → ℕ → ℕ → List ℕ
runs_noted b l first zero = l
runs_noted b l first (suc n) = slice_set (runs_noted b l first n) (slice_index b (2 * (first + n)) % 16) (first + n)

-- record i is a run that rises from the key before it, and record i + 1 comes next
pub record Goes (before front back i view : ℕ) : Type 0 where
  pub rises : before < key_of front
  pub view_from : 1 ≤ front / 4294967296
  pub view_to : front / 4294967296 ≤ view
  pub some : 1 ≤ back % 4294967296
  pub linked : back / 4294967296 ≡ i + 1

-- a run of a known shard that rises from the key before it and ends the chain
pub record RunEnds (before front back count view : ℕ) : Type 0 where
  pub rises : before < key_of front
  pub view_from : 1 ≤ front / 4294967296
  pub view_to : front / 4294967296 ≤ view
  pub some : 1 ≤ back
  pub end : back < 4294967296
  pub high : front % 4294967296 < 768 + count

-- the records from first to below i are runs that go on
pub record RunsOn (b : List ℕ) (first view i : ℕ) : Type 0 where
  pub from : first ≤ i
  pub few : i ≤ 127
  pub each : (j : ℕ) → first ≤ j → j < i → Goes (before_at b first j) (slice_index b (2 * j)) (slice_index b (2 * j + 1)) j view

-- the runs from record first to record n, the last; l is the list k with the runs noted
pub record RunsSeen (b : List ℕ) (first count view : ℕ) (k l : List ℕ) (n : ℕ) : Type 0 where
  pub on : RunsOn b first view n
  pub last : RunEnds (before_at b first n) (slice_index b (2 * n)) (slice_index b (2 * n + 1)) count view
  pub list : l ≡ runs_noted b k first (suc (n - first))

-- the chain ends with record at, or the runs stand after it
unfoldable pub RunsAfter : List ℕ → ℕ → ℕ → ℕ → List ℕ → List ℕ → ℕ → Type 0
RunsAfter b at count view k l n =
    ((n ≡ at) × (slice_index b (2 * at + 1) / 4294967296 ≡ 0) × (l ≡ k))
    ⊎ ((slice_index b (2 * at + 1) / 4294967296 ≡ at + 1) × RunsSeen b (at + 1) count view k l n)

-- the records after those of members are the kept positions
pub record PositionsSeen (b : List ℕ) (made : Bool) (positions : List ℕ) (count : ℕ) : Type 0 where
  pub kept : made ≡ true
  pub linked : slice_index_or b (2 * count + 1) 0 / 4294967296 ≡ count + 1
  pub same : (k : ℕ) → k < 2 * count - 1 → slice_index b (2 * (count + 1) + k) ≡ slice_index positions k
  pub last : slice_index_or b (4 * count + 1) 0 % 4294967296 ≡ slice_index positions (2 * count - 1) % 4294967296

-- what follows the records of members
pub record RestSeen (b : List ℕ) (made : Bool) (positions : List ℕ) (count view : ℕ) (k l : List ℕ) (n : ℕ) : Type 0 where
  pub front : ℕ
  pub ending : (front ≡ count) ⊎ ((front ≡ count + count) × PositionsSeen b made positions count)
  pub runs : RunsAfter b front count view k l n

-- the head and the records of members
pub record FrontSeen (number members : ℕ) (masks : List ℕ) (count : ℕ) (b : List ℕ) (node : ℕ) : Type 0 where
  pub head_front : slice_index_or b 0 0 ≡ node + 4294967296 * number
  pub head_back : slice_index_or b 1 0 ≡ members + 4294967296
  pub node_fits : node < 4294967296
  pub members_fit : members < 4294967296
  pub member : has members node ≡ true
  pub same : (k : ℕ) → k < 2 * count - 1 → slice_index b (2 + k) ≡ slice_index masks k
  pub last : slice_index_or b (2 * count + 1) 0 % 4294967296 ≡ 0

-- all of it
pub record SlotTold (number members : ℕ) (masks : List ℕ) (made : Bool) (positions : List ℕ) (count : ℕ) (b : List ℕ) (node : ℕ) (k l : List ℕ) (n : ℕ) : Type 0 where
  pub front : FrontSeen number members masks count b node
  pub rest : RestSeen b made positions count number k l n

-- the pairs of the records of members
pub record MaskRecords (masks r : List ℕ) : Type 0 where
  pub fronts : (s : ℕ) → s < 16 → slice_index r (2 * s) ≡ 256 + s + 4294967296 * slice_index masks s
  pub backs : (s : ℕ) → s < 16 → slice_index r (2 * s + 1) ≡ 4294967296 * (s + 2)

-- the pairs of the records of positions
pub record PositionRecords (positions : List Position) (count : ℕ) (r : List ℕ) : Type 0 where
  pub fronts : (s : ℕ) → s < 16 → slice_index r (2 * s) ≡ 512 + s + 4294967296 * (slice_index_or positions s start).view.0
  pub backs : (s : ℕ) → s < 16 → slice_index r (2 * s + 1) ≡ (slice_index_or positions s start).k + 4294967296 * (count + s + 2)
  pub fit : (s : ℕ) → s < 16 → (slice_index_or positions s start).k < 4294967296

-- a position of no view above the given one
pub record PositionLegal (number : ℕ) (p : Position) : Type 0 where
  pub placed : is_position p.view.0 p.k ≡ true
  pub view_to : p.view.0 ≤ number

-- what the kept view and termination have to meet
pub record KeptReady (σ : List ℕ) (v : Layout) (t : Termination) : Type 0 where
  pub view : view_ok Report v.number.0 ≡ true
  pub inside : within (nodes σ) v.members ≡ true
  pub masks : row10 σ v.members (mask_at v) ≡ true
  pub positions : t.made ≡ true → (s : ℕ) → s < shards σ → PositionLegal v.number.0 (position_at t s)

-- the end of shard s's log, 2^32 view + k
unfoldable pub end_key : List ℕ → List ℕ → ℕ → ℕ
end_key b last s =
    cond (slice_index last s == 0) 0
    (4294967296 * (slice_index b (2 * slice_index last s) / 4294967296) + slice_index b (2 * slice_index last s + 1) % 4294967296)

-- the first run has no other before it
pub before_first : (b : List ℕ) (first : ℕ) → before_at b first first ≡ 3298534883328
unfolding before_at
before_first b first = rw (le-ltb first first (le_refl first)) refl

pub before_next : (b : List ℕ) (first i : ℕ) → first ≤ i → before_at b first (i + 1) ≡ key_of (slice_index b (2 * i))
unfolding before_at
before_next b first i l =
    let e : 2 * (i + 1) - 2 ≡ 2 * i = omega arith in
    rw (lt-ltb first (i + 1) (omega arith), e) refl

-- one record more
pub noted_next : (b l : List ℕ) (first i : ℕ) → first ≤ i → runs_noted b l first (suc (i - first)) ≡ slice_set (runs_noted b l first (i - first)) (slice_index b (2 * i) % 16) i
unfolding runs_noted
noted_next b l first i h =
    let e : first + (i - first) ≡ i = omega arith in
    rw e refl

pub length_noted : (b l : List ℕ) (first n : ℕ) → length (runs_noted b l first n) ≡ length l
unfolding runs_noted
length_noted b l first zero = refl
length_noted b l first (suc n) = length-set (runs_noted b l first n) _ _ ∙ length_noted b l first n

-- ---- what the comparisons tell

-- x - 1 wrapped is r
pub view_told : (x r view : ℕ) → (r + 1) % 4294967296 ≡ x → r < view → view < 4294967296 → (1 ≤ x) × (x ≤ view)
view_told x r view e l h = (omega arith, omega arith)

-- the words of a pair below 2^64, and a pair of two words
pub half_fits : (x : ℕ) → x < 18446744073709551616 → x / 4294967296 < 4294967296
half_fits x h = omega arith

pub two_fit : (x y : ℕ) → x < 4294967296 → y < 4294967296 → 4294967296 * x + y < 18446744073709551616
two_fit x y h i = omega arith

-- the lower half of a key is word 1
pub key_low : (front v : ℕ) → front < 18446744073709551616 → v ≡ key_of front % 4294967296 → v ≡ front / 4294967296
unfolding key_of
key_low front v h e = e ∙ lower (front % 4294967296) (front / 4294967296) (half_fits front h)
  where
    lower : (x y : ℕ) → y < 4294967296 → (4294967296 * x + y) % 4294967296 ≡ y
    lower x y l = omega arith

-- back - (2^32 (i + 1) + 1) wrapped is r
pub link_told : (back r i : ℕ) → i ≤ 127 → (r + (4294967296 * (i + 1) + 1)) % 18446744073709551616 ≡ back → r < 4294967295
    → (1 ≤ back % 4294967296) × (back / 4294967296 ≡ i + 1)
link_told back r i h e l = (omega arith, omega arith)

pub noted_none : (b l : List ℕ) (first : ℕ) → l ≡ runs_noted b l first (first - first)
unfolding runs_noted
noted_none b l first = let e : first - first ≡ 0 = omega arith in rw e refl

-- one record more in a list of pairs
pub records_turn : (f g : ℕ → ℕ) (l : List ℕ) (s x y : ℕ) → length l ≡ 32 → s < 16 → x ≡ f s → y ≡ g s
    → ((j : ℕ) → j < s → (slice_index l (2 * j) ≡ f j) × (slice_index l (2 * j + 1) ≡ g j))
    → (j : ℕ) → j < s + 1 → (slice_index (slice_set (slice_set l (2 * s) x) (2 * s + 1) y) (2 * j) ≡ f j) × (slice_index (slice_set (slice_set l (2 * s) x) (2 * s + 1) y) (2 * j + 1) ≡ g j)
records_turn f g l s x y e m p q h j n =
    ⊎_elim
    (λ i. let a : 2 * j ≡ 2 * s = omega arith in
    let b : 2 * j + 1 ≡ 2 * s + 1 = omega arith in (
      ap (λ (k : ℕ). slice_index (slice_set (slice_set l (2 * s) x) (2 * s + 1) y) k) a ∙ (get_or-set_other (slice_set l (2 * s) x) (2 * s + 1) (2 * s) y 0 (λ d. omega arith) ∙ (get_or-set_same l (2 * s) x 0 (omega arith) ∙ (p ∙ ap f (sym i)))),
      ap (λ (k : ℕ). slice_index (slice_set (slice_set l (2 * s) x) (2 * s + 1) y) k) b ∙ (get_or-set_same (slice_set l (2 * s) x) (2 * s + 1) y 0 (omega (arith, length-set l (2 * s) x)) ∙ (q ∙ ap g (sym i))),
    ))
    (λ i. (
      get_or-set_other (slice_set l (2 * s) x) (2 * s + 1) (2 * j) y 0 (λ d. omega arith) ∙ (get_or-set_other l (2 * s) (2 * j) x 0 (λ d. i (omega arith)) ∙ (h j (omega arith)).0),
      get_or-set_other (slice_set l (2 * s) x) (2 * s + 1) (2 * j + 1) y 0 (λ d. i (omega arith)) ∙ (get_or-set_other l (2 * s) (2 * j + 1) x 0 (λ d. omega arith) ∙ (h j (omega arith)).1),
    ))
    (eq_or_ne j s)
