-- What the search by hints promises, and the laws of its start and its end.
use Rattle.std.specs.Prelude.{◌≡◌, refl, true, List, ℕ, ◌/◌, ◌≤◌, ◌<◌, min, eqb}
use Rattle.std.proofs.Common.{ap, ◌∙◌, subst, arith, eq-eqb}
use Rattle.base_laws.specs.Bools.{clash}
use Rattle.base_laws.specs.Below.{count_pos}
use Rattle.base_laws.specs.Definitions.{has}
use Rattle.base_laws.specs.Masks.{has_zero}
use Rattle.search_laws.specs.Case.{Case, Valid, WeighsWithin}
use Rattle.search_laws.specs.Tables.{case_of, owners_of}
use Rattle.search_laws.specs.Order.{First, HasNone, From, agree_start, first_end}
use Rattle.search_laws.specs.Least.{AtLeast, weight_most}
use Rattle.search_bounds.specs.Post.{OpenFor, SoundBound}
use Rattle.search_total.specs.declared.Solution.{Solution}
use Rattle.search_total.specs.Post.{WithinAnswer, no_owners}
use Rattle.search_total.specs.Answers.{HasOwners, within_found, ready_blank}
use Rattle.search_hinted.specs.Stage.{Narrowed, Exceeded, OpenBelow, At, Moved}

-- at p, and what is first from here is first of all
pub record Sure (K : Case) (k : ℕ) (o : List ℕ) (p : ℕ) (rows : List ℕ) : Type 0 where
  pub at : At K k o p rows
  pub first : (z : ℕ → ℕ) → First (From (WeighsWithin K k) (owners_of o) (p / 2)) z → First (WeighsWithin K k) z

pub sure_start : {K : Case} {k : ℕ} {rows : List ℕ} → Narrowed K k no_owners 0 rows → Sure K k no_owners 0 rows
sure_start s =
    record {
      at = record { stage = s; on = λ e. absurd (omega arith) };
      first = λ z f. record { is = f.is.has; first = λ y g. f.first y (record { has = g; agree = agree_start y (owners_of no_owners) }) };
    }

pub sure_next : {K : Case} {k p r : ℕ} {o rows q after : List ℕ} → Sure K k o p rows → Moved K k o p q after r → Sure K k q r after
sure_next s a = record { at = a.at; first = λ z f. s.first z (a.first z f) }

-- a valid placement takes pairs that are allowed, of shards that may have nodes
open_all : (sets needs caps prices : List ℕ) (idle : ℕ) {y : ℕ → ℕ} {rows : List ℕ} → Valid (case_of sets needs caps prices idle) y → OpenBelow caps prices 16 rows → OpenFor rows y
open_all sets needs caps prices idle {y} v s =
    record {
      bit = λ n l h. s.bit (y n) n h l (omega (arith, v.most (y n) h, count_pos 32 (λ j. eqb (y j) (y n)) n l (eq-eqb (y n) (y n) refl))) (v.allowed n l h);
    }

-- nothing is excluded at first
pub stage_start : (sets needs caps prices : List ℕ) (idle k : ℕ) {rows : List ℕ} → OpenBelow caps prices 16 rows → Narrowed (case_of sets needs caps prices idle) k no_owners 0 rows
stage_start sets needs caps prices idle k s =
    record {
      ready = ready_blank;
      long = s.long;
      uses = λ y f. open_all sets needs caps prices idle f.has.valid s;
      bare = λ n l h. clash h (ap (λ (x : ℕ). has x n) s.none ∙ has_zero n);
      placed = λ n l h. clash h (ap (λ (x : ℕ). has x n) s.none ∙ has_zero n);
    }

pub at_least : (sets needs caps prices : List ℕ) (idle k floor : ℕ) {rows after : List ℕ} → OpenBelow caps prices 16 rows →
    SoundBound (case_of sets needs caps prices idle) k floor (owners_of no_owners) 0 rows after → AtLeast (case_of sets needs caps prices idle) floor
at_least sets needs caps prices idle k floor s c = record { bound = λ y v. c.bound y v (agree_start y (owners_of no_owners)) (open_all sets needs caps prices idle v s) }

-- less than every valid placement weighs
pub none_below : {K : Case} {j k : ℕ} → j < k → AtLeast K k → HasNone (WeighsWithin K j)
none_below h a = record { none = λ y w. omega (arith, a.bound y w.valid, w.cheap) }

-- an answer that has the first placement
pub record Found (K : Case) (k : ℕ) (a : Solution) : Type 0 where
  pub exists : a.exists ≡ true
  pub within : WithinAnswer K k a

-- the owners at the end are within k
pub found_end : {K : Case} {k p : ℕ} {o rows : List ℕ} {a : Solution} → p ≤ 1024 → 1024 ≤ p → Sure K k o p rows → WeighsWithin K k (owners_of o) → HasOwners K o a → Found K k a
found_end {K} {k} {p} {o} {rows} l g s w h =
    record { exists = h.exists; within = within_found (s.first (owners_of o) (subst (λ (j : ℕ). First (From (WeighsWithin K k) (owners_of o) j) (owners_of o)) end (first_end w))) s.at.stage.ready.owners h }
  where
    end : 512 ≡ p / 2
    end = omega arith

-- what is first of all with P is first of all with Q, where the two are the same
first_same : {P Q : (ℕ → ℕ) → Type 0} {z : ℕ → ℕ} → ((y : ℕ → ℕ) → P y → Q y) → ((y : ℕ → ℕ) → Q y → P y) → First P z → First Q z
first_same {z = z} p q f = record { is = p z f.is; first = λ y g. f.first y (q y g) }

-- a bound above 8192 says no more than 8192
pub within_capped : {K : Case} {j k : ℕ} {a : Solution} → K.idle < 256 → j ≡ min k 8192 → WithinAnswer K j a → WithinAnswer K k a
within_capped {K} {j} {k} d e w =
    record {
      found = λ g. first_same up down (w.found g);
      exact = w.exact;
      none = λ h. record { none = λ y g. (w.none h).none y (down y g) };
      empty = w.empty;
      owners = w.owners;
    }
  where
    up : (y : ℕ → ℕ) → WeighsWithin K j y → WeighsWithin K k y
    up y g = record { valid = g.valid; cheap = omega (arith, g.cheap) }

    down : (y : ℕ → ℕ) → WeighsWithin K k y → WeighsWithin K j y
    down y g = record { valid = g.valid; cheap = omega (arith, g.cheap, weight_most d g.valid) }

-- a floor above k at the owners
pub sound_none : {K : Case} {k floor t : ℕ} {o : ℕ → ℕ} {rows after : List ℕ} → k < floor → SoundBound K k floor o t rows after → Exceeded K k o t rows
sound_none h s = record { none = λ y f u. omega (arith, s.bound y f.has.valid f.agree u, f.has.cheap) }
