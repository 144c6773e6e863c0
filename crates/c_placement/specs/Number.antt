-- A search's answer as C has it: a number, the weight or 10000 for none, beside the owners; and 10001 where a length is wrong.
use Rattle.std.specs.Prelude.{◌≡◌, Bool, true, false, ◌&&◌, List, ℕ, ◌≤◌, ◌<◌, eqb, length}
use Rattle.std.proofs.Common.{sym, subst, arith, eqb-true}
use Rattle.base_laws.specs.Bools.{clash, and_left, and_right}
use Rattle.search_laws.specs.Case.{Case}
use Rattle.search_laws.specs.Tables.{case_of}
use Rattle.search_laws.specs.Least.{weight_most}
use Rattle.search_total.specs.declared.Solution.{Solution}
use Rattle.search_total.specs.Post.{WithinAnswer, LeastAnswer}

-- the number that stands for an answer: its weight, at most 8192, or 10000 where there is none
pub record Number (a : Solution) (r : ℕ) : Type 0 where
  pub some : a.exists ≡ true → (r ≡ a.weight) × (r ≤ 8192)
  pub none : a.exists ≡ false → r ≡ 10000

-- the number and the owners of an answer that is the first of least weight
pub record FirstAnswer (K : Case) (r : ℕ) (owners : List ℕ) : Type 0 where
  pub answer : Solution
  pub least : LeastAnswer K answer
  pub number : Number answer r
  pub whose : answer.owners ≡ owners

-- the same of an answer that is the first of a weight of at most k
pub record AnsweredWithin (K : Case) (k r : ℕ) (owners : List ℕ) : Type 0 where
  pub answer : Solution
  pub within : WithinAnswer K k answer
  pub number : Number answer r
  pub whose : answer.owners ≡ owners

-- the lengths of sets, needs, caps, costs and owners are right
abbrev pub lengths_fit : List ℕ → List ℕ → List ℕ → List ℕ → List ℕ → Bool
lengths_fit sets needs caps costs owners =
    eqb (length sets) 32 && eqb (length needs) 16 && eqb (length caps) 16 && eqb (length costs) 512 && eqb (length owners) 32

-- the answer where the lengths are right; else 10001, and the owners as they were
pub record GivesLeast (sets needs caps costs : List ℕ) (idle : ℕ) (owners : List ℕ) (r : ℕ) (after : List ℕ) : Type 0 where
  pub answered : lengths_fit sets needs caps costs owners ≡ true → FirstAnswer (case_of sets needs caps costs idle) r after
  pub refused : lengths_fit sets needs caps costs owners ≡ false → (r ≡ 10001) × (after ≡ owners)

pub record GivesWithin (sets needs caps costs : List ℕ) (idle k : ℕ) (owners : List ℕ) (r : ℕ) (after : List ℕ) : Type 0 where
  pub answered : lengths_fit sets needs caps costs owners ≡ true → AnsweredWithin (case_of sets needs caps costs idle) k r after
  pub refused : lengths_fit sets needs caps costs owners ≡ false → (r ≡ 10001) × (after ≡ owners)

-- an answer's weight is small
pub small : {K : Case} {a : Solution} → K.idle < 256 → LeastAnswer K a → a.exists ≡ true → a.weight ≤ 8192
small d l e = omega (arith, l.exact e, weight_most d (l.found e).is.valid)

pub small_within : {K : Case} {k : ℕ} {a : Solution} → K.idle < 256 → WithinAnswer K k a → a.exists ≡ true → a.weight ≤ 8192
small_within d w e = omega (arith, w.exact e, weight_most d (w.found e).is.valid)

-- the five lengths
pub record Lengths (sets needs caps costs owners : List ℕ) : Type 0 where
  pub sets_are : length sets ≡ 32
  pub needs_are : length needs ≡ 16
  pub caps_are : length caps ≡ 16
  pub costs_are : length costs ≡ 512
  pub owners_are : length owners ≡ 32

pub lengths_of : (sets needs caps costs owners : List ℕ) → lengths_fit sets needs caps costs owners ≡ true → Lengths sets needs caps costs owners
lengths_of sets needs caps costs owners h =
    let a = eqb (length sets) 32 in
    let b = eqb (length needs) 16 in
    let c = eqb (length caps) 16 in
    let d = eqb (length costs) 512 in
    let e = eqb (length owners) 32 in
    let abcd : (a && b && c && d) ≡ true = and_left (a && b && c && d) e h in
    let abc : (a && b && c) ≡ true = and_left (a && b && c) d abcd in
    let ab : (a && b) ≡ true = and_left (a && b) c abc in
    record {
      sets_are = eqb-true (length sets) 32 (and_left a b ab);
      needs_are = eqb-true (length needs) 16 (and_right a b ab);
      caps_are = eqb-true (length caps) 16 (and_right (a && b) c abc);
      costs_are = eqb-true (length costs) 512 (and_right (a && b && c) d abcd);
      owners_are = eqb-true (length owners) 32 (and_right (a && b && c && d) e h);
    }

module _ {sets needs caps costs s m c p : List ℕ} (x : s ≡ sets) (y : m ≡ needs) (u : c ≡ caps) (z : p ≡ costs) where
  -- what holds of copies of the tables holds of the tables
  of_tables : (idle : ℕ) (P : Case → Type 0) → P (case_of s m c p idle) → P (case_of sets needs caps costs idle)
  of_tables idle P l =
      subst (λ (t : List ℕ). P (case_of t needs caps costs idle)) x
      (subst (λ (t : List ℕ). P (case_of s t caps costs idle)) y (subst (λ (t : List ℕ). P (case_of s m t costs idle)) u (subst (λ (t : List ℕ). P (case_of s m c t idle)) z l)))

  module _ {owners after : List ℕ} {idle r : ℕ} {a : Solution} (h : lengths_fit sets needs caps costs owners ≡ true) (n : Number a r) (o : after ≡ a.owners) where
    -- the answer on copies of the tables is the tables' own
    pub least_given : LeastAnswer (case_of s m c p idle) a → GivesLeast sets needs caps costs idle owners r after
    least_given l =
        record {
          answered = λ e. record { answer = a; least = of_tables idle (λ (K : Case). LeastAnswer K a) l; number = n; whose = sym o };
          refused = λ e. clash h e;
        }

    pub within_given : {k : ℕ} → WithinAnswer (case_of s m c p idle) k a → GivesWithin sets needs caps costs idle k owners r after
    within_given {k} l =
        record {
          answered = λ e. record { answer = a; within = of_tables idle (λ (K : Case). WithinAnswer K k a) l; number = n; whose = sym o };
          refused = λ e. clash h e;
        }
