-- The rounds in one subgroup: each goes to the first valid placement of less weight.
use Rattle.std.specs.Prelude.{◌≡◌, true, false, ℕ, ◌+◌, ◌-◌, ◌≤◌, ◌<◌, Some}
use Rattle.std.proofs.Common.{ap, ◌∙◌, subst, arith}
use Rattle.search_laws.specs.Case.{Case, Valid, WeighsWithin, weight}
use Rattle.search_laws.specs.Tables.{owners_of}
use Rattle.search_laws.specs.Order.{First, HasNone}
use Rattle.search_total.specs.declared.Solution.{Solution}
use Rattle.search_total.specs.Post.{WithinAnswer, as_solution}
use Rattle.search_rounds.specs.declared.Improvement.{Improvement}
use Rattle.search_rounds.specs.declared.BestSoFar.{BestSoFar}

-- valid, of less weight than z
pub record Fewer (K : Case) (z y : ℕ → ℕ) : Type 0 where
  pub valid : Valid K y
  pub less : weight K y < weight K z

-- the search's answer for a round: within one less
pub within_fewer : {K : Case} {z y : ℕ → ℕ} → 0 < weight K z → First (WeighsWithin K (weight K z - 1)) y → First (Fewer K z) y
within_fewer {K} {z} {y} h f =
    record {
      is = record { valid = f.is.valid; less = omega (arith, f.is.cheap) };
      first = λ x g. f.first x (record { valid = g.valid; cheap = omega (arith, g.less) });
    }

pub within_none : {K : Case} {z : ℕ → ℕ} → HasNone (WeighsWithin K (weight K z - 1)) → HasNone (Fewer K z)
within_none n = record { none = λ y f. n.none y (record { valid = f.valid; cheap = omega (arith, f.less) }) }

-- from a with n rounds to c with m left
pub data Steps (K : Case) (n : ℕ) (a : ℕ → ℕ) : ℕ → (ℕ → ℕ) → Type 0 where
  start : Steps K n a n a
  more : {m : ℕ} {b c : ℕ → ℕ} → Steps K n a (m + 1) b → First (Fewer K b) c → Steps K n a m c

-- no valid placement weighs less than the floor
pub record Low (K : Case) (floor : ℕ) : Type 0 where
  pub low : (y : ℕ → ℕ) → Valid K y → floor ≤ weight K y

-- an answer that has a placement and its weight
pub record Weighed (K : Case) (a : Solution) : Type 0 where
  pub exists : a.exists ≡ true
  pub exact : a.weight ≡ weight K (owners_of a.owners)

-- what was reached: by rounds, and none is better, or no rounds are left
pub record Improved (K : Case) (n : ℕ) (a : Solution) (r : Improvement) : Type 0 where
  pub standing : Weighed K r.answer
  pub steps : Steps K n (owners_of a.owners) r.left (owners_of r.answer.owners)
  pub stuck : r.stuck ≡ true → HasNone (Fewer K (owners_of r.answer.owners))
  pub out : r.stuck ≡ false → r.left ≡ 0

-- what rounds give as an improvement
abbrev pub as_improvement : BestSoFar → Improvement
as_improvement r = record { answer = as_solution (Some r.placement); left = r.left; stuck = r.stuck }

-- on the way
pub record Way (K : Case) (n : ℕ) (a : Solution) (best : Solution) (left : ℕ) : Type 0 where
  pub standing : Weighed K best
  pub steps : Steps K n (owners_of a.owners) left (owners_of best.owners)

pub way_start : {K : Case} {n : ℕ} {a : Solution} → Weighed K a → Way K n a a n
way_start s = record { standing = s; steps = start }

module _ {K : Case} {n : ℕ} {a best : Solution} {left : ℕ} (w : Way K n a best left) where
  pub way_low : {floor : ℕ} → Low K floor → best.weight ≤ floor → HasNone (Fewer K (owners_of best.owners))
  way_low l e = record { none = λ y f. omega (arith, f.less, w.standing.exact, l.low y f.valid) }

  pub way_none : {k : ℕ} {next : Solution} → k ≡ best.weight - 1 → WithinAnswer K k next → next.exists ≡ false → HasNone (Fewer K (owners_of best.owners))
  way_none {k} e v d =
      within_none (subst (λ (j : ℕ). HasNone (WeighsWithin K j)) (e ∙ ap (λ (x : ℕ). x - 1) w.standing.exact) (v.none d))

  pub way_more : {k : ℕ} {next : Solution} → 0 < left → 0 < best.weight → k ≡ best.weight - 1 → WithinAnswer K k next → next.exists ≡ true → Way K n a next (left - 1)
  way_more {k} {next} l z e v d =
      record {
        standing = record { exists = d; exact = v.exact d };
        steps = more (subst (λ (m : ℕ). Steps K n (owners_of a.owners) m (owners_of best.owners)) back w.steps)
            (within_fewer (omega (arith, w.standing.exact)) (subst (λ (j : ℕ). First (WeighsWithin K j) (owners_of next.owners)) (e ∙ ap (λ (x : ℕ). x - 1) w.standing.exact) (v.found d)));
      }
    where
      back : left ≡ left - 1 + 1
      back = omega arith

-- no rounds left
pub last : {K : Case} {n m : ℕ} {a c : ℕ → ℕ} → m ≤ 0 → Steps K n a m c → Steps K n a 0 c
last {K} {n} {m} {a} {c} l s = subst (λ (j : ℕ). Steps K n a j c) none s
  where
    none : m ≡ 0
    none = omega arith
