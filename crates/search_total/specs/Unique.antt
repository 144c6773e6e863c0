-- The promises of the search leave no freedom: two answers that both keep one are the same answer.
use Rattle.std.specs.Prelude.{◌≡◌, true, false, List, ℕ, ◌<◌}
use Rattle.std.proofs.Common.{sym, ap, ◌∙◌, ⊎_elim, arith, ext_get_or}
use Rattle.base_laws.specs.Bools.{either}
use Rattle.search_laws.specs.Case.{Case, Valid, WeighsWithin, LeastWeight, weight}
use Rattle.search_laws.specs.Tables.{owners_of}
use Rattle.search_laws.specs.Order.{First, HasNone, Same, first_unique}
use Rattle.search_total.specs.declared.Solution.{Solution}
use Rattle.search_total.specs.Post.{Owners, WithinAnswer, LeastAnswer, no_owners}

-- owners that place the same nodes in the same shards, 16 for none, are the same list
same_list : (p q : List ℕ) → Owners p → Owners q → Same (owners_of p) (owners_of q) → p ≡ q
same_list p q v w s =
    ext_get_or 0 p q (v.long ∙ sym w.long) (λ n l. let h : n < 32 = omega (arith, v.long) in omega (arith, s.owner n h, v.least n h, w.least n h))

same_answer : {a b : Solution} → a.exists ≡ b.exists → a.weight ≡ b.weight → a.owners ≡ b.owners → a ≡ b
same_answer p q r = λ i. record { exists = p i; weight = q i; owners = r i }

-- an answer that has the first placement with P, or says that none has Q
record FirstOrNone (K : Case) (P Q : (ℕ → ℕ) → Type 0) (a : Solution) : Type 0 where
  found : a.exists ≡ true → First P (owners_of a.owners)
  exact : a.exists ≡ true → a.weight ≡ weight K (owners_of a.owners)
  none : a.exists ≡ false → HasNone Q
  empty : a.exists ≡ false → (a.weight ≡ 0) × (a.owners ≡ no_owners)
  owners : Owners a.owners

unique : {K : Case} {P Q : (ℕ → ℕ) → Type 0} → ((y : ℕ → ℕ) → P y → Q y) → {a b : Solution} → FirstOrNone K P Q a → FirstOrNone K P Q b → a ≡ b
unique {K} q {a} {b} u w =
    ⊎_elim
    (λ e.
    ⊎_elim
    (λ d.
    let o : a.owners ≡ b.owners = same_list a.owners b.owners u.owners w.owners (first_unique (u.found e) (w.found d)) in
    same_answer (e ∙ sym d) (u.exact e ∙ (ap (λ (l : List ℕ). weight K (owners_of l)) o ∙ sym (w.exact d))) o)
    (λ d. absurd ((w.none d).none (owners_of a.owners) (q (owners_of a.owners) (u.found e).is)))
    (either b.exists))
    (λ e.
    ⊎_elim (λ d. absurd ((u.none e).none (owners_of b.owners) (q (owners_of b.owners) (w.found d).is)))
    (λ d. same_answer (e ∙ sym d) ((u.empty e).0 ∙ sym (w.empty d).0) ((u.empty e).1 ∙ sym (w.empty d).1))
    (either b.exists))
    (either a.exists)

least_kept : {K : Case} {a : Solution} → LeastAnswer K a → FirstOrNone K (LeastWeight K) (Valid K) a
least_kept u = record { found = u.found; exact = u.exact; none = u.none; empty = u.empty; owners = u.owners }

within_kept : {K : Case} {k : ℕ} {a : Solution} → WithinAnswer K k a → FirstOrNone K (WeighsWithin K k) (WeighsWithin K k) a
within_kept u = record { found = u.found; exact = u.exact; none = u.none; empty = u.empty; owners = u.owners }

pub least_unique : {K : Case} {a b : Solution} → LeastAnswer K a → LeastAnswer K b → a ≡ b
least_unique u w = unique (λ y l. l.valid) (least_kept u) (least_kept w)

pub within_unique : {K : Case} {k : ℕ} {a b : Solution} → WithinAnswer K k a → WithinAnswer K k b → a ≡ b
within_unique u w = unique (λ y l. l) (within_kept u) (within_kept w)
