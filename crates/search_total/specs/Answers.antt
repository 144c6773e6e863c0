-- From what a search found to the answer: the first placement, its weight, or that there is none.
use Rattle.std.specs.Prelude.{◌≡◌, true, false, List, ℕ, ◌≤◌, ◌<◌}
use Rattle.std.proofs.Common.{sym, ap, ◌∙◌, subst, arith}
use Rattle.std.proofs.lemmas.List.{length-replicate, get_or-replicate}
use Rattle.base_laws.specs.Bools.{clash}
use Rattle.search_laws.specs.Case.{Case, Valid, WeighsWithin, weight}
use Rattle.search_laws.specs.Tables.{owners_of}
use Rattle.search_laws.specs.Order.{First, HasNone, begun_start}
use Rattle.search_laws.specs.Least.{AtLeast, first_least}
use Rattle.search_laws.proofs.Least.{none_all}
use Rattle.search_total.specs.declared.Solution.{Solution}
use Rattle.search_total.specs.Post.{Owners, ReadyFrom, WithinAnswer, LeastAnswer, no_owners}

-- what is known of an answer that has the owners p
pub record HasOwners (K : Case) (p : List ℕ) (a : Solution) : Type 0 where
  pub exists : a.exists ≡ true
  pub weight : a.weight ≡ weight K (owners_of p)
  pub owners : a.owners ≡ p

-- what is known of an answer that says that there is none
pub record Empty (a : Solution) : Type 0 where
  pub exists : a.exists ≡ false
  pub weight : a.weight ≡ 0
  pub owners : a.owners ≡ no_owners

-- a valid placement of a weight of at most k
pub record WeightReached (K : Case) (k : ℕ) : Type 0 where
  pub at : ℕ → ℕ
  pub within : WeighsWithin K k at

blank_owner : (n : ℕ) → n < 32 → owners_of no_owners n ≡ 16
blank_owner n l = get_or-replicate 32 n 16 0 l

pub owners_blank : Owners no_owners
owners_blank = record { long = length-replicate {A = ℕ} 32 16; least = λ n l. omega (arith, blank_owner n l) }

pub ready_blank : ReadyFrom no_owners 0
ready_blank = record { owners = owners_blank; begun = begun_start (λ n l. omega (arith, blank_owner n l)) }

pub within_found : {K : Case} {k : ℕ} {p : List ℕ} {a : Solution} → First (WeighsWithin K k) (owners_of p) → Owners p → HasOwners K p a → WithinAnswer K k a
within_found {K} {k} f o h =
    record {
      found = λ e. subst (λ (w : List ℕ). First (WeighsWithin K k) (owners_of w)) (sym h.owners) f;
      exact = λ e. h.weight ∙ ap (λ (w : List ℕ). weight K (owners_of w)) (sym h.owners);
      none = λ e. clash h.exists e;
      empty = λ e. clash h.exists e;
      owners = subst Owners (sym h.owners) o;
    }

pub within_none : {K : Case} {k : ℕ} {a : Solution} → HasNone (WeighsWithin K k) → Empty a → WithinAnswer K k a
within_none n h =
    record {
      found = λ e. clash e h.exists;
      exact = λ e. clash e h.exists;
      none = λ e. n;
      empty = λ e. (h.weight, h.owners);
      owners = subst Owners (sym h.owners) owners_blank;
    }

-- the first within a bound that no valid placement stays below
pub least_found : {K : Case} {k : ℕ} {a : Solution} → AtLeast K k → WithinAnswer K k a → a.exists ≡ true → LeastAnswer K a
least_found b w e =
    record {
      found = λ d. first_least b (w.found d);
      exact = w.exact;
      none = λ d. clash e d;
      empty = w.empty;
      owners = w.owners;
    }

-- the same where a valid placement of that weight is known
pub least_reached : {K : Case} {k : ℕ} {a : Solution} → AtLeast K k → WeightReached K k → WithinAnswer K k a → LeastAnswer K a
least_reached b r w =
    record {
      found = λ d. first_least b (w.found d);
      exact = w.exact;
      none = λ e. absurd ((w.none e).none r.at r.within);
      empty = w.empty;
      owners = w.owners;
    }

-- none within 8192: none at all
pub least_missing : {K : Case} {a : Solution} → K.idle < 256 → WithinAnswer K 8192 a → a.exists ≡ false → LeastAnswer K a
least_missing d w e =
    record {
      found = λ h. clash h e;
      exact = w.exact;
      none = λ h. none_all d (omega arith) (w.none h);
      empty = w.empty;
      owners = w.owners;
    }

-- the weight of an answer that was found is reached, and within the bound
module _ {K : Case} {k : ℕ} {a : Solution} (w : WithinAnswer K k a) (e : a.exists ≡ true) where
  pub found_reached : WeightReached K a.weight
  found_reached = record { at = owners_of a.owners; within = record { valid = (w.found e).is.valid; cheap = omega (arith, w.exact e) } }

  pub found_below : a.weight ≤ k
  found_below = omega (arith, w.exact e, (w.found e).is.cheap)

pub least_none : {K : Case} {a : Solution} → HasNone (Valid K) → Empty a → LeastAnswer K a
least_none n h =
    record {
      found = λ e. clash e h.exists;
      exact = λ e. clash e h.exists;
      none = λ e. n;
      empty = λ e. (h.weight, h.owners);
      owners = subst Owners (sym h.owners) owners_blank;
    }
