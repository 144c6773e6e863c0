-- Laws of refusals: a list of rows gives none just where every condition of it holds; a word gives its number and its index back.
use Rattle.std.specs.Prelude.{ℕ, suc, ◌+◌, ◌*◌, ◌/◌, ◌%◌, ◌<◌, Bool, true, false, cond, ◌≡◌, refl}
use Rattle.std.proofs.Common.{sym, ap, ◌∙◌, eqb-true, arith}
use Rattle.base_ids.specs.declared.Refusal.{Refusal}
use Rattle.base_ids.specs.Definitions.{refused, none, unless, accepted, first_of, refused_at, unless_at}

-- ---- laws

-- an accepted refusal is none
pub accepted_none : (r : Refusal) → accepted r ≡ true → r ≡ none
accepted_none r h = ap refused (eqb-true r.code 0 h)

-- the condition of a list that gives none, and what follows it. Every number of a row is above 0.
pub unless_ok : (ok : Bool) (k : ℕ) (rest : Refusal) → unless ok (suc k) rest ≡ none → ok ≡ true
unfolding unless
unless_ok true k rest h = refl
unless_ok false k rest h = absurd (let z : suc k ≡ 0 = ap (λ (r : Refusal). r.code) h in omega arith)

pub unless_rest : (ok : Bool) (k : ℕ) (rest : Refusal) → unless ok (suc k) rest ≡ none → rest ≡ none
unfolding unless
unless_rest true k rest h = h
unless_rest false k rest h = absurd (let z : suc k ≡ 0 = ap (λ (r : Refusal). r.code) h in omega arith)

-- and back
pub unless_none : (ok : Bool) (k : ℕ) (rest : Refusal) → ok ≡ true → rest ≡ none → unless ok k rest ≡ none
unfolding unless
unless_none ok k rest h e = rw (h, e)

-- a list whose first condition holds is the rest, and one whose first condition fails has its number
pub unless_true : (ok : Bool) (k : ℕ) (rest : Refusal) → ok ≡ true → unless ok k rest ≡ rest
unfolding unless
unless_true ok k rest h = rw h

pub unless_false : (ok : Bool) (k : ℕ) (rest : Refusal) → ok ≡ false → unless ok k rest ≡ refused k
unfolding unless
unless_false ok k rest h = rw h

-- the same laws where an index is told
pub unless_at_ok : (ok : Bool) (k i : ℕ) (rest : Refusal) → unless_at ok (suc k) i rest ≡ none → ok ≡ true
unfolding unless_at
unless_at_ok true k i rest h = refl
unless_at_ok false k i rest h = absurd (let z : suc k + 256 * i ≡ 0 = ap (λ (r : Refusal). r.code) h in omega arith)

pub unless_at_rest : (ok : Bool) (k i : ℕ) (rest : Refusal) → unless_at ok (suc k) i rest ≡ none → rest ≡ none
unfolding unless_at
unless_at_rest true k i rest h = h
unless_at_rest false k i rest h = absurd (let z : suc k + 256 * i ≡ 0 = ap (λ (r : Refusal). r.code) h in omega arith)

pub unless_at_none : (ok : Bool) (k i : ℕ) (rest : Refusal) → ok ≡ true → rest ≡ none → unless_at ok k i rest ≡ none
unfolding unless_at
unless_at_none ok k i rest h e = rw (h, e)

pub unless_at_true : (ok : Bool) (k i : ℕ) (rest : Refusal) → ok ≡ true → unless_at ok k i rest ≡ rest
unfolding unless_at
unless_at_true ok k i rest h = rw h

pub unless_at_false : (ok : Bool) (k i : ℕ) (rest : Refusal) → ok ≡ false → unless_at ok k i rest ≡ refused_at k i
unfolding unless_at
unless_at_false ok k i rest h = rw h

-- a word has its number and its index, if the number is below 256
pub number_at : (k i : ℕ) → k < 256 → (k + 256 * i) % 256 ≡ k
number_at k i l = omega arith

pub index_at : (k i : ℕ) → k < 256 → (k + 256 * i) / 256 ≡ i
index_at k i l = omega arith

-- both of two lists that together give none
pub first_left : (r rest : Refusal) → first_of r rest ≡ none → r ≡ none
unfolding first_of
first_left r rest h = go (accepted r) refl h
  where
    go : (b : Bool) → accepted r ≡ b → cond b rest r ≡ none → r ≡ none
    go true e g = accepted_none r e
    go false e g = g

pub first_none : (r rest : Refusal) → r ≡ none → first_of r rest ≡ rest
unfolding first_of
first_none r rest h = rw h

pub first_right : (r rest : Refusal) → first_of r rest ≡ none → rest ≡ none
first_right r rest h = sym (first_none r rest (first_left r rest h)) ∙ h

-- a list that refuses is not followed
pub first_refused : (r rest : Refusal) → accepted r ≡ false → first_of r rest ≡ r
unfolding first_of
first_refused r rest h = rw h

-- r is what the first list gives
module _ {r first : Refusal} (e : r ≡ first) where
  pub rows_refused : (rest : Refusal) → accepted r ≡ false → r ≡ first_of first rest
  rows_refused rest h = e ∙ sym (first_refused first rest (sym (ap accepted e) ∙ h))

  pub rows_followed : {s rest : Refusal} → s ≡ rest → accepted r ≡ true → s ≡ first_of first rest
  rows_followed {s} {rest} f h = f ∙ sym (first_none first rest (accepted_none first (sym (ap accepted e) ∙ h)))
