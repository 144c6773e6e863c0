-- Laws of what a call gives under a refusal, for the ways out of a function and for the arms of its callers.
use Rattle.std.specs.Prelude.{ℕ, Bool, true, false, cond, eqb, ◌≡◌, refl, Ok, Err}
use Rattle.std.proofs.Common.{sym, ap, ◌∙◌}
use mathlib.Core.Bool.{true≢false}
use Rattle.base_ids.specs.declared.Refusal.{Refusal}
use Rattle.base_ids.specs.Definitions.{none, accepted, or_refusal}
use Rattle.base_ids.specs.Refusals.{accepted_none}

module _ {A : Type 0} where
  -- a way out with a value: nothing is refused
  pub ok_is : (r : Refusal) (a : A) → r ≡ none → Ok a ≡ or_refusal r a
  unfolding or_refusal
  ok_is r a h = rw h

  -- a way out with a refusal
  pub err_is : (r e : Refusal) (a : A) → e ≡ r → accepted e ≡ false → Err e ≡ or_refusal r a
  unfolding or_refusal
  err_is r e a h n = rw (sym h, n)

  -- an arm with a value
  ok_first : (b : Bool) (r : Refusal) (a v : A) → Ok v ≡ cond b (Ok a) (Err r) → b ≡ true
  ok_first true r a v h = refl
  ok_first false r a v h = search

  pub ok_none : (r : Refusal) (a v : A) → Ok v ≡ or_refusal r a → r ≡ none
  unfolding or_refusal
  ok_none r a v h = accepted_none r (ok_first (accepted r) r a v h)

  ok_second : (b : Bool) (r : Refusal) (a v : A) → Ok v ≡ cond b (Ok a) (Err r) → v ≡ a
  ok_second true r a v h = search
  ok_second false r a v h = search

  pub ok_value : (r : Refusal) (a v : A) → Ok v ≡ or_refusal r a → v ≡ a
  unfolding or_refusal
  ok_value r a v h = ok_second (accepted r) r a v h

  -- an arm with a refusal
  err_second : (b : Bool) (r e : Refusal) (a : A) → Err e ≡ cond b (Ok a) (Err r) → e ≡ r
  err_second true r e a h = search
  err_second false r e a h = search

  pub err_value : (r e : Refusal) (a : A) → Err e ≡ or_refusal r a → e ≡ r
  unfolding or_refusal
  err_value r e a h = err_second (accepted r) r e a h

  err_first : (b : Bool) (r e : Refusal) (a : A) → Err e ≡ cond b (Ok a) (Err r) → b ≡ false
  err_first true r e a h = search
  err_first false r e a h = refl

  pub err_refused : (r e : Refusal) (a : A) → Err e ≡ or_refusal r a → accepted r ≡ false
  unfolding or_refusal
  err_refused r e a h = err_first (accepted r) r e a h

  pub err_code : (r e : Refusal) (a : A) → Err e ≡ or_refusal r a → e.code ≡ 0 → ⊥
  err_code r e a h z =
      let one : accepted r ≡ true = ap accepted (sym (err_value r e a h)) ∙ ap (λ (n : ℕ). eqb n 0) z in
      true≢false (sym one ∙ err_refused r e a h)
