-- Ways out of a function that goes through a list of rows: a row with an index, the list that comes first, and the one that follows.
use Rattle.std.specs.Prelude.{ℕ, suc, ◌+◌, ◌*◌, ◌≡◌, Ok, Err}
use Rattle.std.proofs.Common.{sym, ap, ◌∙◌, ne_eqb, arith}
use Rattle.base_ids.specs.declared.Refusal.{Refusal}
use Rattle.base_ids.specs.Definitions.{refused_at, accepted, first_of, or_refusal}
use Rattle.base_ids.specs.Refusals.{first_none, first_refused}
use Rattle.base_ids.specs.Results.{err_is, ok_none, err_value, err_refused}

module _ {A : Type 0} where
  -- row k + 1 at record i
  pub told_is : (k i : ℕ) (r e : Refusal) (a : A) → e ≡ refused_at (suc k) i → refused_at (suc k) i ≡ r → Err e ≡ or_refusal r a
  told_is k i r e a t h =
      err_is r e a (t ∙ h) (ap accepted t ∙ ne_eqb (suc k + 256 * i) 0 (λ z. omega arith))

  module _ {B : Type 0} (r rest : Refusal) (a : A) (b : B) where
    -- the list that comes first refuses
    pub refused_first : (e : Refusal) → Err e ≡ or_refusal r b → Err e ≡ or_refusal (first_of r rest) a
    refused_first e h =
        let v = err_value r e b h in
        let n = err_refused r e b h in
        err_is _ e a (v ∙ sym (first_refused r rest n)) (ap accepted v ∙ n)

    -- it passes
    pub passed_first : (v : B) → Ok v ≡ or_refusal r b → or_refusal rest a ≡ or_refusal (first_of r rest) a
    passed_first v h = ap (λ (q : Refusal). or_refusal q a) (sym (first_none r rest (ok_none r b v h)))
