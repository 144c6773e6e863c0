-- Bytes that a writer took, one write after another.
use Rattle.std.specs.Prelude.{ℕ, ◌+◌, ◌-◌, List, ◌++◌, ◌≡◌, None, Some, take}
use Rattle.std.proofs.Common.{append_assoc, sym, ap, ◌∙◌, subst, drop}
use native.Mathlib.Omega.{arith}
use lib.ListN.{length, length-drop}
use lib.Seq.{take-add, take_all}
use Rattle.std.specs.declared.option.Option.{Option}
use Rattle.std.specs.Io.KnownBytes.{Appends}

appends_then : (a b c : Option (List ℕ)) (x y : List ℕ) → Appends a b x → Appends b c y → Appends a c (x ++ y)
appends_then None b c x y p q = tt
appends_then (Some l) None c x y p q = absurd p
appends_then (Some l) (Some m) None x y p q = absurd q
appends_then (Some l) (Some m) (Some n) x y p q = q ∙ ap (λ k. k ++ y) p ∙ append_assoc l x y

-- one write more, of the rest of the bytes
pub appends_more : (a b c : Option (List ℕ)) (bytes : List ℕ) (done n : ℕ) → Appends a b (take done bytes)
    → Appends b c (take n (take (length bytes - done) (drop done bytes))) → Appends a c (take (done + n) bytes)
appends_more a b c bytes done n p q =
    let rest : take (length bytes - done) (drop done bytes) ≡ drop done bytes = take_all (length bytes - done) (drop done bytes) (omega (arith, length-drop done bytes)) in
    subst (Appends a c) (sym (take-add done n bytes)) (appends_then a b c _ _ p (subst (λ l. Appends b c (take n l)) rest q))
