-- `message_rows::legal` meets its contract. A mask of 32 bits has no bit from 32 up, so a holder there is outside the members.
use mathlib.Core.Bool.{◌&&◌}
use mathlib.Core.Logic.{⊎_elim}
use mathlib.Core.Path.{◌≡◌, sym, ◌∙◌}
use Prim.Native.Nat.{ℕ, ◌<◌, ◌^◌}
use lib.Dec.{ltb}
use borrow.Author.Tests.{lt-ltb, eq-eqb, ne_eqb}
use Rattle.base_laws.specs.Bools.{lt_or_le, and_fails_right}
use Rattle.base_laws.specs.Definitions.{has}
use Rattle.base_laws.specs.Masks.{has_past}
use Rattle.message_format.specs.Definitions.{legal}
use Rattle.message_rows.proofs.legal.Goals as goal

holder : (members a : ℕ) → members < 2 ^ 32 → has members a ≡ (ltb a 32 && has members a)
holder members a h =
    ⊎_elim (λ l. rw (lt-ltb a 32 l)) (λ l. let z = has_past members 32 a h l in z ∙ sym (and_fails_right (ltb a 32) z)) (lt_or_le a 32)

pub returns-then-kind-eq1 : goal.returns-then-kind-eq1
unfolding legal
returns-then-kind-eq1 c = simp (eq-eqb _ _ c.if-kind-eq1.true)

pub returns-then-kind-eq3 : goal.returns-then-kind-eq3
unfolding legal
returns-then-kind-eq3 c = simp (ne_eqb _ _ c.if-kind-eq1.false, eq-eqb _ _ c.if-kind-eq3.true, sym c.run.ensures)

pub returns-then-kind-eq4 : goal.returns-then-kind-eq4
unfolding legal
returns-then-kind-eq4 c = let a = c.args in
    simp (ne_eqb _ _ c.if-kind-eq1.false, ne_eqb _ _ c.if-kind-eq3.false, eq-eqb _ _ c.if-kind-eq4.true)
    (c.has.ensures ∙ holder a.members a.word1 c.ranges.members.fits)

pub returns-then-not-position : goal.returns-then-not-position
unfolding legal
returns-then-not-position c = simp (ne_eqb _ _ c.if-kind-eq1.false, ne_eqb _ _ c.if-kind-eq3.false, ne_eqb _ _ c.if-kind-eq4.false, sym c.position.ensures, c.if-not-position.true)

pub returns : goal.returns
unfolding legal
returns c = simp (ne_eqb _ _ c.if-kind-eq1.false, ne_eqb _ _ c.if-kind-eq3.false, ne_eqb _ _ c.if-kind-eq4.false, sym c.position.ensures, c.if-not-position.false, sym c.view_fits.ensures)
