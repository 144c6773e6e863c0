-- A group that has restarted from whole reports can go over to short ones: over a course in which no base changes, bases agree at its end.
use Rattle.std.specs.Prelude.{ℕ}
use Rattle.std.proofs.Common.{subst}
use Rattle.std.proofs.Math.Path.{subst⁻¹}
use Rattle.history_laws.specs.Definitions.{History}
use Rattle.history_course_laws.specs.Course.{Orderly}
use Rattle.history_course_laws.specs.Ever.{Course, supposing}
use Rattle.history_course_laws.proofs.Ever.{stands_on}
use Rattle.history_short_laws.specs.Based.{Based, AddsOnly, BasesStay, at-first, ran, carried, gave_up}
use Rattle.history_short_laws.proofs.Bases.{run_based}
use Rattle.history_short_laws.proofs.ShortEver.{carried_based, given_up_based}

module _ {S : ℕ} {H : History} where
  pub based_on : {G : History} → Orderly H → Based S H → (c : Course S H G) → BasesStay S H G c → Based S G
  based_on o b _ at-first = b
  based_on o b _ (ran G K c x y views adds) = run_based views adds (based_on o b c y)
  based_on o b _ (carried G K c r x y adds) =
      let g = stands_on o c in
      subst (λ (k : ℕ). Based k K) r.same
      (carried_based r.σ r.v r.t r.held r.d r.few r.wide r.slots r.met G (supposing g.rule r) g r.ended
      (subst⁻¹ (λ (k : ℕ). Based k G) r.same (based_on o b c y)) r.w r.next K x (subst⁻¹ (λ (k : ℕ). AddsOnly k G K) r.same adds))
  based_on o b _ (gave_up G K c r x y) =
      let g = stands_on o c in
      subst (λ (k : ℕ). Based k K) r.same
      (given_up_based r.σ r.v r.t r.held r.d r.few r.wide r.slots r.met G (supposing g.rule r) g r.ended
      (subst⁻¹ (λ (k : ℕ). Based k G) r.same (based_on o b c y)) r.w r.next K x)
