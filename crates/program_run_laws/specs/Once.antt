-- One text is printed for an input; and runs that come to the same kept view, termination, held mask and contents of the held reports
-- under the same settings print the same, so that two leaders' logs can be compared.
use Rattle.std.specs.Prelude.{ℕ, List, ◌≡◌}
use Rattle.std.proofs.Common.{sym, ap, ◌∙◌}
use Rattle.state_planner.specs.declared.Decided.{Decided}
use Rattle.state_laws.proofs.Once.{decides_unique}
use Rattle.program_blocks.specs.Definitions.{blocks}
use Rattle.program_lines.specs.Definitions.{decision_text}
use Rattle.program_run.specs.Definitions.{Progress, Started, Underway, Ended, after, at_start, Prints, Printed}

prints_unique : (p : Progress) (a b : List ℕ) → Prints p a → Prints p b → a ≡ b
unfolding Prints
prints_unique (Started d) a b h k = h ∙ sym k
prints_unique (Underway σ x d) a b h k =
    h.says ∙ (ap (λ (o : Decided). decision_text σ o.decision o.state.plan) (decides_unique h.decides k.decides) ∙ sym k.says)
prints_unique (Ended r d) a b h k = h ∙ sym k

-- one input: one text
pub printed_unique : (input a b : List ℕ) → Printed input a → Printed input b → a ≡ b
unfolding Printed
printed_unique input a b h k = prints_unique (after at_start (blocks input)) a b h k
