-- `program_input::read_to` meets its contract. Assumes nothing.
use Prim.Native.Nat.{ℕ, ◌+◌}
use mathlib.Core.Path.{ap, ◌∙◌}
use lib.ListN.{length}
use Rattle.program_input.proofs.read_to.Goals as goal

pub returns : goal.returns
returns c =
    let s = c in
    let x = s.args.x in
    let bytes = s.args.bytes.now in
    ap (λ (k : ℕ). record { total = x.total + length bytes; sum = x.sum + k; reads = x.reads + 1; got = length bytes; source = s.args.source })
    (c.from-sum.ensures ∙ c.sum_of.ensures)
