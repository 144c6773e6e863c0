use mathlib.Core.Path.{sym}
use lib.ListN.{get_or-eq_default}
use native.Mathlib.Omega.{arith}
use Prim.Native.Nat.{◌+◌, ◌*◌}
use Rattle.message_chain.proofs.named_by.Goals as goal

pub returns : goal.returns
returns c =
    sym (get_or-eq_default c.args.words.now 0 {n = 4 * c.args.i + 3} (omega (arith, c.if-i-words.false)))
