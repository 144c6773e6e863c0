use mathlib.Core.Path.{◌≡◌}
use Prim.Native.Nat.{◌*◌}
use Rattle.base_laws.specs.Tables.{filled}
use Rattle.base_bytes.specs.Definitions.{byte_at}
use Rattle.base_bytes.proofs.encode.Given as goal

abbrev pub invariant-loop-i : goal.invariant-loop-i
invariant-loop-i l = l.bytes ≡ filled (4 * l.i) (byte_at l.words) l.initial.bytes
