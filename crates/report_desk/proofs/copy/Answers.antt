-- `report_desk::copy` meets its contract: the first bytes are the message's, with zeros after it.
use Prim.Native.Nat.{◌*◌, ◌-◌}
use native.Mathlib.Omega.{arith}
use mathlib.Core.Path.{sym}
use lib.ListN.{length, length-take}
use Rattle.base_bytes.specs.Definitions.{bytes_of}
use Rattle.base_bytes.specs.Words.{length_bytes}
use Rattle.report_desk.specs.Bytes.{copied_front, copied_all}
use Rattle.report_desk.proofs.copy.Goals as goal

pub slice_bounds-encode-end : goal.slice_bounds-encode-end
slice_bounds-encode-end c = let s = c in omega (arith, s.requires.0, s.requires.1)

pub encode-requires : goal.encode-requires
encode-requires c =
    let s = c in
    omega (arith, s.requires.0, s.requires.1, length-take (4 * length s.args.message.now - 0) s.args.slot.now)

pub returns : goal.returns
returns c =
    let s = c in
    let long = length_bytes s.args.message.now in
    copied_all
    (copied_front (bytes_of s.args.message.now) s.args.slot.now _ (4 * length s.args.message.now) (omega (arith, long, s.requires.1)) s.requires.0 (sym long) c.encode.ensures)
    (sym long) _ (c.fill.ensures.after (λ y e. e))
