-- The words are stored in a part of the table that is as long as they are, and that part is read back.
use Prim.Native.Nat.{◌≤◌}
use native.Mathlib.Omega.{arith}
use lib.ListN.{length}
use Rattle.base_lent.specs.Lent.{within_le, part_fits, part-holds}
use Rattle.base_lent.proofs.words_within.Goals as goal

pub slice_bounds-decode-end : goal.slice_bounds-decode-end
slice_bounds-decode-end g c = omega (arith, within_le c.args.most (length c.args.bytes.now))

pub decode-requires : goal.decode-requires
decode-requires g c =
    part_fits c.args.most _ c.args.bytes.now c.count_within-len.ensures _

pub returns : goal.returns
returns g c =
    let room : c.count_within-len.result ≤ g.row.N =
    omega (arith, within_le c.args.most (length c.args.bytes.now)) in
    part-holds c.args.most _ c.args.bytes.now
    c.count_within-len.ensures g.row.N room _ c.decode.ensures
