-- `report_desk::store` meets its contract: the slot's bytes are lent, and are put back as the message with zeros after it.
use Prim.Native.Nat.{ℕ, ◌^◌, ◌<◌}
use native.Mathlib.Omega.{arith}
use lib.ListN.{get_or}
use Rattle.report_desk.specs.Bytes.{words-stored, bytes_stored}
use Rattle.report_desk.proofs.store.Goals as goal

pub returns : goal.returns
returns c =
    let s = c in
    let fit : ((k : ℕ) → get_or s.args.message.now k 0 < 2 ^ 32) = λ k. omega (arith, c.type_inv.message k) in (record {
      words = words-stored s.args.desk.now s.args.node.0 s.args.message.now s.requires.desk_len.0 s.requires.desk_len.1 s.requires.message_len_bound fit _ c.copy.ensures;
      bytes = bytes_stored s.args.desk.now s.args.node.0 s.args.message.now s.requires.desk_len.0 s.requires.desk_len.1 s.requires.message_len_bound fit _ c.copy.ensures
          (λ k. (c.type_inv.desk k).fits);
    })
