-- `base_bytes::encode` meets its contract. The loop's invariant: the slice is filled with the bytes of the words below i.
-- Assumes nothing.
use mathlib.Core.Path.{sym, ◌∙◌}
use native.Mathlib.Omega.{arith}
use Rattle.base_laws.specs.Tables.{filled_none}
use Rattle.base_bytes.specs.Definitions.{byte_at}
use Rattle.base_bytes.specs.Words.{bytes_filled, stored_turn}
use Rattle.base_bytes.proofs.encode.Goals as goal

pub loop-i-init : goal.loop-i-init
loop-i-init c = sym (filled_none (byte_at c.args.words.now) c.args.bytes.now)

pub put-requires : goal.put-requires
put-requires c = omega arith

pub loop-i-preserved : goal.loop-i-preserved
loop-i-preserved c =
    let s = c in
    let i = s.loop-i.i in
    let words = s.args.words.now in
    let bytes₀ = s.args.bytes.now in
    let bytes = s.loop-i.bytes in c.put.ensures ∙ stored_turn words bytes₀ bytes i (omega arith) s.loop-i.invariant

pub shape_of-bytes : goal.shape_of-bytes
shape_of-bytes c = c.loop-i.auto.bytes

pub returns : goal.returns
returns c =
    let words = c.args.words.now in
    let bytes₀ = c.args.bytes.now in
    c.loop-i.invariant ∙ bytes_filled words bytes₀ c.loop-i.i (omega arith) (omega arith)
