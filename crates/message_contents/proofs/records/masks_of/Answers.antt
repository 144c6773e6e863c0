-- `message_contents::records::masks_of` meets its contract. The invariant: the table is filled below s.
use mathlib.Core.Path.{◌≡◌, sym, ap, ◌∙◌}
use Prim.Native.Nat.{ℕ}
use native.Mathlib.Omega.{arith}
use lib.ListN.{replicate}
use Rattle.base_laws.specs.Tables.{filled, filled_none}
use Rattle.base_laws.proofs.Tables.{filled_turn}
use Rattle.settings_values.specs.Definitions.{shards}
use Rattle.message_format.specs.Definitions.{members_of}
use Rattle.message_contents.specs.Laws.{masks_filled}
use Rattle.message_contents.proofs.records.masks_of.Goals as goal

pub loop-s-init : goal.loop-s-init
loop-s-init c = sym (filled_none (members_of c.args.c.now.body) (replicate 16 0))

pub loop-s-preserved : goal.loop-s-preserved
loop-s-preserved c = let l = c.loop-s in filled_turn l.s (members_of c.args.c.now.body) (replicate 16 0) l.masks c.word1.result
    (omega arith) l.invariant c.word1.ensures

pub returns : goal.returns
returns c = let a = c.args in
    let l = c.loop-s in
    let e : l.s ≡ shards a.settings.now = omega arith in
    l.invariant
    ∙ ap (λ (n : ℕ). filled n (members_of a.c.now.body) (replicate 16 0)) e
    ∙ masks_filled (shards a.settings.now) a.c.now.body (omega arith)
