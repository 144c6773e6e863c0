-- `program_input::Input::read` meets its contract, answer by answer. Assumes nothing.
use Prim.Native.Nat.{◌≤◌}
use mathlib.Core.Path.{refl, ap, ◌∙◌}
use native.Mathlib.Omega.{arith}
use Rattle.base_laws.specs.Tables.{part_front}
use Rattle.program_input.specs.Definitions.{read_to, most, most_counted}
use Rattle.program_input.specs.Inputs.{read_failed, read_gave}
use Rattle.program_input.proofs.Input.read.Goals as goal

pub returns-in-Err : goal.returns-in-Err
returns-in-Err c =
    let counted : most_counted c.args.self ≤ most = omega (arith, c.if-max-gt-MOST.false, c.max-2.ensures, c.max.ensures) in
    let p = read_failed c.args.self _ c.read.new.buf _ _ counted refl (c.read_to-in-Err.ensures ∙ ap (read_to c.args.self _) c.after_failure.ensures) in
    record { got_in_bounds = p.0; reads_on = p.1 }

pub returns-in-Ok : goal.returns-in-Ok
returns-in-Ok c =
    let counted : most_counted c.args.self ≤ most = omega (arith, c.if-max-gt-MOST.false, c.max-2.ensures, c.max.ensures) in
    let p =
    read_gave c.args.self _ _ _ c.in-Ok.n _ counted c.in-Ok.ensures.bound.0 (part_front c.in-Ok.n c.read.new.buf) c.after_bytes.ensures
    c.read_to.ensures in
    record { got_in_bounds = p.0; reads_on = p.1 }
