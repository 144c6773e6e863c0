use Prim.Native.Nat.{ℕ, ◌-◌, ◌≤◌}
use mathlib.Core.Path.{◌≡◌}
use lib.ListN.{length, take, drop}
use Rattle.std.specs.Slice.Iter.{windows_rest, windows_size}
use Rattle.program_text.specs.Definitions.{Puts}
use Rattle.mondays_windows.specs.Definitions.{window_of, window_lines}
use Rattle.mondays_windows.proofs.put_windows.Given as goal

abbrev pub invariant-loop-part : goal.invariant-loop-part
invariant-loop-part l =
    let rest = windows_rest l.part-iterator in
    let i : ℕ = length l.moves - length rest in
    (windows_size l.part-iterator ≡ 65) × (64 ≤ length rest) × (rest ≡ drop i l.moves) × (l.window ≡ window_of (take 64 rest))
    × Puts l.initial.out 0 (window_lines l.moves i) l.out l.next
