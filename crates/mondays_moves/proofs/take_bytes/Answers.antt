-- `mondays_moves::take_bytes` meets its contract: the moves that are kept and those of the good lines stand one after another, so the windows
-- put are theirs, and the tally after them. Assumes nothing.
use Rattle.mondays_moves.specs.Walking.{taken_open}
use borrow.Author.Rules.{rules}
use Rattle.mondays_moves.proofs.take_bytes.Goals as goal

pub returns : goal.returns
returns c =
    let s = c in
    taken_open s.args.tally s.args.bytes.now s.args.out.now _ _ _ _ _ _ _ _ _ _ _ _ (search rules) s.requires.0 s.requires.1 c.put_kept-at.ensures c.gather-lines.ensures c.ended-refusal.ensures
    c.put_windows-windows.ensures c.put_refusal-len.ensures c.tally_of-after.ensures
