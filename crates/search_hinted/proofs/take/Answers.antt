-- The pair's node has no owner where it is taken. Assumes nothing.
use Prim.Native.Nat.{ℕ, ◌%◌}
use mathlib.Core.Path.{ap}
use mathlib.Core.Bool.{false≢true}
use lib.ListN.{set}
use Rattle.search_hinted.proofs.take.Goals as goal

pub returns-then-owner-t-lt16 : goal.returns-then-owner-t-lt16
returns-then-owner-t-lt16 c = record { bound = λ e. absurd (false≢true e); rows_after = λ e. absurd (false≢true e) }

pub returns : goal.returns
returns c = let s = c in record { bound = λ e. (c.if-owner-t-lt16.false, ap (λ (v : ℕ). set s.args.owner.now (s.args.t % 32) v) c.shard.ensures); rows_after = λ e. ap (λ (v : ℕ). set s.args.rows.now 16 v) c.without.ensures }
