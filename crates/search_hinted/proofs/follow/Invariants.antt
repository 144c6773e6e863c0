use Prim.Native.Nat.{◌≤◌, ◌-◌}
use Rattle.search_laws.specs.Tables.{case_of}
use Rattle.search_hinted.specs.Post.{Sure}
use Rattle.search_hinted.proofs.follow.Given as goal

abbrev pub invariant-loop-p : goal.invariant-loop-p
invariant-loop-p l = (l.p ≤ 1024) × Sure (case_of l.sets l.needs l.caps l.prices l.idle) l.k l.owner l.p l.rows

abbrev pub decreases-loop-p : goal.decreases-loop-p
decreases-loop-p l = 1024 - l.p
