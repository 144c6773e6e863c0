-- A node that must be placed could not be, too few sets, or a bound above k with the list ended. Assumes nothing.
use Prim.Native.Nat.{ℕ, ◌/◌}
use mathlib.Core.Path.{subst}
use native.Mathlib.Omega.{arith}
use Rattle.search_laws.specs.Case.{spread, meets}
use Rattle.search_laws.proofs.Tests.{none_thin}
use Rattle.search_laws.specs.Tables.{case_of, owners_of}
use Rattle.search_hinted.specs.Stage.{Exceeded, stage_close, stage_none, stage_only_here, begun_at}
use Rattle.search_hinted.proofs.ends.Goals as goal

pub returns-then-lacks : goal.returns-then-lacks
unfolding spread meets
returns-then-lacks c = let s = c in
    λ e. none_thin (s.args.t / 32) (omega (arith, s.requires.t_bound.0)) (omega arith) (c.lacks.ensures c.if-lacks.true)

pub returns-then-stuck : goal.returns-then-stuck
returns-then-stuck c = let s = c in λ e. stage_only_here s.requires.narrowed s.requires.t_bound.0 (c.stuck.ensures c.if-stuck.true)

pub exceeds-requires : goal.exceeds-requires
exceeds-requires c = let s = c in
    record { t_bound = (c.next.ensures.2, s.requires.t_bound.1); small = s.requires.small; rows_len = s.requires.narrowed.long; begun = begun_at s.args.t s.requires.t_bound.0 s.requires.narrowed.ready.begun c.next.ensures.0 }

pub returns-then-exceeds : goal.returns-then-exceeds
returns-then-exceeds c = let s = c in λ e.
    stage_none (stage_close s.requires.narrowed s.requires.t_bound.0)
    (subst (λ (j : ℕ). Exceeded (case_of s.args.sets.now s.args.needs.now s.args.caps.now s.args.prices.now s.args.idle) s.args.k (owners_of s.args.owner.now) j s.args.rows.now) c.next.ensures.0 (c.exceeds.ensures c.if-exceeds.true))
