-- `program_run::Run::close` meets its contract: no block is coming in, or one that is cut short. Assumes nothing.
use mathlib.Core.List.{[]}
use Rattle.program_run.specs.Steps.{close_none, close_cut, cut_comes}
use Rattle.program_run.proofs.Run.close.Goals as goal

pub returns-then-end-lt4 : goal.returns-then-end-lt4
returns-then-end-lt4 c = close_none c.args.self _ _ c.requires.ready_run c.if-end-lt4.true

pub take_bytes-requires : goal.take_bytes-requires
take_bytes-requires c = record { comes = cut_comes c.args.self [] c.args.bytes.now c.requires.ready_run c.if-end-lt4.false; desk_len = c.requires.desk_len }

pub returns : goal.returns
returns c = close_cut c.args.self _ _ c.requires.ready_run c.if-end-lt4.false _ _ c.take_bytes.ensures
