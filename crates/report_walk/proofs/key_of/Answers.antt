-- `report_walk::key_of` meets its contract.
use Rattle.std.proofs.Common.{◌/◌, ◌%◌, refl, arith}
use Rattle.report_walk.specs.Seen.{key_of, two_fit, half_fits}
use Rattle.report_walk.proofs.key_of.Goals as goal

pub overflow_add-result : goal.overflow_add-result
overflow_add-result c = record { fits = two_fit (c.args.front % 4294967296) (c.args.front / 4294967296) (omega arith) (half_fits c.args.front c.ranges.front.fits) }

pub returns : goal.returns
unfolding key_of
returns c = refl
