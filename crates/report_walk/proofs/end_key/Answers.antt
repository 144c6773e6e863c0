-- `report_walk::end_key` meets its contract.
use Rattle.std.proofs.Common.{◌/◌, ◌%◌, arith}
use Rattle.report_walk.specs.Seen.{two_fit, half_fits}
use Rattle.report_walk.proofs.end_key.Goals as goal

pub overflow_mul-result : goal.overflow_mul-result
overflow_mul-result c = record { fits = omega (arith, c.ranges.front.fits) }

pub overflow_add-result : goal.overflow_add-result
overflow_add-result c = record { fits = two_fit (c.args.front / 4294967296) (c.args.back % 4294967296) (half_fits c.args.front c.ranges.front.fits) (omega arith) }
