-- `c_placement::array` meets its contract: the slice has N bytes, so it is an array, and the same. Assumes nothing.
use Rattle.c_placement.proofs.array.Goals as goal

pub returns : goal.returns
returns g c = let w = rw c.unwrap.ensures at c.as_array.ensures.cases in w.same
