-- The floor is above k. Assumes nothing.
use borrow.Author.Tests.{ltb-true}
use Rattle.search_hinted.specs.Post.{sound_none}
use Rattle.search_hinted.proofs.exceeds.Goals as goal

pub returns-in-Some : goal.returns-in-Some
returns-in-Some c = λ e. sound_none (ltb-true _ _ e) c.in-Some.ensures
