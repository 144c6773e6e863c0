-- `plan_order::order_contents` meets its contract: the contents with the cuts that the desk gives. Assumes nothing.
use Rattle.plan_order.proofs.order_contents.Goals as goal

pub returns : goal.returns
returns c = c.contents_with.ensures _ c.cuts_of-cuts.ensures
