-- What follows from what decide promises: it plans and waits just where it should (Exactly), and there is one outcome (Once). Within: the
-- same of decide with improving rounds.
pub mod Exactly
pub mod Once
pub mod Within
pub mod Parts
pub mod Keeping
pub mod Fitting
pub mod Desks
pub mod Noting
pub mod Fresh
pub mod AfterReport
pub mod AfterDrop
pub mod Marks
pub mod AfterMarks
pub mod AfterPlan
pub mod AfterDecide
pub mod Reached
pub mod Carried
