-- What a run comes to and prints (Runs), what a Run in memory stands for (Machine), laws of both (RunLaws, Steps), and the whole
-- run (Whole).
pub mod Definitions
pub mod Runs
pub mod Machine
pub mod RunLaws
pub mod Steps
pub mod Whole
