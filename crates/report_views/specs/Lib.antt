-- Logs, reports on the desk, the quorum with each shard's target and holder, and the cut.
pub mod Definitions
pub mod Shorthands
pub mod LogLaws
pub mod Best
pub mod Standings
pub mod Numbers
pub mod PlanLaws
pub mod RunLaws
pub mod Updates
pub mod Cuts
pub mod Meets
pub mod Agreeing
