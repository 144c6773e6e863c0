-- Document 01's runs at the level of decide. Start: the states that they start from. Taken: decide refuses none of them.
-- PlanA: what decide's promise says of case A. Table: cases A to F and I. Events: a row for each clause of the events. Readiness: one for each of
-- readiness.
pub mod Start
pub mod Taken
pub mod PlanA
pub mod Table
pub mod Events
pub mod Readiness
pub mod Rows
pub mod Refusing
pub mod Worlds
