-- Theorems that rest on what a wrong program may refuse.
pub mod Agreeing
pub mod PlanLaws
