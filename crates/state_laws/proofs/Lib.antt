-- Theorems that rest on what a wrong program may refuse.
pub mod AfterDrop
pub mod AfterReport
pub mod Once
pub mod Reached
