-- The game on a table of decisions. Table: what the table says. Steps: the turns step by step.
pub mod Table
pub mod Steps
