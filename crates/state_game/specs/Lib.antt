-- The game over a state. Playing: when it is refused, and what it hands back. Steps: case by case, for the code. Asked: a plan after a turn is
-- what decide would answer with the nodes then held, and there is one outcome. Rows: the limits, row by row.
pub mod Definitions
pub mod Steps
pub mod Asked
pub mod Rows
