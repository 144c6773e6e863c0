-- The game of outage and crew. Game: its rules, and what it means that a side can force the win. Turns: the two turns as tests, and who wins
-- by them. Decided: the turns decide the game. Once: there is one answer. Rows: games worked out.
pub mod Definitions
pub mod Game
pub mod Turns
pub mod Once
pub mod Rows
