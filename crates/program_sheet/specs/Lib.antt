-- What the program sheet prints (Printing), step by step (Steps), and what follows: the whole run, one text, its numbers and counts (Whole).
pub mod Definitions
pub mod Steps
pub mod Whole
