-- A subgroup's case from settings and masks, and that its first placement of least weight is the choice in the model's own terms,
-- which there is once, in each subgroup and over all shards. And what caps change, and what not.
pub mod Definitions
pub mod Cases
pub mod Shards
pub mod Owners
pub mod Local
pub mod Choice
pub mod Whole
pub mod Tables
pub mod Adding
pub mod Floor
pub mod Exactly
pub mod Uncapped
