-- What a restart is: a plan and its properties, or the first reason why there is none. Kept: what a sound kept view gives.
-- Planning: that a met quorum and a placement of all subgroups give a plan. Unique: that there is one verdict.
pub mod Answers
pub mod Definitions
pub mod Restarts
pub mod Kept
pub mod Planning
pub mod Unique
pub mod Offers
pub mod Offering
pub mod OneOffer
