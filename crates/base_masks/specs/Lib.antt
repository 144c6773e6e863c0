-- base_masks
pub mod Majority
