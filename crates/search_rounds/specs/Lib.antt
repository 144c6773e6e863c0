-- Improving rounds in one subgroup. Post: what they promise. Exists: a round can be made wherever a lighter placement is, and where they end.
pub mod Post
pub mod Exists
