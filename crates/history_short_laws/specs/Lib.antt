-- Short reports: what they tell, that they give the plans of whole ones, and what no course with them loses.
pub mod Based
pub mod Short
pub mod Bases
pub mod Telling
pub mod Recipe
pub mod ShortEver
pub mod UpdateLists
pub mod Shortening
pub mod Few
