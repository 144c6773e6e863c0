-- Theorems that rest on what a wrong program may refuse.
pub mod Bases
pub mod Changeover
pub mod Few
pub mod Recipe
pub mod RecipeAfter
pub mod Short
pub mod ShortEver
pub mod Shortening
