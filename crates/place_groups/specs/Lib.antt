-- Placements of a subgroup, and the choice among those of least moves.
pub mod Definitions
pub mod Sets
pub mod Placed
pub mod Chosen
pub mod Sheet
pub mod Laws
