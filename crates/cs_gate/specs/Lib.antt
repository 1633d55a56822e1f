pub mod Gate
pub mod Moves
pub mod Handles
