pub mod Blocks
pub mod Clones
pub mod Held
pub mod Objects
pub mod Stands
pub mod Steps
