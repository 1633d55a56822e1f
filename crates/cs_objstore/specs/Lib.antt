pub mod Blocks
pub mod Clones
pub mod Files
pub mod Found
pub mod Kept
pub mod Stores
pub mod Versions
