pub mod Sent
pub mod Untold
