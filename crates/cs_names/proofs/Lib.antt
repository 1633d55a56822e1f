pub mod Entries
pub mod Setups
pub mod Steps
pub mod Tables
