pub mod Entries
pub mod Example
pub mod Leases
