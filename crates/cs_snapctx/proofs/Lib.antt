pub mod Contexts
pub mod Descending
pub mod Members
